use Rattle.std.proofs.Common.{[], List, ℕ, map, refl, ◌∙◌, ap}
use Rattle.std.proofs.lemmas.List.{take_all}
use Rattle.dc_readout.specs.Meter.{first_position}
use Rattle.dc_readout.proofs.Lists.{one_more}
use Rattle.dc_readout.proofs.world.world.World.new.Goals as goal

pub loop-i-preserved : goal.loop-i-preserved
loop-i-preserved g c =
    let none : List (List ℕ) = [] in
    let a = c.in_ok-push.ensures.items in
    let b = c.loop-i.invariant.stand in
    let d = c.first.ensures in
    let e = one_more first_position c.loop-i.i c.args.scripts.now c.loop-i-test.true in
    let a' = c.in_ok-push-2.ensures.items in
    let b' = c.loop-i.invariant.none_open in
    let d' = c.new.ensures in
    let e' = one_more none c.loop-i.i c.args.scripts.now c.loop-i-test.true in
    record { stand = cc; none_open = cc }

pub returns : goal.returns
returns g c =
    let none : List (List ℕ) = [] in
    let all = take_all c.loop-i.i c.args.scripts.now c.loop-i-test.false in
    let a = c.loop-i.invariant.stand ∙ ap (map (λ meter. first_position)) all in
    let b = c.loop-i.invariant.none_open ∙ ap (map (λ meter. none)) all in
    rw (a, b, c.new-2.ensures.items) refl
