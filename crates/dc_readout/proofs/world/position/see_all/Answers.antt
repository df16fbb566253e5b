use Rattle.std.proofs.Common.{◌≡◌, ◌<◌, ◌+◌, length, get_or, slice_set, arith, refl, sym, ◌∙◌, ap, subst}
use Rattle.dc_linkframe.specs.Frame.{FrameSeen}
use Rattle.dc_readout.specs.Meter.{Position, moved_by}
use Rattle.dc_readout.specs.Request.{frame_asked, MayGoOn}
use Rattle.dc_readout.proofs.Lists.{there}
use Rattle.dc_readout.proofs.Turns.{next_stands, turn, all_turns}
use Rattle.dc_readout.proofs.world.position.see_all.Goals as goal

pub see-requires : goal.see-requires
see-requires g c =
    let frame : FrameSeen = frame_asked c.args.request in
    let i = c.loop-i.i in
    let m = c.index-scripts-i.result in
    let p = c.index-positions-i.result in
    let stands = sym (next_stands i frame c.args.scripts.now c.args.positions.now p) ∙ ap (λ xs. get_or xs i p) (sym c.loop-i.invariant) ∙ sym c.index-positions-i.is in
    let within : i < length c.args.scripts.now = c.loop-i-test.true in
    let inside : i < length c.args.positions.now = omega (arith, within, c.requires.one_each) in
    let near = c.requires.near i m p (there c.args.scripts.now i m within c.index-scripts-i.is) (there c.args.positions.now i p inside (sym stands)) in
    subst (λ (q : Position). MayGoOn c.args.request m.address q) (c.index-positions-i.is) near

pub loop-i-preserved : goal.loop-i-preserved
loop-i-preserved g c =
    let frame : FrameSeen = frame_asked c.args.request in
    let inv = c.loop-i.invariant in
    let i = c.loop-i.i in
    let m = c.index-scripts-i.result in
    let p = c.index-positions-i.result in
    let stands = sym (next_stands i frame c.args.scripts.now c.args.positions.now p) ∙ ap (λ xs. get_or xs i p) (sym inv) ∙ sym c.index-positions-i.is in
    let a = c.index-scripts-i.is in
    let b = c.index-positions-i.is in
    let e = c.see.ensures in
    let moved : c.see.new.self ≡ moved_by frame m p = cc in
    let within : i < length c.args.scripts.now = c.loop-i-test.true in
    let inside : i < length c.args.positions.now = omega (arith, within, c.requires.one_each) in
    ap (λ x. slice_set c.loop-i.positions i x) moved
    ∙ ap (λ xs. slice_set xs i (moved_by frame m p)) inv
    ∙ sym (turn i (i + 1) frame c.args.scripts.now c.args.positions.now m p refl within inside (sym c.index-scripts-i.is) stands)

pub returns : goal.returns
returns g c =
    c.loop-i.invariant ∙ all_turns c.loop-i.i (frame_asked c.args.request) c.args.scripts.now c.args.positions.now c.requires.one_each c.loop-i-test.false
