use Rattle.std.proofs.Common.{◌≡◌, ◌+◌, ◌∷◌, ℕ, List, drop, ap, arith}
use Rattle.std.proofs.lemmas.Grind.{common_steps}
use Rattle.std.specs.Prelude.{flat_map}
use Rattle.dc_address.specs.declared.identity.Identity.{Identity}
use Rattle.mbdc_io.specs.Stream.{PutsFront}
use Rattle.dc_search.specs.Found.{found_line}
use Rattle.dc_search.proofs.TextFronts.{front_of_all}
use Rattle.dc_search.proofs.found.put_found.Goals as goal

pub returns-in_err-put_meter : goal.returns-in_err-put_meter
returns-in_err-put_meter g c =
    let i : ℕ = c.loop-meter.meter-index in
    let meters : List Identity = c.args.meters.now in
    let meter : Identity = c.meter-item.result in
    let next : drop i meters ≡ meter ∷ drop (i + 1) meters = grind (arith, common_steps) in
    let front : PutsFront (g.W.Sink.written c.args.out.now) (g.W.Sink.written c.put_meter.new.out) (flat_map found_line meters) =
    front_of_all _ _ _ (found_line meter) (flat_map found_line (drop (i + 1) meters)) _ _ (ap (flat_map found_line) next) c.loop-meter.invariant.text c.in_err-put_meter.ensures.2 in
    grind arith

pub loop-meter-preserved : goal.loop-meter-preserved
loop-meter-preserved g c = grind (arith, common_steps)

pub returns : goal.returns
returns g c = grind (arith, common_steps)
