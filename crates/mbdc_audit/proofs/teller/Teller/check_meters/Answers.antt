use Rattle.std.proofs.Common.{◌≡◌, ◌<◌, ◌≤◌, ◌+◌, ◌++◌, ◌∷◌, [], List, ap, arith, get_or, length, map, subst, take, ◌∙◌}
use Rattle.std.proofs.lemmas.List.{map-append, take_all}
use Rattle.mbdc_audit.specs.Sound.{Fitted, IsOnce}
use Rattle.mbdc_audit.specs.View.{run_of}
use Rattle.mbdc_audit.specs.Walk.{Meets, fit, key_of}
use Rattle.mbdc_audit.specs.declared.curve.Run as run_type
use Rattle.mbdc_audit.proofs.Checks.{took}
use Rattle.mbdc_audit.proofs.PairsMet.{map_map, meets_none, meets_one}
use Rattle.mbdc_audit.proofs.teller.Teller.check_meters.Goals as goal

pub runs-init : goal.runs-init
runs-init g c = λ xs met. meets_none key_of fit IsOnce c.args.self.now.counts c.args.met.now xs met

pub runs-preserved : goal.runs-preserved
runs-preserved g c = λ xs met.
    let runs = c.args.place.now.runs.items in
    let below : c.runs.run-index < length runs = omega arith in
    let is = subst (λ (rs : List run_type.Run). c.run-item.result ≡ get_or rs c.runs.run-index c.run-item.result) c.deref-run-items.ensures.value c.run-item.is in
    let view : run_type.Run → Fitted = λ r. record { used = c.args.place.now.used; run = run_of r } in
    let more = ap (λ (rs : List run_type.Run). map view rs) (took runs c.runs.run-index c.run-item.result below is)
    ∙ map-append view (take c.runs.run-index runs) (c.run-item.result ∷ []) in
    meets_one key_of fit IsOnce c.args.self.now.counts c.runs.self.counts c.check_meter.new.self.counts c.runs.met c.add.new.self xs
    (map view (take c.runs.run-index runs)) (map view (take (c.runs.run-index + 1) runs)) _ _ c.in_ok-add.ensures c.from.ensures
    (c.runs.invariant xs met) (c.in_ok-check_meter.ensures (xs ++ map view (take c.runs.run-index runs))) more

pub returns : goal.returns
returns g c = λ xs met.
    let runs = c.args.place.now.runs.items in
    let past : length runs ≤ c.runs.run-index = omega arith in
    let view : run_type.Run → Fitted = λ r. record { used = c.args.place.now.used; run = run_of r } in
    subst (λ (ys : List Fitted). Meets key_of fit IsOnce c.args.self.now.counts c.runs.self.counts c.runs.met xs ys)
    (ap (λ (rs : List run_type.Run). map view rs) (take_all c.runs.run-index runs past)
    ∙ map_map (λ r. record { used = c.args.place.now.used; run = r }) run_of runs) (c.runs.invariant xs met)
