use Rattle.std.proofs.Common.{◌≡◌, ◌↔◌, ◌<◌, ◌≤◌, ℕ, List, All, AllPairs, take, length, map, arith, ap, sym, ◌∙◌, refl, subst}
use Rattle.mbdc_audit.proofs.Checks.{link, same, through}
use Rattle.mbdc_audit.specs.View.{allowed_of, house_of, place_of, run_of}
use Rattle.std.proofs.lemmas.List.{take_all}
use Rattle.mbdc_audit.specs.House.{House}
use Rattle.mbdc_audit.specs.declared.curve.Run as run_type
use Rattle.mbdc_audit.specs.declared.house.Allowed as allowed_type
use Rattle.mbdc_audit.proofs.Windowed.{HasTime, IsCounted, IsFollowed, are_runs, of_use, runs_more, third}
use Rattle.mbdc_audit.proofs.teller.Teller.check_runs.Goals as goal

abbrev SoFar : House → ℕ → List ℕ → List run_type.Run → Type 0
SoFar h used name rs = All HasTime rs × AllPairs IsFollowed rs × All (IsCounted h used name) rs

pub runs-preserved : goal.runs-preserved
runs-preserved g c =
    let below : c.runs.i < length c.as_slice-runs.result.now = omega arith in
    link c.runs.invariant (link (same c.in_ok-unless.ensures c.is_after_all.ensures)
    (same c.in_ok-unless_counted.ensures (through c.is_counted.ensures (of_use c.as_slice-allowed.result.now c.args.place.now.used
    (run_of c.index-runs-i.result) (house_of c.args.house.now)
    (ap (λ (xs : List allowed_type.Allowed). map allowed_of xs) (sym c.as_slice-allowed.ensures.value))))) third)
    (runs_more (house_of c.args.house.now) c.args.place.now.used c.args.name.now c.as_slice-runs.result.now c.runs.i c.index-runs-i.result below c.index-runs-i.is)

pub returns : goal.returns
returns g c =
    let past : length c.as_slice-runs.result.now ≤ c.runs.i = omega arith in
    let is : take c.runs.i c.as_slice-runs.result.now ≡ c.args.place.now.runs.items =
    take_all c.runs.i c.as_slice-runs.result.now past ∙ c.as_slice-runs.ensures.value in
    same c.runs.invariant (through
    (subst (λ (rs : List run_type.Run). SoFar (house_of c.args.house.now) c.args.place.now.used c.args.name.now (take c.runs.i c.as_slice-runs.result.now)
    ↔ SoFar (house_of c.args.house.now) c.args.place.now.used c.args.name.now rs) is (λ r. r, λ r. r))
    (are_runs (house_of c.args.house.now) c.args.name.now (place_of c.args.place.now) c.args.place.now.runs.items refl))
