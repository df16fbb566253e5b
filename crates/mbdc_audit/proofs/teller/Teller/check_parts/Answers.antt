use Rattle.std.proofs.Common.{◌≡◌, ◌↔◌, ◌<◌, ◌≤◌, List, IsTrue, take, map, length, arith, ap, sym, ◌∙◌, subst}
use Rattle.mbdc_audit.specs.Walk.{is_clean}
use Rattle.mbdc_audit.proofs.Checks.{back, link, same, through}
use Rattle.mbdc_audit.specs.View.{house_of, part_of, user_of, window_of, place_of}
use Rattle.std.proofs.Common.{eqb-true, eq-eqb}
use Rattle.std.proofs.lemmas.List.{take_all}
use Rattle.mbdc_audit.specs.declared.house.Part as part_type
use Rattle.mbdc_audit.specs.declared.house.User as user_type
use Rattle.mbdc_audit.proofs.Windowed.{of_flat, fourth}
use Rattle.mbdc_audit.proofs.Reached.{SoFar, all_parts, end_after, so_far_step}
use Rattle.mbdc_audit.proofs.teller.Teller.check_parts.Goals as goal

pub parts-preserved : goal.parts-preserved
parts-preserved g c =
    let below : c.parts.part-index < length c.as_slice-parts.result.now = omega arith in
    so_far_step (house_of c.args.house.now) c.args.place.now.flat.now c.args.time.0 c.args.time.1 c.parts.reached
    c.as_slice-parts.result.now c.parts.part-index _ below c.parts.invariant.0 c.parts.invariant.1
    (link (same c.in_ok-unless.ensures c.is_adjacent.ensures) (same c.in_ok-unless-2.ensures (through c.is_user_of-is_user.ensures
    (of_flat c.deref.result.now c.args.place.now.flat.now _ (house_of c.args.house.now)
    (ap (λ (us : List user_type.User). map user_of us) (sym c.deref.ensures.value))))) fourth)

pub returns : goal.returns
returns g c = λ s is_from is_to.
    let past : length c.as_slice-parts.result.now ≤ c.parts.part-index = omega arith in
    let is : take c.parts.part-index c.as_slice-parts.result.now ≡ c.args.window.now.parts.items =
    take_all c.parts.part-index c.as_slice-parts.result.now past ∙ c.as_slice-parts.ensures.value in
    let reached : c.parts.reached ≡ end_after c.args.time.0 (map part_of c.args.window.now.parts.items) =
    c.parts.invariant.0 ∙ ap (λ (ps : List part_type.Part). end_after c.args.time.0 (map part_of ps)) is in
    link (subst (λ (ps : List part_type.Part). IsTrue (is_clean c.parts.self.counts) ↔ (IsTrue (is_clean c.args.self.now.counts)
    × SoFar (house_of c.args.house.now) c.args.place.now.flat.now c.args.time.0 c.args.time.1 (map part_of ps))) is c.parts.invariant.1)
    (same c.in_ok-unless-3.ensures (λ t. eqb-true _ _ t, λ e. eq-eqb _ _ e))
    (back (all_parts (house_of c.args.house.now) (place_of c.args.place.now) s (window_of c.args.window.now) c.args.time.0 c.args.time.1
    c.parts.reached is_from is_to reached))
