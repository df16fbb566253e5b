use Rattle.std.proofs.Common.{◌≡◌, List, ℕ, Bool, true, false, not, Some, ap, subst, sym, refl, ◌∙◌, arith}
use Rattle.std.specs.Prelude.{IsSome}
use Rattle.std.specs.Option.{option_copied_mut}
use Rattle.std.specs.Map.{lookup}
use Rattle.std.specs.BTreeMap.{is_at}
use Rattle.std.proofs.lemmas.Grind.{common_steps}
use Rattle.dc_address.specs.Identity.{identity_cmp}
use Rattle.mbdc_change.specs.State.{MeterRow}
use Rattle.mbdc_change.proofs.Exact.{some_is}
use Rattle.dc_meters.specs.Places.{MeterRows, place_cmp, among, moved_in}
use Rattle.dc_meters.proofs.PlaceOrder.{own_place, put_in, taken_out}
use Rattle.dc_meters.proofs.Indexed.{indexed_moved, moved_nowhere}
use Rattle.dc_meters.proofs.meter_map.MeterMap.move_to.Goals as goal

was_there : (b : Bool) → false ≡ not b → b ≡ true
was_there true e = refl
was_there false e = cc

was_away : (b : Bool) → true ≡ not b → b ≡ false
was_away true e = cc
was_away false e = refl

pub returns-then-not-branch-clause-entries : goal.returns-then-not-branch-clause-entries
returns-then-not-branch-clause-entries g c =
    let inside = c.self.inside in
    let row : MeterRow = c.in-Some.row.now in
    let found : lookup (is_at (identity_cmp c.args.meter)) inside.rows.entries ≡ Some row = sym c.in-Some.ensures.value in
    let here = was_there _ (sym c.if-not-branch.true ∙ c.in_ok-insert.ensures.added) in
    moved_nowhere inside.orders.by_flat.keys inside.orders.on_bus.keys inside.rows.entries c.args.meter row c.args.flat c.self.invariant found here
    ∙ ap (λ (m : MeterRows). moved_in c.args.meter c.args.flat (lookup (is_at (identity_cmp c.args.meter)) m.entries) m.entries) c.self.view_is

pub invariant_of-self-2 : goal.invariant_of-self-2
invariant_of-self-2 g c =
    let inside = c.self.inside in
    let row : MeterRow = c.in-Some.row.now in
    let after : MeterRow = c.set_flat.new.self in
    let found : lookup (is_at (identity_cmp c.args.meter)) inside.rows.entries ≡ Some row = sym c.in-Some.ensures.value in
    let lent : c.unwrap-row.result.now ≡ row = some_is _ row (sym (ap option_copied_mut c.unwrap-row.ensures) ∙ c.get_mut.ensures.value ∙ found) in
    let same : after ≡ record row { flat = c.args.flat } = c.set_flat.ensures.flat ∙ ap (λ (m : MeterRow). record m { flat = c.args.flat }) lent in
    let flat : after.flat ≡ c.args.flat = ap (λ (m : MeterRow). m.flat) c.set_flat.ensures.flat in
    let written = c.get_mut.follows.holds after in
    let updates = written.3 (subst IsSome (sym found) refl) in
    let away = was_away _ (sym c.if-not-branch.false ∙ c.in_ok-insert.ensures.added) in
    indexed_moved inside.orders.by_flat.keys c.remove.new.self.keys inside.orders.on_bus.keys inside.orders.on_bus.keys inside.rows.entries (c.get_mut.follows.lender after).entries c.args.meter c.self.invariant
    c.insert.new.self.keys row after found (same ∙ ap (λ (f : List ℕ). record row { flat = f }) (sym flat))
    (ap (λ (f : List ℕ). among place_cmp inside.orders.by_flat.keys (record { flat = f; meter = c.args.meter })) flat ∙ away)
    (λ q. c.in_ok-insert.ensures.updates.0 q ∙ put_in _ (among place_cmp inside.orders.by_flat.keys q) _ (own_place c.args.meter c.args.flat after q flat))
    (λ q. c.remove.ensures.updates.0 q ∙ taken_out _ (among place_cmp c.insert.new.self.keys q) _ (own_place c.args.meter c.flat-before.result row q (sym c.flat-before.ensures.flat)))
    (λ q. refl) updates.0 written.4

pub invariant_of-self-then-not-branch : goal.invariant_of-self-then-not-branch
invariant_of-self-then-not-branch g c = grind (arith, common_steps)
