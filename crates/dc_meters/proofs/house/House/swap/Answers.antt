use Rattle.std.proofs.Common.{◌≡◌, ◌+◌, ◌-◌, ◌≤◌, List, [], Some, None, ap, subst, sym, ◌∙◌, arith}
use Rattle.std.specs.Map.{keys_of, lookup, remove_entry}
use Rattle.std.specs.BTreeMap.{is_at}
use Rattle.std.specs.List.Sorted.{IsStrictlySortedBy}
use Rattle.std.proofs.lemmas.Grind.{common_steps}
use Rattle.dc_address.specs.declared.identity.Identity.{Identity}
use Rattle.dc_address.specs.Identity.{identity_cmp}
use Rattle.mbdc_change.specs.State.{State, Held, MeterRow, row_of}
use Rattle.mbdc_change.specs.Apply.{fitted}
use Rattle.mbdc_change.specs.Size.{meter_size}
use Rattle.mbdc_change.specs.Valid.{IsMeter}
use Rattle.dc_meters.specs.Kept.{IsKept}
use Rattle.dc_meters.proofs.Fields.{state_in}
use Rattle.dc_meters.proofs.Identities.{apart_from_rows}
use Rattle.dc_meters.proofs.Sizes.{meter_size-le}
use Rattle.dc_meters.proofs.Keeps.{IsKept-swapped}
use Rattle.dc_meters.proofs.house.House.swap.Given.{Over}
use Rattle.dc_meters.proofs.house.House.swap.Goals.{After-size}
use Rattle.dc_meters.proofs.house.House.swap.Goals as goal

pub insert-requires : goal.insert-requires
insert-requires g c = record { absent = ap (λ (x : Held). row_of c.args.new x.state) c.self.view_is ∙ c.requires.absent }

-- THE NEW METER HANGS AND THE OLD ONE IS GONE, with the bytes that it was counted as.
record IsSwapped (g : Over) (c : After-size g) : Type 0 where
  gone_fits : c.size.result ≤ c.self.inside.size
  never_larger : (c.self.inside.size - c.size.result) + c.size-size.result ≤ c.self.inside.size
  kept : IsKept ((c.self.inside.size - c.size.result) + c.size-size.result) c.self.inside.budget (record (state_in c.self.inside) { meters = c.remove.new.self.entries })

is_swapped : (g : Over) (c : After-size g) → IsSwapped g c
is_swapped g c =
    let h = c.self.inside in
    let s : State = state_in h in
    let row : MeterRow = c.in-Some.row.now in
    let hung : MeterRow = c.new-row.result in
    let gone : MeterRow = c.unwrap-gone.result in
    let found : row_of c.args.old s ≡ Some row = sym c.in-Some.ensures.value in
    let absent : row_of c.args.new s ≡ None = ap (λ (x : Held). row_of c.args.new x.state) c.self.view_is ∙ c.requires.absent in
    let entries = c.in_ok-insert.ensures.entries in
    let stays = c.in_ok-insert.ensures.others c.args.old (apart_from_rows c.args.new c.args.old row s absent found) ∙ found in
    let after : row_of c.args.old (fitted c.args.new hung s) ≡ Some row = ap (λ (es : List (Identity × MeterRow)). lookup (is_at (identity_cmp c.args.old)) es) (sym entries) ∙ stays in
    let both_gone : Some gone ≡ Some row = sym c.unwrap-gone.ensures ∙ c.remove.ensures.value ∙ stays in
    let is_gone : gone ≡ row = cc in
    let left = c.remove.ensures.entries ∙ ap (λ (es : List (Identity × MeterRow)). remove_entry (is_at (identity_cmp c.args.old)) es) entries in
    let sorted = subst (λ (es : List (Identity × MeterRow)). IsStrictlySortedBy identity_cmp (keys_of es)) left c.remove.ensures.ordered in
    let hung_is : IsMeter hung = c.new-row.ensures.is_meter in
    let flat : hung.flat ≡ row.flat = ap (λ (m : MeterRow). m.flat) c.new-row.ensures.row ∙ c.flat.ensures.flat in
    let parts : hung.parts ≡ [] = ap (λ (m : MeterRow). m.parts) c.new-row.ensures.row in
    let both = IsKept-swapped c.args.old c.args.new row hung h.size h.budget s c.self.invariant found absent flat parts hung_is after sorted in
    let gone_size : c.size.result ≡ meter_size row = c.size.ensures.size ∙ ap (λ (m : MeterRow). meter_size m) is_gone in
    record {
      gone_fits = omega (arith, gone_size, meter_size-le c.args.old row s found, c.self.invariant.size_is);
      never_larger = omega (arith, both.0, gone_size, c.size-size.ensures.size);
      kept = rw (left, gone_size, c.size-size.ensures.size) both.1;
    }

pub overflow_sub-self : goal.overflow_sub-self
overflow_sub-self g c = (is_swapped g c).gone_fits

pub overflow_add-self : goal.overflow_add-self
overflow_add-self g c = record { fits = omega (arith, (is_swapped g c).never_larger) }

pub invariant_of-self-2 : goal.invariant_of-self-2
invariant_of-self-2 g c = (is_swapped g (goal.at.invariant_of-self-2 g c).After-size).kept

pub returns-clause-ok : goal.returns-clause-ok
returns-clause-ok g c =
    let found = sym c.in-Some.ensures.value in
    rw (← c.self.view_is, c.remove.ensures.entries, c.in_ok-insert.ensures.entries, c.new-row.ensures.row, c.line.ensures.line, c.flat.ensures.flat, found)

pub new-row-requires : goal.new-row-requires
new-row-requires g c = grind (arith, common_steps)

pub invariant_of-self : goal.invariant_of-self
invariant_of-self g c = grind (arith, common_steps)

pub returns-in_err-insert-clause-ok : goal.returns-in_err-insert-clause-ok
returns-in_err-insert-clause-ok g c = grind (arith, common_steps)

pub returns-in_err-insert-clause-err : goal.returns-in_err-insert-clause-err
returns-in_err-insert-clause-err g c = grind (arith, common_steps)

pub unwrap-gone-requires : goal.unwrap-gone-requires
unwrap-gone-requires g c = grind (arith, common_steps)
