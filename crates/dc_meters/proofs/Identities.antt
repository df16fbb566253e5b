-- Meters that are distinguished by their rows.
use Rattle.std.proofs.Common.{◌≡◌, Bool, true, false, Some, None, refl, sym, ap, ◌∙◌}
use Rattle.std.specs.Map.{lookup}
use Rattle.std.specs.BTreeMap.{is_at}
use Rattle.dc_address.specs.declared.identity.Identity.{Identity}
use Rattle.dc_address.specs.Identity.{identity_cmp}
use Rattle.dc_address.proofs.Order.{same_from_tie}
use Rattle.mbdc_change.specs.State.{State, MeterRow, row_of}
use Rattle.mbdc_change.proofs.Exact.{some_is}
use Rattle.dc_meters.specs.Places.{MeterRows}

apart_at : (a b : Identity) (row : MeterRow) (s : State) (t : Bool) → t ≡ is_at (identity_cmp a) b → row_of a s ≡ None → row_of b s ≡ Some row → t ≡ false
apart_at a b row s true e absent found = let same = ap (λ (m : Identity). row_of m s) (same_from_tie a b (sym e)) in cc
apart_at a b row s false e absent found = refl

-- a meter that isn't registered is another than one that is
pub apart_from_rows : (a b : Identity) (row : MeterRow) (s : State) → row_of a s ≡ None → row_of b s ≡ Some row → is_at (identity_cmp a) b ≡ false
apart_from_rows a b row s absent found = apart_at a b row s (is_at (identity_cmp a) b) refl absent found

-- a meter has one row
pub one_row : (meter : Identity) {old new : MeterRows} {before row : MeterRow} → old ≡ new → Some before ≡ lookup (is_at (identity_cmp meter)) old.entries
    → lookup (is_at (identity_cmp meter)) new.entries ≡ Some row → before ≡ row
one_row meter same found found_row = some_is _ _ (found ∙ ap (λ (m : MeterRows). lookup (is_at (identity_cmp meter)) m.entries) same ∙ found_row)
