-- Data fields in BCD have 1 to 6 bytes.
use Rattle.std.proofs.Common.{◌≡◌, ◌≢◌, ℕ, ◌≤◌, Bool, true, false, ◌||◌, refl, arith, rules}
use Rattle.std.specs.Prelude.{IsTrue}
use Rattle.std.proofs.lemmas.Bool.Decides.{nat_tests}
use Rattle.dc_records.specs.Record.{width}
use Rattle.dc_units.specs.declared.quantity.Quantity.{Quantity}
use Rattle.dc_units.specs.declared.quantity.Quantity.TheVariants.{Date, DateTime, ErrorFlags}
use Rattle.dc_units.specs.Quantity.{takes, is_integer, is_bcd}

bcd_left : (integer bcd : Bool) → integer ≡ false → IsTrue (integer || bcd) → bcd ≡ true
bcd_left true bcd out h = cc
bcd_left false true out h = refl
bcd_left false false out h = search rules

-- a quantity of numbers comes in BCD where it doesn't come as a whole number
pub in_bcd : (q : Quantity) (field : ℕ) → q ≢ Date → q ≢ DateTime → q ≢ ErrorFlags → IsTrue (takes q field) → is_integer field ≡ false → is_bcd field ≡ true
in_bcd Date field a b c h out = absurd (a refl)
in_bcd DateTime field a b c h out = absurd (b refl)
in_bcd ErrorFlags field a b c h out = absurd (c refl)
in_bcd _ field a b c h out = bcd_left (is_integer field) (is_bcd field) out h

pub bcd_width : (field : ℕ) → is_bcd field ≡ true → (1 ≤ width field) × (width field ≤ 6)
bcd_width field h = grind (arith, nat_tests)
