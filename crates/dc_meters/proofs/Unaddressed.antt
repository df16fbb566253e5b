-- A meter that is read by secondary addressing is in no other's way.
use Rattle.std.proofs.Common.{◌≡◌, ℕ, Bool, true, false, List, [], ◌∷◌, None, refl, ap, ◌∙◌}
use Rattle.std.specs.Prelude.{◌==◌, ◌||◌, ◌&&◌}
use Rattle.std.specs.List.{list_any}
use Rattle.dc_address.specs.declared.identity.Identity.{Identity}
use Rattle.mbdc_change.specs.State.{MeterRow}
use Rattle.mbdc_change.specs.Accepts.{occupies}

and_false : (a : Bool) → (a && false) ≡ false
and_false true = refl
and_false false = refl

pub free_by_identity : (line : ℕ) (rows : List MeterRow) → list_any (occupies line None) rows ≡ false
free_by_identity line [] = refl
free_by_identity line (row ∷ rows) = ap (λ (b : Bool). b || list_any (occupies line None) rows) (and_false (row.line == line)) ∙ free_by_identity line rows

pub free_of_others : (line : ℕ) (test : Identity → Bool) (entries : List (Identity × MeterRow)) → list_any (λ e. test e.0 && occupies line None e.1) entries ≡ false
free_of_others line test [] = refl
free_of_others line test (e ∷ entries) =
    ap (λ (b : Bool). b || list_any (λ x. test x.0 && occupies line None x.1) entries) (ap (λ (b : Bool). test e.0 && b) (and_false (e.1.line == line)) ∙ and_false (test e.0)) ∙ free_of_others line test entries
