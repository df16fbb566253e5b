-- The line of how many records aren't read, of two and more.
use Rattle.std.proofs.Common.{◌≡◌, ◌≢◌, ℕ, Bool, false, eqb, List, [], ◌++◌, codes, decimal, ap, sym, ◌∙◌, arith}
use Rattle.std.proofs.lemmas.Bool.Decides.{nat_tests}
use Rattle.std.specs.Prelude.{if◌then◌else◌}
use Rattle.mbdc_json.specs.LatestValues.{unread_line}

abbrev line_by : ℕ → Bool → Bool → List ℕ
line_by n none one = if none then [] else (if one then codes "1 record not read\n" else decimal n ++ codes " records not read\n")

pub many_left : (n all : ℕ) → n ≢ 0 → n ≢ 1 → n ≡ all → decimal n ++ codes " records not read\n" ≡ unread_line all
unfolding unread_line
many_left n all some several is =
    let none : eqb n 0 ≡ false = grind (arith, nat_tests) in
    let one : eqb n 1 ≡ false = grind (arith, nat_tests) in
    ap (line_by n false) (sym one) ∙ ap (λ (b : Bool). line_by n b (eqb n 1)) (sym none) ∙ ap unread_line is
