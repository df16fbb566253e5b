-- Nothing is the address of no number.
use Rattle.std.proofs.Common.{◌≡◌, ℕ, ◌<◌, List, length, Option, None, Some, refl, ap, sym, ◌∙◌, arith}
use Rattle.std.specs.Fmt.{decimal}
use Rattle.std.proofs.lemmas.Fmt.{decimal_is_IsNumeral}
use Rattle.mbdc_change.specs.Fields.{address_word}
use Rattle.mbdc_change.specs.Fields.{IsAddress}

pub empty_is_secondary : (address : Option ℕ) (word : List ℕ) → length word ≡ 0 → IsAddress address → word ≡ address_word address → address ≡ None
empty_is_secondary None word empty is spelled = refl
empty_is_secondary (Some address) word empty is spelled =
    let digits = decimal_is_IsNumeral address (omega arith) in
    let some : 0 < length (decimal address) = digits.0.0 in
    let none : length (decimal address) ≡ 0 = ap length (sym spelled) ∙ empty in
    absurd (omega (arith, some, none))
