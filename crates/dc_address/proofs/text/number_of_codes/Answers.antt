-- The values of ASCII digits are digits, and have these codes.
use Rattle.std.proofs.Common.{◌≡◌, ◌<◌, ◌^◌, ℕ, List, Option, Some, None, IfSome, is_some, map, length, get_or, ap, sym, ◌∙◌, subst}
use Rattle.std.specs.List.{list_all}
use Rattle.std.specs.Int.Digits.{number_from_digits}
use Rattle.std.proofs.lemmas.List.{length-map}
use Rattle.dc_address.specs.Digits.{decimal_digits, is_digit}
use Rattle.dc_address.proofs.Decimals.{decimal_digits-number_from_digits, number_from_digits-lt}
use Rattle.dc_address.specs.Text.{code_value, decimal_code}
use Rattle.dc_address.proofs.Texts.{codes_from_digits, digits_from_codes}
use Rattle.dc_address.proofs.text.number_of_codes.Goals as goal

fits_of : (digits : List ℕ) (answer : Option ℕ) → length digits ≡ 8 → is_some answer ≡ list_all is_digit digits
    → IfSome answer (λ n. n ≡ number_from_digits 10 digits) → IfSome answer (λ n. n < 100000000)
fits_of digits None eight test is = tt
fits_of digits (Some n) eight test is =
    rw is (subst (λ k. number_from_digits 10 digits < 10 ^ k) eight (number_from_digits-lt digits (sym test)))

spelled_of : (codes : List ℕ) (answer : Option ℕ) → length codes ≡ 8 → ((i : ℕ) → get_or codes i 0 < 256)
    → is_some answer ≡ list_all is_digit (map code_value codes)
    → IfSome answer (λ n. n ≡ number_from_digits 10 (map code_value codes)) → IfSome answer (λ n. map decimal_code (decimal_digits 8 n) ≡ codes)
spelled_of codes None eight bytes test is = tt
spelled_of codes (Some n) eight bytes test is =
    let count : length (map code_value codes) ≡ 8 = length-map codes code_value ∙ eight in
    let digits : decimal_digits 8 n ≡ map code_value codes =
    ap (decimal_digits 8) is
    ∙ ap (λ k. decimal_digits k (number_from_digits 10 (map code_value codes))) (sym count)
    ∙ decimal_digits-number_from_digits (map code_value codes) (sym test) in
    ap (map decimal_code) digits ∙ codes_from_digits codes (sym (digits_from_codes codes bytes) ∙ sym test)

pub returns-clause-digits : goal.returns-clause-digits
returns-clause-digits c =
    c.number_of.ensures.digits ∙ ap (list_all is_digit) c.values_of.ensures ∙ digits_from_codes c.args.codes.now c.fits-codes

pub returns-clause-fits : goal.returns-clause-fits
returns-clause-fits c =
    fits_of c.values_of.result c.number_of.result
    (ap length c.values_of.ensures ∙ length-map c.args.codes.now code_value ∙ c.told-codes)
    c.number_of.ensures.digits c.number_of.ensures.number

pub returns-clause-spelled : goal.returns-clause-spelled
returns-clause-spelled c =
    spelled_of c.args.codes.now c.number_of.result c.told-codes c.fits-codes
    (c.number_of.ensures.digits ∙ ap (list_all is_digit) c.values_of.ensures)
    (subst (λ ds. IfSome c.number_of.result (λ n. n ≡ number_from_digits 10 ds)) c.values_of.ensures c.number_of.ensures.number)
