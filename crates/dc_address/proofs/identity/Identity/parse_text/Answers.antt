-- Each exit names the first test that failed; where all pass, the parts make up the text.
use Rattle.std.proofs.Common.{◌≡◌, ℕ, List, Bool, true, false, Ok, Err, take, length, get_or, arith, ap, sym, ◌∙◌}
use Rattle.std.specs.Char.{is_ascii_digit}
use Rattle.std.specs.List.{list_all}
use Rattle.dc_address.specs.declared.fault.IdentityFault.TheVariants.{Length, Digit, Letter, Hex, Dot}
use Rattle.dc_address.proofs.Faults.{shape, fault_length, fault_digit, fault_letter, fault_hex, fault_dot, fault_none, dots_from_test, hex_first, hex_pairs, only_text, text_from_parts}
use Rattle.dc_address.proofs.identity.Identity.parse_text.Goals as goal

-- ---- which fault

digits_of : (text codes : List ℕ) (are : Bool) → codes ≡ take 8 text → are ≡ list_all is_ascii_digit codes → list_all is_ascii_digit (take 8 text) ≡ are
digits_of text codes are front tested = ap (list_all is_ascii_digit) (sym front) ∙ sym tested

pub returns-in_default-clause-fault : goal.returns-in_default-clause-fault
returns-in_default-clause-fault c = fault_length c.args.text.now (λ long. omega (arith, c.in_default.ensures.cases))

pub returns-in_default-rest-clause-fault : goal.returns-in_default-rest-clause-fault
returns-in_default-rest-clause-fault c =
    fault_length c.args.text.now (λ long. omega (arith, c.in-Some.ensures.cases.2, c.in_default-rest.len_below))

pub returns-in_default-rest-2-clause-fault : goal.returns-in_default-rest-2-clause-fault
returns-in_default-rest-2-clause-fault c =
    fault_length c.args.text.now (λ long. omega (arith, c.in-Some.ensures.cases.2, c.in_default-rest.len_at_least))

pub returns-in_default-number_of_codes-clause-fault : goal.returns-in_default-number_of_codes-clause-fault
returns-in_default-number_of_codes-clause-fault c =
    let long : length c.args.text.now ≡ 18 = omega (arith, c.in-Some.ensures.cases.2, c.in-len10.len_at_least, c.in-len10.len_below) in
    fault_digit c.args.text.now long
    (digits_of c.args.text.now c.in-Some.codes.now false c.in-Some.ensures.cases.0 c.in_default-number_of_codes.ensures.digits)

pub returns-in_default-maker_of-clause-fault : goal.returns-in_default-maker_of-clause-fault
returns-in_default-maker_of-clause-fault c =
    let long : length c.args.text.now ≡ 18 = omega (arith, c.in-Some.ensures.cases.2, c.in-len10.len_at_least, c.in-len10.len_below) in
    fault_letter c.args.text.now c.in-Some.rest.now (shape c.args.text.now c.in-Some.rest.now c.in-Some.ensures.cases.1 long) long
    (digits_of c.args.text.now c.in-Some.codes.now true c.in-Some.ensures.cases.0 c.in-Some-number_of_codes.ensures.digits)
    (sym c.in_default-maker_of.ensures.letters)

pub returns-in_default-byte_of_hex-clause-fault : goal.returns-in_default-byte_of_hex-clause-fault
returns-in_default-byte_of_hex-clause-fault c =
    let long : length c.args.text.now ≡ 18 = omega (arith, c.in-Some.ensures.cases.2, c.in-len10.len_at_least, c.in-len10.len_below) in
    fault_hex c.args.text.now c.in-Some.rest.now (shape c.args.text.now c.in-Some.rest.now c.in-Some.ensures.cases.1 long) long
    (digits_of c.args.text.now c.in-Some.codes.now true c.in-Some.ensures.cases.0 c.in-Some-number_of_codes.ensures.digits)
    (sym c.in-Some-maker_of.ensures.letters)
    (hex_first c.in-Some.rest.now c.in_default-byte_of_hex.ensures.test)

pub returns-in_default-byte_of_hex-2-clause-fault : goal.returns-in_default-byte_of_hex-2-clause-fault
returns-in_default-byte_of_hex-2-clause-fault c =
    let long : length c.args.text.now ≡ 18 = omega (arith, c.in-Some.ensures.cases.2, c.in-len10.len_at_least, c.in-len10.len_below) in
    fault_hex c.args.text.now c.in-Some.rest.now (shape c.args.text.now c.in-Some.rest.now c.in-Some.ensures.cases.1 long) long
    (digits_of c.args.text.now c.in-Some.codes.now true c.in-Some.ensures.cases.0 c.in-Some-number_of_codes.ensures.digits)
    (sym c.in-Some-maker_of.ensures.letters)
    (hex_pairs c.in-Some.rest.now false c.in-Some-byte_of_hex.ensures.test c.in_default-byte_of_hex-2.ensures.test)

pub returns-then-not-are_dots-clause-fault : goal.returns-then-not-are_dots-clause-fault
returns-then-not-are_dots-clause-fault c =
    let long : length c.args.text.now ≡ 18 = omega (arith, c.in-Some.ensures.cases.2, c.in-len10.len_at_least, c.in-len10.len_below) in
    fault_dot c.args.text.now c.in-Some.rest.now (shape c.args.text.now c.in-Some.rest.now c.in-Some.ensures.cases.1 long) long
    (digits_of c.args.text.now c.in-Some.codes.now true c.in-Some.ensures.cases.0 c.in-Some-number_of_codes.ensures.digits)
    (sym c.in-Some-maker_of.ensures.letters)
    (hex_pairs c.in-Some.rest.now true c.in-Some-byte_of_hex.ensures.test c.in-Some-byte_of_hex-2.ensures.test)
    (sym c.if-not-are_dots.ensures)

pub returns-clause-fault : goal.returns-clause-fault
returns-clause-fault c =
    let long : length c.args.text.now ≡ 18 = omega (arith, c.in-Some.ensures.cases.2, c.in-len10.len_at_least, c.in-len10.len_below) in
    fault_none c.args.text.now c.in-Some.rest.now (shape c.args.text.now c.in-Some.rest.now c.in-Some.ensures.cases.1 long) long
    (digits_of c.args.text.now c.in-Some.codes.now true c.in-Some.ensures.cases.0 c.in-Some-number_of_codes.ensures.digits)
    (sym c.in-Some-maker_of.ensures.letters)
    (hex_pairs c.in-Some.rest.now true c.in-Some-byte_of_hex.ensures.test c.in-Some-byte_of_hex-2.ensures.test)
    (sym c.if-not-are_dots.ensures)

-- ---- what is found

pub returns-clause-found : goal.returns-clause-found
returns-clause-found c =
    let long : length c.args.text.now ≡ 18 = omega (arith, c.in-Some.ensures.cases.2, c.in-len10.len_at_least, c.in-len10.len_below) in
    let dots = dots_from_test (get_or c.in-Some.rest.now 0 0) (get_or c.in-Some.rest.now 4 0) (get_or c.in-Some.rest.now 7 0) c.if-not-are_dots.ensures in
    text_from_parts c.args.text.now c.in-Some.rest.now _ (shape c.args.text.now c.in-Some.rest.now c.in-Some.ensures.cases.1 long)
    (c.in-Some-number_of_codes.ensures.spelled ∙ c.in-Some.ensures.cases.0)
    (sym c.in-Some-maker_of.ensures.letters) c.in-Some-maker_of.ensures.code
    c.in-Some-byte_of_hex.ensures.high c.in-Some-byte_of_hex.ensures.low
    c.in-Some-byte_of_hex-2.ensures.high c.in-Some-byte_of_hex-2.ensures.low
    dots.first dots.second dots.third

-- ---- nothing else

pub returns-in_default-clause-only : goal.returns-in_default-clause-only
returns-in_default-clause-only c = only_text c.args.text.now (Err Length) tt (returns-in_default-clause-fault c)

pub returns-in_default-rest-clause-only : goal.returns-in_default-rest-clause-only
returns-in_default-rest-clause-only c = only_text c.args.text.now (Err Length) tt (returns-in_default-rest-clause-fault c)

pub returns-in_default-rest-2-clause-only : goal.returns-in_default-rest-2-clause-only
returns-in_default-rest-2-clause-only c = only_text c.args.text.now (Err Length) tt (returns-in_default-rest-2-clause-fault c)

pub returns-in_default-number_of_codes-clause-only : goal.returns-in_default-number_of_codes-clause-only
returns-in_default-number_of_codes-clause-only c = only_text c.args.text.now (Err Digit) tt (returns-in_default-number_of_codes-clause-fault c)

pub returns-in_default-maker_of-clause-only : goal.returns-in_default-maker_of-clause-only
returns-in_default-maker_of-clause-only c = only_text c.args.text.now (Err Letter) tt (returns-in_default-maker_of-clause-fault c)

pub returns-in_default-byte_of_hex-clause-only : goal.returns-in_default-byte_of_hex-clause-only
returns-in_default-byte_of_hex-clause-only c = only_text c.args.text.now (Err Hex) tt (returns-in_default-byte_of_hex-clause-fault c)

pub returns-in_default-byte_of_hex-2-clause-only : goal.returns-in_default-byte_of_hex-2-clause-only
returns-in_default-byte_of_hex-2-clause-only c = only_text c.args.text.now (Err Hex) tt (returns-in_default-byte_of_hex-2-clause-fault c)

pub returns-then-not-are_dots-clause-only : goal.returns-then-not-are_dots-clause-only
returns-then-not-are_dots-clause-only c = only_text c.args.text.now (Err Dot) tt (returns-then-not-are_dots-clause-fault c)

pub returns-clause-only : goal.returns-clause-only
returns-clause-only c = only_text c.args.text.now (Ok _) (returns-clause-found c, c.in-Some-byte_of_hex.ensures.fits, c.in-Some-byte_of_hex-2.ensures.fits) (returns-clause-fault c)
