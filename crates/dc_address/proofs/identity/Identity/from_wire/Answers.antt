-- Digits and letters are tested as the definition asks, so an answer comes exactly where it does.
use Rattle.std.proofs.Common.{◌≡◌, ◌<◌, ℕ, List, [], ◌∷◌, true, false, None, is_some, length, get_or, ap, sym, ◌∙◌}
use Rattle.std.specs.List.{list_all}
use Rattle.std.specs.Int.Digits.{number_from_digits}
use Rattle.byteorder.specs.Endian.{little_number}
use Rattle.dc_address.specs.Digits.{is_digit, unpacked_digits}
use Rattle.dc_address.specs.Maker.{is_maker}
use Rattle.dc_address.specs.Identity.{is_identity}
use Rattle.dc_address.proofs.Identities.{WireParts, wire_from_parts, test_from_parts}
use Rattle.dc_address.proofs.Wires.{back_of, only_answer, refused_by_digits, refused_by_maker, digits_read, maker_read, parts_read}
use Rattle.dc_address.proofs.identity.Identity.from_wire.Goals as goal

refused_digits : (bytes digits : List ℕ) → length bytes ≡ 8
    → digits ≡ unpacked_digits (get_or bytes 0 0 ∷ get_or bytes 1 0 ∷ get_or bytes 2 0 ∷ get_or bytes 3 0 ∷ [])
    → false ≡ list_all is_digit digits → is_identity bytes ≡ false
refused_digits bytes digits eight are not =
    refused_by_digits bytes (ap (list_all is_digit) (sym (digits_read bytes digits eight are)) ∙ sym not)

refused_maker : (bytes : List ℕ) (maker : ℕ) → length bytes ≡ 8
    → maker ≡ little_number 2 (get_or bytes 4 0 ∷ get_or bytes 5 0 ∷ [])
    → false ≡ is_maker maker → is_identity bytes ≡ false
refused_maker bytes maker eight is not =
    refused_by_maker bytes (ap is_maker (sym (maker_read bytes maker eight is)) ∙ sym not)

read : (bytes digits : List ℕ) (maker : ℕ) → length bytes ≡ 8 → get_or bytes 4 0 < 256
    → digits ≡ unpacked_digits (get_or bytes 0 0 ∷ get_or bytes 1 0 ∷ get_or bytes 2 0 ∷ get_or bytes 3 0 ∷ [])
    → true ≡ list_all is_digit digits
    → maker ≡ little_number 2 (get_or bytes 4 0 ∷ get_or bytes 5 0 ∷ [])
    → true ≡ is_maker maker → WireParts bytes
read bytes digits maker eight small digits_are are maker_is is =
    parts_read bytes eight small
    (ap (list_all is_digit) (sym (digits_read bytes digits eight digits_are)) ∙ sym are)
    (ap is_maker (sym (maker_read bytes maker eight maker_is)) ∙ sym is)

pub returns-in_err-number-clause-test : goal.returns-in_err-number-clause-test
returns-in_err-number-clause-test c =
    ap is_some c.from_residual.ensures
    ∙ sym (refused_digits c.args.wire.now c.unpacked.result c.told-wire c.unpacked.ensures c.in_err-number.ensures.digits)

pub returns-in_err-number-clause-only : goal.returns-in_err-number-clause-only
returns-in_err-number-clause-only c =
    rw c.from_residual.ensures
    (only_answer c.args.wire.now None
    (sym (refused_digits c.args.wire.now c.unpacked.result c.told-wire c.unpacked.ensures c.in_err-number.ensures.digits)) tt)

pub returns-then-not-is_maker-clause-test : goal.returns-then-not-is_maker-clause-test
returns-then-not-is_maker-clause-test c =
    sym (refused_maker c.args.wire.now c.read_u16-maker.result c.told-wire c.read_u16-maker.ensures c.if-not-is_maker.ensures)

pub returns-then-not-is_maker-clause-only : goal.returns-then-not-is_maker-clause-only
returns-then-not-is_maker-clause-only c =
    only_answer c.args.wire.now None
    (sym (refused_maker c.args.wire.now c.read_u16-maker.result c.told-wire c.read_u16-maker.ensures c.if-not-is_maker.ensures)) tt

pub returns-clause-found : goal.returns-clause-found
returns-clause-found c =
    let bytes = c.args.wire.now in
    let parts = read bytes c.unpacked.result c.read_u16-maker.result c.told-wire (c.fits-wire 4) c.unpacked.ensures c.in_ok-number.ensures.digits c.read_u16-maker.ensures c.if-not-is_maker.ensures in
    wire_from_parts bytes parts _
    (c.in_ok-number.ensures.number ∙ ap (number_from_digits 10) (digits_read bytes c.unpacked.result c.told-wire c.unpacked.ensures))
    (maker_read bytes c.read_u16-maker.result c.told-wire c.read_u16-maker.ensures)
    (ap (λ rest. get_or rest 2 0) (sym (back_of bytes c.told-wire)))
    (ap (λ rest. get_or rest 3 0) (sym (back_of bytes c.told-wire)))

pub returns-clause-test : goal.returns-clause-test
returns-clause-test c =
    sym (test_from_parts c.args.wire.now
    (read c.args.wire.now c.unpacked.result c.read_u16-maker.result c.told-wire (c.fits-wire 4) c.unpacked.ensures c.in_ok-number.ensures.digits c.read_u16-maker.ensures c.if-not-is_maker.ensures))

pub returns-clause-only : goal.returns-clause-only
returns-clause-only c = only_answer c.args.wire.now _ (returns-clause-test c) (returns-clause-found c)
