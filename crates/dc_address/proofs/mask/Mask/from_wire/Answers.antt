use Rattle.std.proofs.Common.{◌≡◌, ◌<◌, length, sym, arith}
use Rattle.dc_address.proofs.Masks.{IsMask-read}
use Rattle.dc_address.proofs.mask.Mask.from_wire.Goals as goal

pub invariant_of-result : goal.invariant_of-result
invariant_of-result c =
    let eight : length c.unpacked-nibbles.result ≡ 8 = search in
    let fits : c.read_u16.result < 65536 = omega arith in
    rw (c.places_of.ensures, c.code_or_wildcard.ensures, c.value_or_wildcard.ensures, c.value_or_wildcard-2.ensures)
    (IsMask-read c.unpacked-nibbles.result c.read_u16.result _ _ eight (sym c.if-not-are_sent.ensures) fits)
