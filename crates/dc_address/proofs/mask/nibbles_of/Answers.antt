use Rattle.std.proofs.Common.{◌≡◌, length, None, rules}
use Rattle.dc_address.specs.Mask.{nibble_of}
use Rattle.dc_address.proofs.Arrays.{map_of_calls}
use Rattle.dc_address.proofs.mask.nibbles_of.Goals as goal

pub returns : goal.returns
returns c =
    let eight : length c.args.digits ≡ 8 = search in
    map_of_calls _ nibble_of None 0 c.args.digits c.map.result 8 c.map.ensures.items eight (λ p x y q called. search rules)
