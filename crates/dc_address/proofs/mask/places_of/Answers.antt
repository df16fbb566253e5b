use Rattle.std.proofs.Common.{◌≡◌, length, None, rules}
use Rattle.dc_address.specs.Mask.{digit_or_wildcard}
use Rattle.dc_address.proofs.Arrays.{map_of_calls}
use Rattle.dc_address.proofs.mask.places_of.Goals as goal

pub returns : goal.returns
returns c =
    let eight : length c.args.nibbles ≡ 8 = search in
    map_of_calls _ digit_or_wildcard 0 None c.args.nibbles c.map.result 8 c.map.ensures.items eight (λ p x y q called. search rules)
