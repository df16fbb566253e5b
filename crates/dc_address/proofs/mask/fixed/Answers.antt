use Rattle.std.proofs.Common.{◌≡◌, length, Some, None, rules}
use Rattle.dc_address.proofs.Arrays.{map_of_calls}
use Rattle.dc_address.proofs.mask.fixed.Goals as goal

pub returns : goal.returns
returns c =
    let eight : length c.args.digits ≡ 8 = search in
    map_of_calls _ Some 0 None c.args.digits c.map.result 8 c.map.ensures.items eight (λ p x y q called. search rules)
