use Rattle.std.proofs.Common.{◌≡◌, length, rules}
use Rattle.dc_address.specs.Text.{code_value}
use Rattle.dc_address.proofs.Arrays.{map_of_calls}
use Rattle.dc_address.proofs.text.values_of.Goals as goal

pub returns : goal.returns
returns c =
    let eight : length c.args.codes.now ≡ 8 = search in
    map_of_calls _ code_value 0 0 c.args.codes.now c.map.result 8 c.map.ensures.items eight (λ p x y q called. search rules)
