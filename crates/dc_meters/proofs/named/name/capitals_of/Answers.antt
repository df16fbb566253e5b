use Rattle.std.proofs.Common.{◌≡◌, length, rules}
use Rattle.dc_address.proofs.Arrays.{map_of_calls}
use Rattle.dc_meters.specs.Name.{capital}
use Rattle.dc_meters.proofs.named.name.capitals_of.Goals as goal

pub returns : goal.returns
returns c =
    let all : length c.args.text.now ≡ 18 = search in
    map_of_calls _ capital 0 0 c.args.text.now c.map.result 18 c.map.ensures.items all (λ p x y q called. search rules)
