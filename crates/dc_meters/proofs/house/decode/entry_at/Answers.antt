use Rattle.std.proofs.Common.{arith}
use Rattle.std.proofs.lemmas.Grind.{common_steps}
use Rattle.mbdc_change.specs.Reading.{entry_at}
use Rattle.mbdc_change.specs.Pieces.{address_at, flat_at}
use Rattle.dc_meters.proofs.house.decode.entry_at.Goals as goal

pub with_parts-requires : goal.with_parts-requires
unfolding entry_at address_at flat_at
with_parts-requires g c = grind (arith, common_steps)

pub returns : goal.returns
unfolding entry_at address_at flat_at
returns g c = grind (arith, common_steps)
