use Rattle.std.proofs.Common.{refl}
use Rattle.mbdc_reading.proofs.content.units.fixed_unit.Goals as goal

pub unit_in-requires : goal.unit_in-requires
unit_in-requires c = refl
