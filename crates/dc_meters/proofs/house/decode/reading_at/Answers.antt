use Rattle.std.proofs.Common.{arith}
use Rattle.std.proofs.lemmas.Grind.{common_steps}
use Rattle.mbdc_change.specs.Reading.{reading_at}
use Rattle.mbdc_change.specs.Pieces.{flat_at}
use Rattle.dc_meters.proofs.house.decode.reading_at.Goals as goal

pub returns-in_err-due_days : goal.returns-in_err-due_days
unfolding reading_at flat_at
returns-in_err-due_days g c = grind (arith, common_steps)

pub new-requires-clause-dated : goal.new-requires-clause-dated
unfolding reading_at flat_at
new-requires-clause-dated g c = grind (arith, common_steps)

pub returns : goal.returns
unfolding reading_at flat_at
returns g c = grind (arith, common_steps)
