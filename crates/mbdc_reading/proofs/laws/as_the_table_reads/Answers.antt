use Rattle.mbdc_reading.proofs.Readings.{point_none}
use Rattle.mbdc_reading.proofs.laws.as_the_table_reads.Goals as goal

pub returns-clause-none : goal.returns-clause-none
returns-clause-none c = point_none
