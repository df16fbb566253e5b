use Rattle.std.proofs.Common.{rules}
use Rattle.mbdc_reading.proofs.content.counter.counter_by.Goals as goal

pub returns : goal.returns
returns c = search rules
