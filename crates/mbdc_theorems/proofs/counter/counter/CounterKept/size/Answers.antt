use Rattle.std.proofs.Common.{arith}
use Rattle.mbdc_theorems.specs.Laws.{written_number}
use Rattle.mbdc_theorems.proofs.counter.counter.CounterKept.size.Goals as goal

pub returns : goal.returns
returns c = record { is_state = written_number c.args.self.now.budget c.args.self.now.count (omega arith) c.args.self.now.room }
