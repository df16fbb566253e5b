use Rattle.mbdc_raw.proofs.Calls.{gives_of}
use Rattle.mbdc_raw.proofs.line.LineHalfBus.hear.Goals as goal

pub returns-in-Ok-clause-answer : goal.returns-in-Ok-clause-answer
returns-in-Ok-clause-answer g c = gives_of g.W.Wire c.args.self.now c.take_by_kind.new.self c.in-Ok.answer c.if-self.false c.in-Ok.ensures.lost c.in-Ok.ensures.gives
