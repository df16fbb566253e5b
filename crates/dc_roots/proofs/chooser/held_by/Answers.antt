use Rattle.std.proofs.Common.{arith, refl}
use Rattle.std.proofs.lemmas.Grind.{common_steps}
use Rattle.dc_roots.proofs.chooser.held_by.Goals as goal

pub returns-in-None-clause-held : goal.returns-in-None-clause-held
returns-in-None-clause-held c = ((c.args.bytes.now, refl), λ root is at. c.in-None.ensures root is)

pub returns-then-slot-clause-held : goal.returns-then-slot-clause-held
returns-then-slot-clause-held c = grind (arith, common_steps)
