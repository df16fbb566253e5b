use Rattle.std.proofs.Common.{arith}
use Rattle.mbdc_audit.proofs.Bodies.{even, not_even}
use Rattle.mbdc_audit.proofs.field.is_body.Goals as goal

pub returns-then-body-ne0 : goal.returns-then-body-ne0
returns-then-body-ne0 c = not_even c.args.body.now (λ e. omega arith)

pub returns : goal.returns
returns c = rw c.is_of.ensures (even c.args.body.now (omega arith))
