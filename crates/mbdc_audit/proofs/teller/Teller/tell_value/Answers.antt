use Rattle.std.proofs.Common.{arith}
use Rattle.std.proofs.lemmas.Grind.{common_steps}
use Rattle.mbdc_audit.proofs.teller.Teller.tell_value.Goals as goal

pub returns-in_err-put_pieces-in-Err : goal.returns-in_err-put_pieces-in-Err
returns-in_err-put_pieces-in-Err g c = grind (arith, common_steps)

pub returns-in_err-rule-in-Ok : goal.returns-in_err-rule-in-Ok
returns-in_err-rule-in-Ok g c = grind (arith, common_steps)

pub returns : goal.returns
returns g c = grind (arith, common_steps)
