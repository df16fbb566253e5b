use Rattle.std.proofs.Common.{arith}
use Rattle.std.proofs.lemmas.Grind.{common_steps}
use Rattle.dc_upload.specs.Reply.{reply_text}
use Rattle.dc_upload.proofs.reply.write_answer.Goals as goal

pub returns-in-Show-clause-text : goal.returns-in-Show-clause-text
unfolding reply_text
returns-in-Show-clause-text g c = grind (arith, common_steps)

pub returns-in-Show-clause-well : goal.returns-in-Show-clause-well
unfolding reply_text
returns-in-Show-clause-well g c = grind (arith, common_steps)

pub returns-in-Show-clause-fault : goal.returns-in-Show-clause-fault
unfolding reply_text
returns-in-Show-clause-fault g c = grind (arith, common_steps)
