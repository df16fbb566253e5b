use Rattle.std.proofs.Common.{arith}
use Rattle.mbdc_io.proofs.Pieces.{written}
use Rattle.dc_upload.specs.Reply.{refusal_line}
use Rattle.dc_upload.proofs.reply.write_refusal.Goals as goal

pub returns-in_err-put : goal.returns-in_err-put
unfolding refusal_line
returns-in_err-put g c = grind (arith, written)

pub returns-in_err-put-2 : goal.returns-in_err-put-2
unfolding refusal_line
returns-in_err-put-2 g c = grind (arith, written)

pub returns : goal.returns
unfolding refusal_line
returns g c = grind (arith, written)

pub returns-in_err-put_detail : goal.returns-in_err-put_detail
unfolding refusal_line
returns-in_err-put_detail g c = grind (arith, written)
