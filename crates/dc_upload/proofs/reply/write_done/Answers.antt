use Rattle.std.proofs.Common.{arith}
use Rattle.mbdc_io.proofs.Pieces.{written}
use Rattle.dc_upload.specs.Reply.{done_line}
use Rattle.dc_upload.proofs.reply.write_done.Goals as goal

pub returns-in_err-put : goal.returns-in_err-put
unfolding done_line
returns-in_err-put g c = grind (arith, written)

pub returns-in_err-put_number_word : goal.returns-in_err-put_number_word
unfolding done_line
returns-in_err-put_number_word g c = grind (arith, written)

pub returns : goal.returns
unfolding done_line
returns g c = grind (arith, written)
