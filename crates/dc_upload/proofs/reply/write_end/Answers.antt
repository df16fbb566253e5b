use Rattle.std.proofs.Common.{arith}
use Rattle.mbdc_io.proofs.Pieces.{written}
use Rattle.dc_upload.specs.Reply.{end_line}
use Rattle.dc_upload.proofs.reply.write_end.Goals as goal

pub returns-in_err-put : goal.returns-in_err-put
unfolding end_line
returns-in_err-put g c = grind (arith, written)

pub returns-in_err-put_number_word : goal.returns-in_err-put_number_word
unfolding end_line
returns-in_err-put_number_word g c = grind (arith, written)

pub returns : goal.returns
unfolding end_line
returns g c = grind (arith, written)
