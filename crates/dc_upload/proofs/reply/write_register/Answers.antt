use Rattle.std.proofs.Common.{arith}
use Rattle.mbdc_io.proofs.Pieces.{written}
use Rattle.dc_upload.specs.Reply.{register_text}
use Rattle.dc_upload.proofs.reply.write_register.Goals as goal

pub returns-in_err-write_meters : goal.returns-in_err-write_meters
unfolding register_text
returns-in_err-write_meters g c = grind (arith, written)

pub returns : goal.returns
unfolding register_text
returns g c = grind (arith, written)
