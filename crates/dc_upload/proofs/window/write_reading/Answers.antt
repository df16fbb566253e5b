use Rattle.std.proofs.Common.{arith}
use Rattle.mbdc_io.proofs.Pieces.{written}
use Rattle.dc_upload.specs.Window.{reading_lines}
use Rattle.dc_upload.proofs.window.write_reading.Goals as goal

pub returns-in_err-write_head : goal.returns-in_err-write_head
unfolding reading_lines
returns-in_err-write_head g c = grind (arith, written)

pub returns : goal.returns
unfolding reading_lines
returns g c = grind (arith, written)
