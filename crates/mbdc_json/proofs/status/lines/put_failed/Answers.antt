use Rattle.std.proofs.Common.{arith}
use Rattle.mbdc_io.proofs.Pieces.{written}
use Rattle.mbdc_json.specs.Status.{failed_line, name_end}
use Rattle.mbdc_json.proofs.status.lines.put_failed.Goals as goal

pub returns-in_ok-put_failed_words-in-Some-Some : goal.returns-in_ok-put_failed_words-in-Some-Some
unfolding failed_line name_end
returns-in_ok-put_failed_words-in-Some-Some g c = grind (arith, written)

pub returns-in_default : goal.returns-in_default
unfolding failed_line name_end
returns-in_default g c = grind (arith, written)

pub returns-in_default-2 : goal.returns-in_default-2
unfolding failed_line name_end
returns-in_default-2 g c = grind (arith, written)
