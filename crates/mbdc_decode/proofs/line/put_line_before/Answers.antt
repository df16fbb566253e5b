use Rattle.std.proofs.Common.{arith}
use Rattle.std.proofs.lemmas.Grind.{common_steps}
use Rattle.mbdc_decode.specs.Telegram.{record_line, record_words}
use Rattle.mbdc_decode.specs.Seen.{seen_word}
use Rattle.mbdc_decode.proofs.line.put_line_before.Goals as goal

pub returns-clause-start : goal.returns-clause-start
unfolding record_line record_words seen_word
returns-clause-start c = grind (arith, common_steps)

pub returns-clause-written : goal.returns-clause-written
unfolding record_line record_words seen_word
returns-clause-written c = grind (arith, common_steps)
