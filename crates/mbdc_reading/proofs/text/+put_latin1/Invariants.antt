use Rattle.std.proofs.Common.{length}
use Rattle.mbdc_reading.proofs.text.+put_latin1.Given as goal

abbrev pub decreases-put_latin1 : goal.decreases-put_latin1
decreases-put_latin1 l = length l.text.now
