use Rattle.std.proofs.Common.{length}
use Rattle.mbdc_reading.proofs.text.+put_hex.Given as goal

abbrev pub decreases-put_hex : goal.decreases-put_hex
decreases-put_hex l = length l.bytes.now
