use Rattle.std.proofs.Common.{length}
use Rattle.mbdc_decode.proofs.objects.row.+put_row.Given as goal

abbrev pub decreases-put_row : goal.decreases-put_row
decreases-put_row g l = length l.row.now
