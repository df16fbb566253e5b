use Rattle.std.proofs.Common.{length}
use Rattle.mbdc_decode.proofs.objects.record.+put_names.Given as goal

abbrev pub decreases-put_names : goal.decreases-put_names
decreases-put_names g l = length l.vifes.now
