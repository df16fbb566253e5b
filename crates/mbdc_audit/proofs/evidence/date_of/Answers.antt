use Rattle.std.proofs.Common.{arith, ◌<◌, length, refl}
use Rattle.mbdc_audit.specs.Evidence.{bare}
use Rattle.mbdc_audit.proofs.Bare.{length_bare, long_none}
use Rattle.mbdc_audit.proofs.evidence.date_of.Goals as goal

pub returns-then-record-gt-MOST_VIB : goal.returns-then-record-gt-MOST_VIB
returns-then-record-gt-MOST_VIB c =
    let v = c.args.record.now.vib.now in
    let more = length_bare v in
    let long : 2 < length (bare v) = omega (arith, more) in
    rw (long_none (bare v) long) refl
