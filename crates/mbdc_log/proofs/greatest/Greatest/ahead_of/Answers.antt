use Rattle.std.proofs.Common.{arith}
use Rattle.mbdc_log.proofs.greatest.Greatest.ahead_of.Goals as goal

pub returns-else-saturating_sub-gt1 : goal.returns-else-saturating_sub-gt1
returns-else-saturating_sub-gt1 c half_len image is m s q low lt carries =
    let session = is.session.most m s low lt (q, carries) in
    let sequence = is.sequence.most m q low lt (s, carries) in (
      omega (arith, session),
      omega (arith, sequence),
    )
