use Rattle.dc_core.proofs.Headline.{stopped_reads}
use Rattle.dc_core.proofs.laws.what_is_read_after_a_crash_is_kept.Goals as goal

pub returns-clause-kept : goal.returns-clause-kept
returns-clause-kept g c state done more disk was =
    let opens = stopped_reads g.E.Disk g.met.E.Disk.only_now state done more was in
    record { premise = opens.each; kept = opens.kept; told = opens.told }

pub returns-clause-settled : goal.returns-clause-settled
returns-clause-settled g c state done more disk was =
    let opens = stopped_reads g.E.Disk g.met.E.Disk.only_now state done more was in
    opens.is_settled
