use Rattle.std.proofs.Common.{◌∙◌, ap, arith}
use Rattle.std.proofs.lemmas.Grind.{common_steps}
use Rattle.dc_sectors.specs.Disk.{Image, put}
use Rattle.mbdc_log.specs.Rescue.{without}
use Rattle.mbdc_log.proofs.OlderRoots.{put_back}
use Rattle.mbdc_log.proofs.rescuing.read_older.Goals as goal

pub returns-in-Some-clause-back : goal.returns-in-Some-clause-back
returns-in-Some-clause-back g c h =
    let here = c.in-Ok-read.ensures.answer (c.read_without.ensures.before (c.write.ensures.before h)) in
    let cleared = c.in_ok-left.ensures.cleared ∙ ap (λ (i : Image). without c.slot-slot.result i) c.read.ensures.reads in
    c.in-Ok-write.ensures.reads ∙ (ap (λ (i : Image). put i c.slot-slot.result c.in-Ok-read.bytes) cleared ∙ (put_back _ _ _ _ here ∙ c.choose.ensures.reads))

pub choose-requires : goal.choose-requires
choose-requires g c = grind (arith, common_steps)

pub returns-in-Err-Unreadable-clause-counts : goal.returns-in-Err-Unreadable-clause-counts
returns-in-Err-Unreadable-clause-counts g c = grind (arith, common_steps)

pub returns-in-Err-Failed-clause-counts : goal.returns-in-Err-Failed-clause-counts
returns-in-Err-Failed-clause-counts g c = grind (arith, common_steps)

pub returns-in_err-left-clause-counts : goal.returns-in_err-left-clause-counts
returns-in_err-left-clause-counts g c = grind (arith, common_steps)

pub returns-in-Err-write-clause-counts : goal.returns-in-Err-write-clause-counts
returns-in-Err-write-clause-counts g c = grind (arith, common_steps)

pub returns-in-Some-clause-older : goal.returns-in-Some-clause-older
returns-in-Some-clause-older g c = grind (arith, common_steps)

pub returns-in-Some-clause-budget : goal.returns-in-Some-clause-budget
returns-in-Some-clause-budget g c = grind (arith, common_steps)

pub returns-in-Some-clause-counts : goal.returns-in-Some-clause-counts
returns-in-Some-clause-counts g c = grind (arith, common_steps)

pub returns-in-None-clause-counts : goal.returns-in-None-clause-counts
returns-in-None-clause-counts g c = grind (arith, common_steps)
