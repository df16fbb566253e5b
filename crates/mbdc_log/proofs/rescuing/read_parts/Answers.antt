use Rattle.std.proofs.Common.{ap, Ok, arith}
use Rattle.std.proofs.lemmas.Grind.{common_steps}
use Rattle.mbdc_log.proofs.OlderRoots.{of_some, rescued_before, rescued_older}
use Rattle.mbdc_log.proofs.rescuing.read_parts.Goals as goal

pub returns-in-Some-clause-rescued : goal.returns-in-Some-clause-rescued
returns-in-Some-clause-rescued g c h unread =
    let back = c.in_ok-older.ensures.back (c.read_before.ensures.before h) in
    let left = of_some _ _ _ c.in-Some.is (c.in_ok-found.ensures.before_it h) in
    rescued_before g.K.Language c.args.half_len _ _ c.args.fault _ _ _ _ _ back unread left.0 left.1

pub returns-in-Some-older-clause-rescued : goal.returns-in-Some-older-clause-rescued
returns-in-Some-older-clause-rescued g c h unread =
    let kept = c.read_before.ensures.before h in
    let back = c.in_ok-older.ensures.back kept in
    let older = of_some _ _ _ c.in-Some-older.is (c.in_ok-older.ensures.older kept) in
    let stops = c.in_ok-found.ensures.none h (ap (λ o. Ok o) c.in-None.is) in
    rescued_older g.K.Language c.args.half_len _ _ c.args.fault _ _ _ _ _ _ back c.requires.of_image unread stops c.sector_in.ensures older.0 older.1

pub returns-in_err-older-clause-rescued : goal.returns-in_err-older-clause-rescued
returns-in_err-older-clause-rescued g c = grind (arith, common_steps)

pub returns-in_err-older-clause-lost : goal.returns-in_err-older-clause-lost
returns-in_err-older-clause-lost g c = grind (arith, common_steps)

pub returns-in_err-older-clause-counts : goal.returns-in_err-older-clause-counts
returns-in_err-older-clause-counts g c = grind (arith, common_steps)

pub returns-in_err-found-clause-rescued : goal.returns-in_err-found-clause-rescued
returns-in_err-found-clause-rescued g c = grind (arith, common_steps)

pub returns-in_err-found-clause-lost : goal.returns-in_err-found-clause-lost
returns-in_err-found-clause-lost g c = grind (arith, common_steps)

pub returns-in_err-found-clause-refused : goal.returns-in_err-found-clause-refused
returns-in_err-found-clause-refused g c = grind (arith, common_steps)

pub returns-in_err-found-clause-budget : goal.returns-in_err-found-clause-budget
returns-in_err-found-clause-budget g c = grind (arith, common_steps)

pub returns-in_err-found-clause-before : goal.returns-in_err-found-clause-before
returns-in_err-found-clause-before g c = grind (arith, common_steps)

pub returns-in_err-found-clause-counts : goal.returns-in_err-found-clause-counts
returns-in_err-found-clause-counts g c = grind (arith, common_steps)

pub returns-in-Some-clause-budget : goal.returns-in-Some-clause-budget
returns-in-Some-clause-budget g c = grind (arith, common_steps)

pub returns-in-Some-clause-counts : goal.returns-in-Some-clause-counts
returns-in-Some-clause-counts g c = grind (arith, common_steps)

pub returns-in-Some-older-clause-budget : goal.returns-in-Some-older-clause-budget
returns-in-Some-older-clause-budget g c = grind (arith, common_steps)

pub returns-in-Some-older-clause-before : goal.returns-in-Some-older-clause-before
returns-in-Some-older-clause-before g c = grind (arith, common_steps)

pub returns-in-Some-older-clause-counts : goal.returns-in-Some-older-clause-counts
returns-in-Some-older-clause-counts g c = grind (arith, common_steps)

pub returns-in-None-older-clause-counts : goal.returns-in-None-older-clause-counts
returns-in-None-older-clause-counts g c = grind (arith, common_steps)
