use Rattle.std.proofs.Common.{subst, arith}
use Rattle.std.proofs.lemmas.Grind.{common_steps}
use Rattle.dc_sectors.specs.Disk.{Image}
use Rattle.mbdc_log.specs.Stands.{IsRead}
use Rattle.mbdc_log.proofs.rescuing.read_without.Goals as goal

pub returns-in-Ok-read_chain-clause-left : goal.returns-in-Ok-read_chain-clause-left
returns-in-Ok-read_chain-clause-left g c h =
    let found = c.in-Ok-read_chain.found in
    subst (λ (i : Image). IsRead g.K.Language c.args.half_len found.root found.place found.last (g.K.Language.state found.house) i) c.in-Ok.ensures.reads (c.in-Ok-read_chain.ensures.all h)

pub returns-in-Err-clause-counts : goal.returns-in-Err-clause-counts
returns-in-Err-clause-counts g c = grind (arith, common_steps)

pub returns-in-Ok-read_chain-clause-counts : goal.returns-in-Ok-read_chain-clause-counts
returns-in-Ok-read_chain-clause-counts g c = grind (arith, common_steps)

pub returns-then-is_of_image-clause-left : goal.returns-then-is_of_image-clause-left
returns-then-is_of_image-clause-left g c = grind (arith, common_steps)

pub returns-then-is_of_image-clause-counts : goal.returns-then-is_of_image-clause-counts
returns-then-is_of_image-clause-counts g c = grind (arith, common_steps)

pub returns-else-is_of_image-clause-counts : goal.returns-else-is_of_image-clause-counts
returns-else-is_of_image-clause-counts g c = grind (arith, common_steps)
