use Rattle.std.proofs.Common.{◌+◌, subst}
use Rattle.dc_sectors.specs.Disk.{Image}
use Rattle.mbdc_log.specs.Stands.{IsFirstAhead}
use Rattle.mbdc_log.proofs.reading.read_image.Goals as goal

pub returns-in-Ok-clause-ahead : goal.returns-in-Ok-clause-ahead
returns-in-Ok-clause-ahead g c h =
    let found = c.in_ok-found.found in
    subst (λ (i : Image). IsFirstAhead c.args.half_len found.root.session (found.last + 1) c.in-Ok.ahead i) c.read_chain.ensures.looked.reads_same (c.in-Ok.ensures.first h)
