use Rattle.dc_sectors.proofs.Between.{stood_between}
use Rattle.dc_sectors.proofs.snapshot.laws.what_was_read_twice_stood_between.Goals as goal

pub returns : goal.returns
returns c = stood_between
