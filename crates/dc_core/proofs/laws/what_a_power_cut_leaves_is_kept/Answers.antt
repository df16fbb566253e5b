use Rattle.dc_core.proofs.Headline.{image_kept, opening_keeps}
use Rattle.dc_core.proofs.laws.what_a_power_cut_leaves_is_kept.Goals as goal

pub returns-clause-in_a_run : goal.returns-clause-in_a_run
returns-clause-in_a_run g c = image_kept g.E.Disk g.met.E.Disk.only_now

pub returns-clause-in_an_opening : goal.returns-clause-in_an_opening
returns-clause-in_an_opening g c = opening_keeps g.E.Disk g.met.E.Disk.only_now
