use Rattle.std.proofs.Common.{◌++◌, sym, subst}
use Rattle.dc_core.proofs.Headline.{stopped_reads}
use Rattle.mbdc_theorems.specs.House.{AreWhole}
use Rattle.mbdc_theorems.proofs.Houses.{each_reading_is_whole}
use Rattle.mbdc_theorems.proofs.house.laws.what_is_read_after_a_crash_is_whole.Goals as goal

pub returns : goal.returns
returns g c budget sends state done more buses disk held sound house was read =
    let is = (stopped_reads g.E.Disk g.met.E.Disk.only_now state done more was).kept held read in
    subst (AreWhole sends) (sym is.held_is) (each_reading_is_whole budget sends state (done ++ more) buses is.prefix sound house is.is_prefix)
