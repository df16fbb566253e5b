use Rattle.dc_readout.specs.Bound.{requests_left}
use Rattle.mbdc_installer.proofs.reading.+read_on.Given as goal

abbrev pub decreases-read_on : goal.decreases-read_on
decreases-read_on g l = requests_left l.session
