use Rattle.dc_poller.proofs.Lives.{one_life}
use Rattle.dc_poller.proofs.laws.a_run_is_one_life.Goals as goal

pub returns : goal.returns
returns g c = one_life g.D.Disk
