use Rattle.mbdc_poll.proofs.Readdressed.{is_read_by_address, readdresses_nothing}
use Rattle.mbdc_poll.proofs.laws.a_meter_is_read_by_its_address.Goals as goal

pub returns : goal.returns
returns g c = record { addresses = readdresses_nothing g.B.HalfBus; by_address = is_read_by_address }
