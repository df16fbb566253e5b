use Rattle.std.proofs.Common.{rules}
use Rattle.mbdc_bus.specs.Windows.{Insists, most_tries}
use Rattle.mbdc_installer.specs.Confirming.{Confirms, selection_of}
use Rattle.mbdc_installer.proofs.confirming.is_confirmed.Goals as goal

pub returns : goal.returns
returns g c =
    let asked : Insists g.B.Bus.asks_all (selection_of c.args.meter.now) most_tries c.is_nobody_hidden.new.bus c.insist.result c.insist.new.bus = search rules in
    Confirms.is_selected c.insist.result c.is_nobody_hidden.ensures (search rules) asked c.is_ack.ensures
