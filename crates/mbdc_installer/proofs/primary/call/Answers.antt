use Rattle.std.proofs.Common.{◌≢◌, true, [], rules}
use Rattle.dc_linkframe.specs.Control.{request_to}
use Rattle.dc_linkframe.specs.Frame.{spelling}
use Rattle.mbdc_bus.specs.Windows.{Reads}
use Rattle.mbdc_installer.specs.Scan.{answers}
use Rattle.mbdc_installer.proofs.primary.call.Goals as goal

pub returns : goal.returns
returns g c =
    let some : c.insist-answer.result ≢ [] = search rules in
    let read : Reads g.B.Bus.asks_all (spelling (request_to true c.args.address)) c.insist-answer.new.bus c.read_twice-telegram.result c.read_twice-telegram.new.bus = search rules in
    answers some c.insist-answer.ensures.asked read
