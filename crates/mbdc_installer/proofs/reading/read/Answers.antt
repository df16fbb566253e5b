use Rattle.mbdc_io.specs.Stream.{Puts}
use Rattle.dc_readout.specs.Summary.{begun}
use Rattle.mbdc_installer.proofs.Readouts.{from_none}
use Rattle.mbdc_installer.proofs.Results.{each_ok}
use Rattle.mbdc_installer.proofs.reading.read.Goals as goal

pub returns-clause-read : goal.returns-clause-read
returns-clause-read g c =
    each_ok c.read_on.result (λ readout more. from_none g.B.Bus.asks c.args.bus.now c.read_on.new.bus c.start-session.result (begun c.args.meter.now c.args.address) c.none.result readout
    (Puts (g.W.Sink.written c.args.out.now) (g.W.Sink.written c.read_on.new.out)) c.start-session.ensures.exact c.none.ensures more) c.read_on.ensures.read
