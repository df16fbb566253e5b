use Rattle.mbdc_commands.proofs.FailedPut.{failed_front, on_err}
use Rattle.mbdc_commands.proofs.known_sink.KnownSinkSink.put.Goals as goal

pub returns-then-self-gt0-clause-err : goal.returns-then-self-gt0-clause-err
returns-then-self-gt0-clause-err g c = failed_front g.K.Known.writes _ _ _ _ _ c.args.self.now.is_held c.one_failure_more-self.ensures.risen

pub returns-clause-err : goal.returns-clause-err
returns-clause-err g c = on_err c.put.result _ _ c.put.ensures.failed (failed_front g.K.Known.writes _ _ _ _ _ c.args.self.now.is_held)
