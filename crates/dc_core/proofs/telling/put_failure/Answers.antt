use Rattle.std.proofs.Common.{◌++◌, codes, arith}
use Rattle.std.proofs.lemmas.Grind.{common_steps}
use Rattle.mbdc_io.specs.Stream.{PutsFront}
use Rattle.mbdc_io.proofs.Pieces.{puts_front-first}
use Rattle.mbdc_io.specs.Words.{fault_text}
use Rattle.dc_core.proofs.telling.put_failure.Goals as goal

pub returns-in_err-put : goal.returns-in_err-put
returns-in_err-put g c =
    let words = fault_text c.args.number c.args.name.now in
    let front : PutsFront (g.W.Sink.written c.args.out.now) (g.W.Sink.written c.put.new.self) (codes "FAILED " ++ words) = puts_front-first words c.in_err-put.ensures.err in
    grind arith

pub returns : goal.returns
returns g c = grind (arith, common_steps)
