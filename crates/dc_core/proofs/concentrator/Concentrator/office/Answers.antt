use Rattle.std.proofs.Common.{Ok, Result}
use Rattle.mbdc_io.specs.Written.{Wrote}
use Rattle.mbdc_io.specs.declared.stream.IoFault.{IoFault}
use Rattle.dc_core.specs.declared.fault.WriteFault.{WriteFault}
use Rattle.dc_core.specs.Event.{offices}
use Rattle.dc_core.proofs.Answering.{turned_by}
use Rattle.dc_core.proofs.concentrator.Concentrator.office.Goals as goal

pub returns-in-Ok-clause-turned : goal.returns-in-Ok-clause-turned
returns-in-Ok-clause-turned g c origin core at =
    let told : Result (Unit {0}) IoFault = Ok tt in
    let answered : Result (Unit {0}) WriteFault = Ok tt in
    turned_by g.D.Disk origin
    c.args.self.now c.reply.new.self core (offices c.args.line.now) (Wrote g.W.Sink told c.args.out.now c.reply.new.out) (Wrote g.W.Sink answered c.args.out.now c.reply.new.out)
    (λ text wrote. wrote) (c.in-Ok.ensures.turned origin core at)
