use Rattle.std.proofs.Common.{arith}
use Rattle.std.proofs.lemmas.Grind.{common_steps}
use Rattle.mbdc_change.specs.Encoding.{part_bytes}
use Rattle.mbdc_io.proofs.Writes.{on_any_err}
use Rattle.dc_meters.proofs.Loops.{written_more, stopped_within}
use Rattle.dc_meters.proofs.parts.put_each_part.Goals as goal

pub returns-in_err-put_kept_part-clause-err : goal.returns-in_err-put_kept_part-clause-err
returns-in_err-put_kept_part-clause-err g c =
    on_any_err _ (stopped_within part_bytes c.args.parts.now c.loop-part.part-index c.part-item.result c.args.sink.now c.loop-part.sink c.put_kept_part.new.sink (omega arith) c.part-item.is c.loop-part.invariant c.in_err-put_kept_part.ensures.err)

pub loop-part-preserved : goal.loop-part-preserved
loop-part-preserved g c =
    written_more part_bytes c.args.parts.now c.loop-part.part-index c.part-item.result c.args.sink.now c.loop-part.sink c.put_kept_part.new.sink (omega arith) c.part-item.is c.loop-part.invariant c.in_ok-put_kept_part.ensures.ok

pub returns-clause-ok : goal.returns-clause-ok
returns-clause-ok g c = grind (arith, common_steps)
