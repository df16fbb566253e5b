use Rattle.std.proofs.Common.{arith}
use Rattle.std.proofs.lemmas.Grind.{common_steps}
use Rattle.dc_meters.proofs.reading_list.ReadingList.forget.Goals as goal

pub overflow_add-size : goal.overflow_add-size
overflow_add-size g c = grind (arith, common_steps)

pub loop-reading-smaller : goal.loop-reading-smaller
loop-reading-smaller g c = grind (arith, common_steps)

pub loop-reading-preserved : goal.loop-reading-preserved
loop-reading-preserved g c = grind (arith, common_steps)
