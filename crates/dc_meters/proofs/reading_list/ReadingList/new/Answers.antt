use Rattle.dc_meters.proofs.Ordered.{ordered_nothing}
use Rattle.dc_meters.proofs.reading_list.ReadingList.new.Goals as goal

pub invariant_of-result : goal.invariant_of-result
invariant_of-result g c = rw (c.new.ensures.items, c.new-2.ensures.meters, c.new-2.ensures.days) ordered_nothing
