use Rattle.dc_meters.proofs.Indexed.{indexed_nothing}
use Rattle.dc_meters.proofs.meter_map.MeterMap.new.Goals as goal

pub invariant_of-result : goal.invariant_of-result
invariant_of-result g c = rw (c.new.ensures.empty, c.new-2.ensures.flats, c.new-2.ensures.bus) indexed_nothing
