use Rattle.dc_meters.proofs.Lists.{AreReadingsUpTo}
use Rattle.dc_meters.proofs.house.decode.each_reading.Given as goal

abbrev pub invariant-loop : goal.invariant-loop
invariant-loop g l = AreReadingsUpTo l.count l.bytes l.confirmed l.next_serial l.readings.items l.counter l.rest
