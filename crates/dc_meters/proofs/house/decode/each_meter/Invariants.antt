use Rattle.dc_meters.proofs.Lists.{AreMetersUpTo}
use Rattle.dc_meters.proofs.house.decode.each_meter.Given as goal

abbrev pub invariant-loop : goal.invariant-loop
invariant-loop g l = AreMetersUpTo l.count l.bytes l.meters.entries l.counter l.rest
