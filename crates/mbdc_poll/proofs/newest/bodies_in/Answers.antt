use Rattle.std.proofs.Common.{ap, arith, length}
use Rattle.mbdc_poll.proofs.newest.bodies_in.Goals as goal

pub of-requires : goal.of-requires
of-requires g c = omega (arith, ap length c.parts.ensures.parts, c.parts.ensures.is_reading.parts_are.count)
