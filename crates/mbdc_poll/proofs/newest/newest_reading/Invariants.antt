use Rattle.std.proofs.Common.{◌≡◌}
use Rattle.dc_meters.specs.Orders.{serials_of}
use Rattle.mbdc_poll.specs.Happening.{last_of}
use Rattle.mbdc_poll.proofs.newest.newest_reading.Given as goal

-- the last one of those that are left is that of all
abbrev pub invariant-loop-serial : goal.invariant-loop-serial
invariant-loop-serial g l = record {
  can : (goal.iterator-loop-serial g).can_next l.serial-iterator;
  ends : (goal.iterator-loop-serial g).is_finite l.serial-iterator;
  last : last_of l.newest l.serial-iterator ≡ last_of 0 (serials_of l.meter l.house.state.readings);
}
