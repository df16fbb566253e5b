use Rattle.std.proofs.Common.{refl, arith}
use Rattle.dc_sectors.proofs.Moments.{all_passed}
use Rattle.mbdc_io.proofs.Pieces.{told}
use Rattle.dc_pages.proofs.streaming.GroupSinkSink.put.Goals as goal

pub returns-in-Ok-clause-step : goal.returns-in-Ok-clause-step
returns-in-Ok-clause-step g c =
    let done = c.in-Ok.ensures in
    let counts = all_passed g.D.Disk c.args.self.now.disk.now c.put.new.disk _ done.counts (λ is. cc is) in
    (record { length_is = done.length; some = done.some; still_some = done.still_some; same = done.same; going = done.going; elsewhere = done.elsewhere; before = done.before; counts = counts }, refl)

pub returns-then-not-has_room-clause-err : goal.returns-then-not-has_room-clause-err
returns-then-not-has_room-clause-err g c = grind (arith, told)

pub returns-then-not-has_room-clause-broken : goal.returns-then-not-has_room-clause-broken
returns-then-not-has_room-clause-broken g c = grind (arith, told)

pub returns-in-Err-clause-err : goal.returns-in-Err-clause-err
returns-in-Err-clause-err g c = grind (arith, told)

pub returns-in-Err-clause-broken : goal.returns-in-Err-clause-broken
returns-in-Err-clause-broken g c = grind (arith, told)
