use Rattle.std.proofs.Common.{◌-◌, length, arith}
use Rattle.mbdc_io.proofs.Slices.{fails_again, fills_it}
use Rattle.mbdc_io.proofs.slice_sink.SliceSinkSink.put.Goals as goal

pub returns-then-self-gt0-clause-err : goal.returns-then-self-gt0-clause-err
returns-then-self-gt0-clause-err c =
    let s = c.args.self.now in
    let risen = c.one_failure_more-self.ensures.risen in
    fails_again s.room.ghost_name s.room.now s.len s.failures c.one_failure_more-self.result s.past c.args.bytes.now c.if-self-gt0.true (omega arith)

pub returns-then-bytes-free-clause-err : goal.returns-then-bytes-free-clause-err
returns-then-bytes-free-clause-err c =
    let s = c.args.self.now in
    let parts = c.split_at.ensures in
    fills_it s.room.ghost_name s.room.now c.place.new.bytes c.split_at.result.0.now c.split_at.result.1.now c.args.bytes.now
    s.len (length s.room.now - s.len) s.failures s.past (omega (arith, c.if-self-gt0.false)) (omega (arith, c.place.auto.bytes)) (omega (arith, s.within))
    parts.front_len c.place.ensures parts.front parts.back (omega (arith, parts.back_len, c.if-bytes-free.true))
