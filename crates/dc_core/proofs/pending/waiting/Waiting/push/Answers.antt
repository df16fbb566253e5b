use Rattle.std.proofs.Common.{◌≡◌, ◌≤◌, ◌+◌, ◌*◌, ◌++◌, length, ap, arith, length-append}
use Rattle.mbdc_change.specs.Encoding.{change_bytes, longest_change}
use Rattle.mbdc_change.proofs.CommandSpellings.{change_len, change_some}
use Rattle.dc_core.specs.Waiting.{Waiting, most_waiting}
use Rattle.dc_core.proofs.Broken.{no_break}
use Rattle.dc_core.proofs.pending.waiting.Waiting.push.Goals.{After-encode_change}
use Rattle.dc_core.proofs.pending.waiting.Waiting.push.Goals as goal

-- THE CHANGE HAS ROOM after those that wait.
record HasRoom (c : After-encode_change) : Type 0 where
  few : c.self.inside.count + 1 ≤ most_waiting
  short : length c.self.inside.bytes.bytes + length (change_bytes c.args.change.now) ≤ longest_change * (c.self.inside.count + 1)

has_room : (c : After-encode_change) → HasRoom c
has_room c =
    let short = c.self.invariant.short in
    let count : c.self.inside.count ≡ c.args.self.now.count = ap (λ (w : Waiting). w.count) c.self.view_is in
    let room = c.requires.room in
    let len = change_len c.args.change.now c.requires.is_change in
    record { few = omega (arith, count, room); short = omega (arith, short, len) }

pub unreachable-requires : goal.unreachable-requires
unreachable-requires c =
    let room = has_room (goal.at.unreachable-requires c).After-encode_change in
    let few = room.few in
    let short = room.short in
    no_break c.self.inside.bytes c.encode_change.new.sink (change_bytes c.args.change.now) (omega (arith, few, short)) c.in-Err.ensures.err.broken

pub invariant_of-self : goal.invariant_of-self
invariant_of-self c =
    let room = has_room (goal.at.invariant_of-self c).After-encode_change in
    let few = room.few in
    let short = room.short in
    let went = c.in-Ok.ensures.ok.went in
    let e : c.encode_change.new.sink.bytes ≡ c.self.inside.bytes.bytes ++ change_bytes c.args.change.now = cc in
    let sum = length-append c.self.inside.bytes.bytes (change_bytes c.args.change.now) in
    let least = change_some c.args.change.now c.requires.is_change in
    let had = c.self.invariant.some in
    record { few = omega (arith, few); some = omega (arith, had, least, sum, ap length e); short = omega (arith, short, sum, ap length e) }
