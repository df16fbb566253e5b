use Rattle.std.proofs.Common.{◌≡◌, ◌+◌, ◌-◌, ◌*◌, [], length, drop, refl, arith}
use Rattle.std.proofs.lemmas.Grind.{common_steps}
use Rattle.mbdc_io.proofs.Digits.{hex_of_none}
use Rattle.mbdc_decode.proofs.Rooms.{hex_from}
use Rattle.mbdc_decode.proofs.line.put_hex_before.Goals as goal

pub bytes-init : goal.bytes-init
bytes-init c =
    let none : drop (length c.args.bytes.now - 0) c.args.bytes.now ≡ [] = grind (arith, common_steps) in
    let end : c.args.end - 0 ≡ c.args.end = omega arith in
    rw (none, hex_of_none, end) refl

pub bytes-preserved : goal.bytes-preserved
bytes-preserved c =
    let next : length c.args.bytes.now - (c.bytes.i + 1) ≡ length c.args.bytes.now - 1 - c.bytes.i = omega arith in
    let here : length c.args.bytes.now - c.bytes.i ≡ length c.args.bytes.now - 1 - c.bytes.i + 1 = omega arith in
    let place : c.args.end - 2 * (c.bytes.i + 1) ≡ c.args.end - 2 * c.bytes.i - 1 - 1 = omega arith in
    let more = hex_from c.args.bytes.now (length c.args.bytes.now - 1 - c.bytes.i) (omega arith) in
    rw (next, place) (grind arith)
