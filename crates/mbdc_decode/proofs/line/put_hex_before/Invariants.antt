use Rattle.std.proofs.Common.{◌≡◌, ◌-◌, ◌*◌, ◌++◌, length, drop}
use Rattle.mbdc_io.specs.Hex.{upper_hex}
use Rattle.mbdc_decode.proofs.line.put_hex_before.Given as goal

abbrev pub invariant-bytes : goal.invariant-bytes
invariant-bytes l = drop (l.end - 2 * l.i) l.room ≡ upper_hex (drop (length l.bytes - l.i) l.bytes) ++ drop l.end l.initial.room
