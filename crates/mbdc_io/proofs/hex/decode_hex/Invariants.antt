use Rattle.std.proofs.Common.{◌≡◌, ◌*◌, take, drop}
use Rattle.std.specs.Io.KnownBytes.{prepend_known}
use Rattle.mbdc_io.specs.Hex.{bytes_of}
use Rattle.mbdc_io.proofs.hex.decode_hex.Given as goal

abbrev pub invariant-pairs : goal.invariant-pairs
invariant-pairs l = bytes_of l.digits ≡ prepend_known (take l.i l.out) (bytes_of (drop (2 * l.i) l.digits))
