use Rattle.std.proofs.Common.{◌≡◌, ◌*◌, take, drop, filter}
use Rattle.std.specs.Io.KnownBytes.{prepend_known}
use Rattle.mbdc_io.specs.Hex.{bytes_of}
use Rattle.mbdc_io.specs.Lines.{is_solid}
use Rattle.mbdc_io.proofs.hex.decode_spaced.Given as goal

abbrev pub invariant-pairs : goal.invariant-pairs
invariant-pairs l = bytes_of (filter is_solid l.line) ≡ prepend_known (take l.i l.out) (bytes_of (filter is_solid (drop (3 * l.i) l.line)))
