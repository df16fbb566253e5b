use Rattle.std.proofs.Common.{◌≡◌, ◌+◌, ◌*◌, ◌∷◌, take, length}
use Rattle.mbdc_io.specs.Hex.{upper_hex}
use Rattle.mbdc_io.proofs.hex.put_few.Given as goal

abbrev pub invariant-bytes : goal.invariant-bytes
invariant-bytes g l = record {
  room : length l.text ≡ 33;
  text : take (2 * l.i + 1) l.text ≡ 32 ∷ upper_hex (take l.i l.bytes);
}
