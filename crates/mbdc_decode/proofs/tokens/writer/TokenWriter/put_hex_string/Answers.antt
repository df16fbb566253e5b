use Rattle.std.proofs.Common.{List, ℕ, refl, append_assoc, arith}
use Rattle.json.specs.Token as Token
use Rattle.mbdc_io.specs.Hex.{upper_hex}
use Rattle.mbdc_decode.proofs.Adding.{◌&&&◌, first_added}
use Rattle.mbdc_decode.proofs.Escapes.{hex_escaped}
use Rattle.mbdc_decode.proofs.tokens.writer.TokenWriter.put_hex_string.Goals as goal

pub returns : goal.returns
returns g c =
    let digits : List ℕ = upper_hex c.args.bytes.now in
    let plain = hex_escaped c.args.bytes.now (λ i. omega (arith, c.type_inv.bytes i)) in
    first_added (Token.string digits) refl (c.put_first.ensures &&& c.put_digits.ensures &&& c.put.ensures) c.note.ensures (rw plain (simp append_assoc))
