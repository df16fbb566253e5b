use Rattle.std.proofs.Common.{List, ℕ, [], ◌∷◌, ◌++◌, refl, ap, sym, ◌∙◌, cond, arith}
use Rattle.json.specs.Print.{quoted}
use Rattle.json.specs.Token as Token
use Rattle.mbdc_io.specs.Hex.{upper_hex}
use Rattle.mbdc_decode.proofs.Adding.{◌&&&◌, field_added}
use Rattle.mbdc_decode.proofs.Escapes.{hex_escaped}
use Rattle.mbdc_decode.proofs.Keys.{text_field}
use Rattle.mbdc_decode.proofs.tokens.writer.TokenWriter.put_hex.Goals as goal

pub returns : goal.returns
returns g c =
    let digits : List ℕ = upper_hex c.args.bytes.now in
    let before : List ℕ = cond c.args.self.now.after_value (44 ∷ []) [] in
    let plain = hex_escaped c.args.bytes.now (λ i. omega (arith, c.type_inv.bytes i)) in
    field_added c.args.name.now (Token.string digits) refl (c.put_key.ensures &&& c.put_digits.ensures &&& c.put.ensures) c.note.ensures
    (ap (λ (s : List ℕ). (before ++ (quoted c.as_bytes.result.now ++ 58 ∷ 34 ∷ [])) ++ (s ++ 34 ∷ [])) (sym plain)
    ∙ text_field before c.args.name.now digits c.as_bytes.result.now digits c.as_bytes.ensures.value refl)
