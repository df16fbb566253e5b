use Rattle.std.proofs.Common.{[], ◌∷◌, refl, cond}
use Rattle.json.specs.Token as Token
use Rattle.mbdc_decode.proofs.Adding.{◌&&&◌, field_added}
use Rattle.mbdc_decode.proofs.Keys.{text_field}
use Rattle.mbdc_decode.proofs.tokens.writer.TokenWriter.put_text.Goals as goal

pub returns : goal.returns
returns g c =
    field_added c.args.name.now (Token.string c.args.text.now) refl (c.put_key.ensures &&& c.put_rest.ensures) c.note.ensures
    (text_field (cond c.args.self.now.after_value (44 ∷ []) []) c.args.name.now c.args.text.now c.as_bytes.result.now c.as_bytes-2.result.now
    c.as_bytes.ensures.value c.as_bytes-2.ensures.value)
