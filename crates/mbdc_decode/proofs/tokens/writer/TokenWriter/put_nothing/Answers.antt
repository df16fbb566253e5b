use Rattle.std.proofs.Common.{◌++◌, List, ℕ, [], ◌∷◌, refl, ap, cond}
use Rattle.json.specs.Print.{quoted, token_text}
use Rattle.json.specs.Token as Token
use Rattle.mbdc_decode.proofs.Adding.{field_added}
use Rattle.mbdc_decode.proofs.tokens.writer.TokenWriter.put_nothing.Goals as goal

pub returns : goal.returns
returns g c =
    field_added c.args.name.now Token.null refl c.put_key.ensures c.note.ensures
    (ap (λ (text : List ℕ). cond c.args.self.now.after_value (44 ∷ []) [] ++ (quoted text ++ 58 ∷ token_text Token.null)) c.as_bytes.ensures.value)
