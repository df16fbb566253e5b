use Rattle.std.proofs.Common.{◌++◌, List, ℕ, [], ◌∷◌, refl, ap, cond}
use Rattle.json.specs.Print.{quoted}
use Rattle.json.specs.Token as Token
use Rattle.mbdc_decode.proofs.Adding.{first_added}
use Rattle.mbdc_decode.proofs.tokens.writer.TokenWriter.put_name.Goals as goal

pub returns : goal.returns
returns g c =
    first_added (Token.key c.args.name.now) refl c.put_key.ensures c.note.ensures
    (ap (λ (text : List ℕ). cond c.args.self.now.after_value (44 ∷ []) [] ++ (quoted text ++ 58 ∷ [])) c.as_bytes.ensures.value)
