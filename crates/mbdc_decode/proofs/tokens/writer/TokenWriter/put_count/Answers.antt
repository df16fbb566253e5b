use Rattle.std.proofs.Common.{◌≡◌, ◌+◌, ◌++◌, List, ℕ, [], ◌∷◌, refl, sym, ap, ◌∙◌, cond}
use Rattle.std.specs.Prelude.{decimal}
use Rattle.std.proofs.lemmas.Fmt.{decimal_digit}
use Rattle.json.specs.Print.{quoted}
use Rattle.json.specs.Token as Token
use Rattle.mbdc_decode.proofs.Adding.{◌>>◌, field_added, first_added}
use Rattle.mbdc_decode.proofs.tokens.writer.TokenWriter.put_count.Goals as goal

pub returns-then-number-lt10 : goal.returns-then-number-lt10
returns-then-number-lt10 g c =
    let digit : decimal c.args.number ≡ (48 + c.args.number) ∷ [] = decimal_digit c.args.number c.if-number-lt10.true in
    field_added c.args.name.now (Token.number (decimal c.args.number)) refl c.put_key.ensures c.note.ensures
    (ap (λ (text : List ℕ). cond c.args.self.now.after_value (44 ∷ []) [] ++ (quoted text ++ 58 ∷ (48 + c.args.number) ∷ [])) c.as_bytes.ensures.value
    ∙ ap (λ (text : List ℕ). cond c.args.self.now.after_value (44 ∷ []) [] ++ (quoted c.args.name.now ++ 58 ∷ text)) (sym digit))

pub returns : goal.returns
returns g c = c.put_name.ensures >> first_added (Token.number (decimal c.args.number)) refl c.put_decimal.ensures c.note-2.ensures cc
