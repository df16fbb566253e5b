use Rattle.std.proofs.Common.{Bool, ◌++◌, [], ◌∷◌, ap, sym, ◌∙◌, cond}
use Rattle.json.specs.Print.{quoted}
use Rattle.mbdc_decode.proofs.Adding.{sent_as}
use Rattle.mbdc_decode.proofs.Keys.{but_first, key_text}
use Rattle.mbdc_decode.proofs.tokens.writer.TokenWriter.put_key.Goals as goal

pub returns-then-self : goal.returns-then-self
returns-then-self g c =
    sent_as (cond c.args.self.now.after_value (44 ∷ []) [] ++ (quoted c.args.name.now ++ 58 ∷ c.args.after.now)) c.put.ensures
    (c.write_key-len.ensures.text ∙ key_text (44 ∷ []) c.args.name.now c.args.after.now c.if-not-is_plain.ensures
    ∙ ap (λ (b : Bool). cond b (44 ∷ []) [] ++ (quoted c.args.name.now ++ 58 ∷ c.args.after.now)) (sym c.if-self.true))

pub returns : goal.returns
returns g c =
    sent_as (cond c.args.self.now.after_value (44 ∷ []) [] ++ (quoted c.args.name.now ++ 58 ∷ c.args.after.now)) c.put-2.ensures
    (but_first c.write_key-len.new.room _ c.write_key-len.result 44 c.write_key-len.ensures.text
    ∙ key_text [] c.args.name.now c.args.after.now c.if-not-is_plain.ensures
    ∙ ap (λ (b : Bool). cond b (44 ∷ []) [] ++ (quoted c.args.name.now ++ 58 ∷ c.args.after.now)) (sym c.if-self.false))
