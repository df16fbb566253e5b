use Rattle.std.proofs.Common.{◌++◌, [], ◌∷◌, append_assoc, cond}
use Rattle.json.specs.Print.{quoted}
use Rattle.mbdc_decode.proofs.Adding.{◌&&&◌, sent_as}
use Rattle.mbdc_decode.proofs.tokens.writer.TokenWriter.put_other_key.Goals as goal

pub returns : goal.returns
returns g c =
    sent_as (cond c.args.self.now.after_value (44 ∷ []) [] ++ (quoted c.args.name.now ++ 58 ∷ c.args.after.now))
    (c.put_first.ensures &&& c.put_escaped.ensures &&& c.put.ensures &&& c.put-2.ensures) (simp append_assoc)
