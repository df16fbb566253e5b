use Rattle.std.proofs.Common.{refl, append_assoc}
use Rattle.json.specs.Token as Token
use Rattle.mbdc_decode.proofs.Adding.{◌&&&◌, first_added}
use Rattle.mbdc_decode.proofs.tokens.writer.TokenWriter.put_string.Goals as goal

pub returns : goal.returns
returns g c = first_added (Token.string c.args.text.now) refl (c.put_first.ensures &&& c.put_rest.ensures) c.note.ensures (simp append_assoc)
