use Rattle.std.proofs.Common.{refl}
use Rattle.json.specs.Token as Token
use Rattle.mbdc_decode.proofs.Adding.{first_added}
use Rattle.mbdc_decode.proofs.tokens.writer.TokenWriter.begin_object.Goals as goal

pub returns : goal.returns
returns g c = first_added Token.begin_object refl c.put_first.ensures c.note.ensures refl
