use Rattle.std.proofs.Common.{refl}
use Rattle.json.specs.Token as Token
use Rattle.mbdc_decode.proofs.Adding.{last_added}
use Rattle.mbdc_decode.proofs.tokens.writer.TokenWriter.end_array.Goals as goal

pub returns : goal.returns
returns g c = last_added Token.end_array refl c.put.ensures c.note.ensures refl
