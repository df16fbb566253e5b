use Rattle.std.proofs.Common.{refl}
use Rattle.json.specs.Token as Token
use Rattle.mbdc_decode.proofs.Adding.{◌>>◌, first_added}
use Rattle.mbdc_decode.proofs.tokens.writer.TokenWriter.put_flag.Goals as goal

pub returns : goal.returns
returns g c = c.put_name.ensures >> first_added (Token.boolean c.args.flag) refl c.put.ensures c.note.ensures cc
