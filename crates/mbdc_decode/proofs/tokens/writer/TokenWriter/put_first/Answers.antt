use Rattle.mbdc_decode.proofs.Adding.{◌&&&◌}
use Rattle.mbdc_decode.proofs.tokens.writer.TokenWriter.put_first.Goals as goal

pub returns : goal.returns
returns g c = c.put_comma.ensures &&& c.put.ensures
