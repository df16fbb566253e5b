use Rattle.mbdc_decode.proofs.Adding.{◌&&&◌}
use Rattle.mbdc_decode.proofs.tokens.writer.TokenWriter.put_rest.Goals as goal

pub returns : goal.returns
returns g c = c.put_escaped.ensures &&& c.put.ensures
