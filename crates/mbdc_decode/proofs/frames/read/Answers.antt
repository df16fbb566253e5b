use Rattle.mbdc_decode.proofs.Spelled.{parse_is_parsed}
use Rattle.mbdc_decode.proofs.frames.read.Goals as goal

pub returns : goal.returns
returns c = parse_is_parsed c.args.text.now c.parse.result c.parse.ensures.exact c.parse.ensures.refused
