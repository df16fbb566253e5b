use Rattle.std.proofs.Common.{arith}
use Rattle.mbdc_io.proofs.Pieces.{written}
use Rattle.mbdc_json.specs.LatestValues.{sent_lines, sent_line}
use Rattle.mbdc_json.proofs.latest.lines.put_current.Goals as goal

pub returns-in_err-put_sent : goal.returns-in_err-put_sent
unfolding sent_lines sent_line
returns-in_err-put_sent g c = grind (arith, written)

pub returns-in_err-put : goal.returns-in_err-put
unfolding sent_lines sent_line
returns-in_err-put g c = grind (arith, written)

pub returns : goal.returns
unfolding sent_lines sent_line
returns g c = grind (arith, written)
