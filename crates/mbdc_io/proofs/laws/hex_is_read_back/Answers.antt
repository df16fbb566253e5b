use Rattle.mbdc_io.proofs.Digits.{read_back}
use Rattle.mbdc_io.proofs.laws.hex_is_read_back.Goals as goal

pub returns : goal.returns
returns c = read_back
