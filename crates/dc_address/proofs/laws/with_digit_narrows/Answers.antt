use Rattle.dc_address.proofs.Masks.{matches-with_digit}
use Rattle.dc_address.proofs.laws.with_digit_narrows.Goals as goal

pub returns : goal.returns
returns c = matches-with_digit
