use Rattle.dc_units.proofs.Exact.{length-last_digits, digits_back}
use Rattle.dc_units.proofs.laws.texts_are_exact.Goals as goal

pub returns-clause-digits : goal.returns-clause-digits
returns-clause-digits c = λ n places fits. digits_back places n fits

pub returns-clause-places : goal.returns-clause-places
returns-clause-places c = length-last_digits
