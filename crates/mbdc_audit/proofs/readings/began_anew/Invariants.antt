-- what telegrams of both runs show of the values so far
use Rattle.mbdc_audit.proofs.Shows.{IsHigh, IsLow}
use Rattle.mbdc_audit.proofs.readings.began_anew.Given as goal

abbrev pub invariant-values : goal.invariant-values
invariant-values l = IsHigh l.before l.values l.value-index l.high × IsLow l.zero.run l.zero.moment l.values l.value-index l.low
