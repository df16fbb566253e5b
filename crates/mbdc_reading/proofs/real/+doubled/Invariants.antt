use Rattle.mbdc_reading.proofs.real.+doubled.Given as goal

abbrev pub decreases-doubled : goal.decreases-doubled
decreases-doubled l = l.count
