use Rattle.mbdc_reading.proofs.real.+halved.Given as goal

abbrev pub decreases-halved : goal.decreases-halved
decreases-halved l = l.count
