use Rattle.mbdc_installer.proofs.bench.listing.List.+ask_each.Given as goal

abbrev pub decreases-ask_each : goal.decreases-ask_each
decreases-ask_each g l = l.count
