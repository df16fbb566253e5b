use Rattle.mbdc_bus.proofs.windows.+insist.Given as goal

abbrev pub decreases-insist : goal.decreases-insist
decreases-insist g l = l.most
