use Rattle.mbdc_installer.proofs.primary.+scan_primary.Given as goal

abbrev pub decreases-scan_primary : goal.decreases-scan_primary
decreases-scan_primary g l = l.count
