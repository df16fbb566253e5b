use Rattle.mbdc_sheet.proofs.parts.+part_at.Given as goal

abbrev pub decreases-part_at : goal.decreases-part_at
decreases-part_at l = l.at
