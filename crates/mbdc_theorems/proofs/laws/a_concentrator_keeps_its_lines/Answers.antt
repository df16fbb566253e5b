use Rattle.mbdc_theorems.proofs.Rounds.{lines_are_kept}
use Rattle.mbdc_theorems.proofs.laws.a_concentrator_keeps_its_lines.Goals as goal

pub returns : goal.returns
returns c = lines_are_kept
