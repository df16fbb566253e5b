use Rattle.mbdc_theorems.proofs.Outcomes.{lossy_lines_are_buses}
use Rattle.mbdc_theorems.proofs.house.laws.a_lossy_line_is_a_bus_line.Goals as goal

pub returns : goal.returns
returns c meters positions waits outcome frame bytes heard = lossy_lines_are_buses meters positions waits outcome frame bytes heard
