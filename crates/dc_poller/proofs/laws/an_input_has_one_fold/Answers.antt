use Rattle.dc_poller.proofs.Readings.{one_read, one_text}
use Rattle.dc_poller.proofs.laws.an_input_has_one_fold.Goals as goal

pub returns-clause-line : goal.returns-clause-line
returns-clause-line c = one_read c.a_line_has_one_change.ensures

pub returns-clause-text : goal.returns-clause-text
returns-clause-text c = one_text c.a_line_has_one_change.ensures
