use Rattle.std.proofs.Common.{arith}
use Rattle.std.proofs.lemmas.Grind.{common_steps}
use Rattle.mbdc_json.specs.Row.{row_at, heard_by, status_by, code_of}
use Rattle.mbdc_json.proofs.status.row.row_at.Goals as goal

pub returns-clause-row : goal.returns-clause-row
unfolding row_at heard_by status_by code_of
returns-clause-row g c = grind (arith, common_steps)
