use Rattle.dc_records.proofs.FirstByte.{first_fault}
use Rattle.dc_records.proofs.laws.first_fault.Goals as goal

pub returns : goal.returns
returns c text f fails = first_fault text f fails
