use Rattle.std.proofs.Common.{◌∙◌}
use Rattle.dc_records.proofs.Spellings.Headers.{is_found, is_refused, header_again, header_faults_again}
use Rattle.dc_records.proofs.header.Header.read.Goals as goal

pub returns-clause-found : goal.returns-clause-found
returns-clause-found c = is_found _ _ c.read_exact.ensures

pub returns-clause-only : goal.returns-clause-only
returns-clause-only c h is = c.read_exact.ensures ∙ header_again _ h is

pub returns-clause-refused : goal.returns-clause-refused
returns-clause-refused c = is_refused _ _ c.read_exact.ensures

pub returns-clause-fault : goal.returns-clause-fault
returns-clause-fault c f is = c.read_exact.ensures ∙ header_faults_again _ f is
