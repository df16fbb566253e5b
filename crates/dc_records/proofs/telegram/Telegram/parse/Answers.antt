use Rattle.dc_records.proofs.Spellings.Telegrams.{is_found, is_only, is_refused, is_fault}
use Rattle.dc_records.proofs.telegram.Telegram.parse.Goals as goal

pub returns-clause-found : goal.returns-clause-found
returns-clause-found c = is_found _ _ c.parse_exact.ensures

pub returns-clause-only : goal.returns-clause-only
returns-clause-only c = is_only _ _ c.parse_exact.ensures

pub returns-clause-refused : goal.returns-clause-refused
returns-clause-refused c = is_refused _ _ c.parse_exact.ensures

pub returns-clause-fault : goal.returns-clause-fault
returns-clause-fault c = is_fault _ _ c.parse_exact.ensures
