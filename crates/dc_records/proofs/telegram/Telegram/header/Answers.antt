use Rattle.dc_records.specs.Telegram.{parsed}
use Rattle.dc_records.proofs.Spellings.Telegrams.{parsed_header}
use Rattle.dc_records.proofs.telegram.Telegram.header.Goals as goal

pub returns-clause-agrees : goal.returns-clause-agrees
unfolding parsed
returns-clause-agrees c = parsed_header c.args.self.now
