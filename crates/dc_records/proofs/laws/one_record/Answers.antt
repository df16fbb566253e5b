use Rattle.dc_records.proofs.Spellings.Telegrams.{one_record}
use Rattle.dc_records.proofs.laws.one_record.Goals as goal

pub returns : goal.returns
returns c text more e d short_one long_one = one_record text more e d short_one long_one
