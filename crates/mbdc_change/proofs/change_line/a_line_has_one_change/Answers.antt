use Rattle.mbdc_change.proofs.TelegramLines.{one_change}
use Rattle.mbdc_change.proofs.change_line.a_line_has_one_change.Goals as goal

pub returns : goal.returns
returns c = one_change c.one_telegram.ensures.one
