use Rattle.std.proofs.Common.{sym, ◌∙◌}
use Rattle.mbdc_raw.proofs.Begins.{noise_bad}
use Rattle.mbdc_raw.proofs.polling.begins.Goals as goal

pub returns-in-Bad-clause-noise : goal.returns-in-Bad-clause-noise
returns-in-Bad-clause-noise c is = noise_bad c.args.awaits_ack c.args.text.now (sym c.need.ensures ∙ c.in-Bad.is)
