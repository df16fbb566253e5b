use Rattle.std.proofs.Common.{arith, ap, sym, Some}
use Rattle.mbdc_change.proofs.LineSpellings.{s_is_secondary}
use Rattle.mbdc_change.proofs.command.parse_address.Goals as goal

pub returns-in-S-clause-only : goal.returns-in-S-clause-only
returns-in-S-clause-only c = λ address is spelled. sym (ap Some (s_is_secondary address c.args.word.now (omega arith) is spelled))
