use Rattle.std.proofs.Common.{Some, ap}
use Rattle.mbdc_change.proofs.TelegramLines.{only_command, only_telegram}
use Rattle.mbdc_change.proofs.change.Change.parse_line.Goals as goal

pub returns-in-Some-clause-only : goal.returns-in-Some-clause-only
returns-in-Some-clause-only c =
    let is = c.in-Some.ensures.found in
    λ change told. ap Some (only_command c.args.line.now c.in-Some.found.number c.in-Some.found.command is.0 is.1 is.2 is.3 change told)

pub returns-in-None-clause-only : goal.returns-in-None-clause-only
returns-in-None-clause-only c = only_telegram c.args.line.now c.parse_telegram.result
    (λ number command is_number is_command names told. let none = c.in-None.ensures.only number command is_number is_command names told in cc)
    c.parse_telegram.ensures.only
