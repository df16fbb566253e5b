use Rattle.std.proofs.Common.{refl, rules}
use Rattle.mbdc_installer.specs.Other.{Looks}
use Rattle.mbdc_installer.proofs.other.look.Goals as goal

pub returns-in_default : goal.returns-in_default
returns-in_default g c = Looks.is_kept c.ask_data-first.result (search rules) c.ask_data-first.ensures refl

pub returns-then-is_from : goal.returns-then-is_from
returns-then-is_from g c =
    Looks.comes_twice c.in-Some.format c.ask_data-first.result c.ask_data-again.result (search rules) (search rules) c.ask_data-first.ensures c.ask_data-again.ensures refl

pub returns-else-is_from : goal.returns-else-is_from
returns-else-is_from g c =
    Looks.differs c.in-Some.format c.ask_data-first.result c.ask_data-again.result (search rules) (search rules) c.ask_data-first.ensures c.ask_data-again.ensures (search rules)
