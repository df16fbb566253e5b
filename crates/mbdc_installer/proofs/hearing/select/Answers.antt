use Rattle.std.proofs.Common.{refl, rules}
use Rattle.mbdc_installer.specs.Hearing.{Selects}
use Rattle.mbdc_installer.specs.declared.other.Looked.TheVariants.{Closed, Kept}
use Rattle.mbdc_installer.proofs.hearing.select.Goals as goal
use Rattle.mbdc_installer.proofs.hearing.select.Goals.{else-is_empty, then-is_empty}

pub returns-after-is_empty : goal.returns-after-is_empty
returns-after-is_empty g c = elim c.if-is_empty.branch [
  | then-is_empty w ↦
      Selects.looks c.ask_all-answer.result (Kept c.in-Kept.telegram) (search rules) c.ask_all-answer.ensures.asked (search rules) c.in-Kept.ensures refl (search rules)
  | else-is_empty w ↦
      Selects.looks c.ask_all-answer.result (Kept c.in-Kept.telegram) (search rules) c.ask_all-answer.ensures.asked (search rules) c.in-Kept.ensures refl (search rules)
]

pub returns-in-Closed : goal.returns-in-Closed
returns-in-Closed g c =
    Selects.looks c.ask_all-answer.result (Closed c.in-Closed.format) (search rules) c.ask_all-answer.ensures.asked (search rules) c.in-Closed.ensures c.new-in-Closed.ensures (search rules)
