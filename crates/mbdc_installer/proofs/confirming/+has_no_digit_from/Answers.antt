use Rattle.std.proofs.Common.{rules, refl}
use Rattle.mbdc_installer.specs.Confirming.{AsksDigit, AsksDigits}
use Rattle.mbdc_installer.proofs.confirming.+has_no_digit_from.Goals as goal

pub returns-then-digit-eq10 : goal.returns-then-digit-eq10
returns-then-digit-eq10 g t c = AsksDigits.are_over (search rules) refl refl

pub returns-then-not-can_hide : goal.returns-then-not-can_hide
returns-then-not-can_hide g t c = AsksDigits.go_on (AsksDigit.is_harmless (search rules) refl refl) refl c.has_no_digit_from.ensures

pub returns-then-is_empty : goal.returns-then-is_empty
returns-then-is_empty g t c =
    AsksDigits.go_on (AsksDigit.is_selected c.ask_all.result (search rules) (search rules) (search rules)) refl c.has_no_digit_from-then-is_empty.ensures

pub returns-else-is_empty : goal.returns-else-is_empty
returns-else-is_empty g t c =
    AsksDigits.have_somebody (AsksDigit.is_selected c.ask_all.result (search rules) (search rules) (search rules)) (search rules)
