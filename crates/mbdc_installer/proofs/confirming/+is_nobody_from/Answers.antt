use Rattle.std.proofs.Common.{rules, refl}
use Rattle.mbdc_installer.specs.Confirming.{AsksPlace, AsksPlaces}
use Rattle.mbdc_installer.proofs.confirming.+is_nobody_from.Goals as goal

pub returns-then-place-eq-DIGITS : goal.returns-then-place-eq-DIGITS
returns-then-place-eq-DIGITS g t c = AsksPlaces.are_over (search rules) refl refl

pub returns-then-not-is_open : goal.returns-then-not-is_open
returns-then-not-is_open g t c = AsksPlaces.go_on (AsksPlace.is_fixed (search rules) refl refl) refl c.is_nobody_from.ensures

pub returns-then-has_no_digit_from : goal.returns-then-has_no_digit_from
returns-then-has_no_digit_from g t c =
    AsksPlaces.go_on {is_free = c.has_no_digit_from.result} (AsksPlace.is_asked (search rules) (search rules)) (search rules) c.is_nobody_from-then-has_no_digit_from.ensures

pub returns-else-has_no_digit_from : goal.returns-else-has_no_digit_from
returns-else-has_no_digit_from g t c = AsksPlaces.have_somebody (AsksPlace.is_asked (search rules) (search rules)) (search rules)
