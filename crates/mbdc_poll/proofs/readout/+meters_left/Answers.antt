use Rattle.std.proofs.Common.{◌≡◌, List, [], ◌∷◌, length, refl, arith}
use Rattle.std.proofs.lemmas.Grind.{common_steps}
use Rattle.std.specs.Prelude.{min}
use Rattle.mbdc_poll.specs.Round.{meters_left}
use Rattle.mbdc_poll.specs.declared.station.Station.{Station}
use Rattle.mbdc_poll.proofs.readout.+meters_left.Goals as goal

pub returns-in-None : goal.returns-in-None
returns-in-None g t c = none c.args.stations.now c.in-None.ensures.cases
  where
    none : {B : Type 0} (xs : List (Station B)) → length xs ≡ 0 → 0 ≡ min 18446744073709551615 (meters_left xs)
    none [] is = refl
    none (x ∷ xs) is = absurd (omega (arith, is))

pub returns-in-Some : goal.returns-in-Some
returns-in-Some g t c = grind (arith, common_steps)
