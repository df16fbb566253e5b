-- The events of the failed readouts of a line (this product).
use Rattle.std.specs.Prelude.{ℕ, List, ◌∷◌, ◌++◌}
use Rattle.dc_address.specs.declared.identity.Identity.{Identity}
use Rattle.dc_readout.specs.declared.why.Why.{Why}
use Rattle.mbdc_poll.specs.Bus.{Bus}
use Rattle.mbdc_poll.specs.Happening.{Happening, tells}
use Rattle.mbdc_poll.specs.Missed.{TellsReadout}
use Rattle.mbdc_poll.specs.Round.{IsFresh, LineGoes}
use Rattle.mbdc_poll.specs.declared.brought.Brought.{Brought}
use Rattle.mbdc_poll.specs.declared.event.Event.TheVariants.{Failed as has_failed}
use Rattle.mbdc_poll.specs.declared.station.Station.{Station}

-- Where a line goes on from its first meter, the event of a failed readout says what its tries brought.
abbrev pub BroughtIsTold : {B : Type 0} → Bus B → Type 0
BroughtIsTold {B} g = (tries line at : ℕ) (old new : Station B) (front back : List Happening)
    (meter : Identity) (why : Why) (brought : Brought) → IsFresh old
    → LineGoes g tries line old new (front ++ tells line (has_failed at meter why brought) ∷ back)
    → TellsReadout line meter front at brought
