-- Output that a poll goes on without (this product).
use Rattle.std.specs.Prelude.{◌≡◌, ◌⊎◌, true, false}
use Rattle.mbdc_io.specs.Failures.{HasRisen}
use Rattle.mbdc_poll.specs.declared.event.Event.{Event}
use Rattle.mbdc_poll.specs.declared.teller.Teller.{Ghosts}
use Rattle.mbdc_poll.specs.declared.events.unfailing.Unfailing.{Unfailing}

-- the teller took the event
pub record IsHandedOn {N : Type 0} (g : Ghosts N) (old : Unfailing N) (event : Event)
    (new : Unfailing N) : Type 0 where
  pub was_well : old.has_failed ≡ false
  pub is_well : new.has_failed ≡ false
  pub takes : g.takes old.teller event new.teller
  pub well : g.failures new.teller ≡ g.failures old.teller

-- the teller failed
pub record IsFirstFailure {N : Type 0} (g : Ghosts N) (old : Unfailing N) (event : Event)
    (new : Unfailing N) : Type 0 where
  pub was_well : old.has_failed ≡ false
  pub failed : new.has_failed ≡ true
  pub risen : HasRisen (g.failures old.teller) (g.failures new.teller)
  pub breaks : g.breaks old.teller event new.teller

-- the teller has failed before, and isn't touched
pub record IsDropped {N : Type 0} (old new : Unfailing N) : Type 0 where
  pub had_failed : old.has_failed ≡ true
  pub same : new ≡ old

-- AN EVENT IS TAKEN WHATEVER THE TELLER DOES: it gets each event up to its first failure, and none after it.
abbrev pub GoesOn : {N : Type 0} → Ghosts N → Unfailing N → Event → Unfailing N → Type 0
GoesOn g old event new =
    IsHandedOn g old event new ⊎ IsFirstFailure g old event new ⊎ IsDropped old new
