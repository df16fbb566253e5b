-- The events that a teller took (this product).
use Rattle.std.specs.Prelude.{◌≡◌, List, [], ◌∷◌, OnOk, OnErr, Result}
use Rattle.mbdc_io.specs.Failures.{HasRisen}
use Rattle.mbdc_poll.specs.declared.event.Event.{Event as Told}
use Rattle.mbdc_poll.specs.declared.teller.Teller.{Ghosts}

-- IT TOOK THESE EVENTS, one after the other, and nothing else was done to it.
abbrev pub TakesAll : {N : Type 0} → (N → Told → N → Type 0) → N → N → List Told → Type 0
TakesAll {N} takes old new [] = new ≡ old
TakesAll {N} takes old new (told ∷ more) = (next : N) × takes old told next
    × TakesAll takes next new more

-- without a failure the count stays, and a failure is counted
abbrev pub CountsFailures : {N X E : Type 0} → Ghosts N → Result X E → N → N → Type 0
CountsFailures g result old new =
    OnOk result (g.failures new ≡ g.failures old)
    × OnErr result (HasRisen (g.failures old) (g.failures new))

-- Where the result is Ok, it took these events, and none failed. Where it isn't, one failed.
abbrev pub HasTold : {N X E : Type 0} → Ghosts N → Result X E → N → N → List Told → Type 0
HasTold g result old new events =
    OnOk result (TakesAll g.takes old new events)
    × OnOk result (g.failures new ≡ g.failures old)
    × OnErr result (HasRisen (g.failures old) (g.failures new))
