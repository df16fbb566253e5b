-- The meters that a poll is done with (this product).
use Rattle.std.specs.Prelude.{ℕ, ◌+◌, ◌-◌, ◌^◌, min}
use Rattle.mbdc_poll.specs.declared.event.Event.{Event}
use Rattle.mbdc_poll.specs.declared.event.Event.TheVariants.{Read, Failed, Refused, Lost, Late, End}
use Rattle.mbdc_poll.specs.declared.events.tally.Tally.{Tally}

-- one more, up to 2^64 - 1
abbrev pub one_more : ℕ → ℕ
one_more count = min (2 ^ 64 - 1) (count + 1)

abbrev pub not_read : Tally → Tally
not_read tally = record { done = one_more tally.done; failed = one_more tally.failed }

-- a meter is done with once it was read, failed or was refused
abbrev pub tallied : Event → Tally → Tally
tallied (Read meter serial parts last) tally =
    record { done = one_more tally.done; failed = tally.failed }
tallied (Failed line meter why brought) tally = not_read tally
tallied (Refused meter refusal) tally = not_read tally
tallied (Lost line) tally = tally
tallied (Late line answers) tally = tally
tallied (End read failed) tally = tally
