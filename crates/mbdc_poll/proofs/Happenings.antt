-- What happens in a poll, one thing after the other.
use Rattle.std.proofs.Common.{◌≡◌, ℕ, ◌+◌, List, [], ◌∷◌, ◌++◌, arith}
use Rattle.std.proofs.lemmas.List.Concat.{flat_map-append}
use Rattle.mbdc_poll.specs.Happening.{Happening, turns_of, happened_turns, kept_on, happened_on, events_of, happened_events, reads_in, failures_in}

pub turns_append : (first more : List Happening) → happened_turns (first ++ more) ≡ happened_turns first ++ happened_turns more
turns_append first more = flat_map-append turns_of first more

pub on_append : (line : ℕ) (first more : List Happening) → happened_on line (first ++ more) ≡ happened_on line first ++ happened_on line more
on_append line first more = flat_map-append (kept_on line) first more

pub events_append : (first more : List Happening) → happened_events (first ++ more) ≡ happened_events first ++ happened_events more
events_append first more = flat_map-append events_of first more

pub reads_append : (first more : List Happening) → reads_in (first ++ more) ≡ reads_in first + reads_in more
reads_append [] more = omega arith
reads_append (h ∷ first) more = let rest = reads_append first more in omega (arith, rest)

pub failures_append : (first more : List Happening) → failures_in (first ++ more) ≡ failures_in first + failures_in more
failures_append [] more = omega arith
failures_append (h ∷ first) more = let rest = failures_append first more in omega (arith, rest)
