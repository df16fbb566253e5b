-- What is consumed from an entry to the next (this product's rule).
use Rattle.std.specs.Prelude.{ℕ, ◌+◌, ◌-◌, ◌*◌, ◌/◌, ◌==◌, ◌&&◌, ◌||◌, Bool, if◌then◌else◌, not}
use Rattle.std.specs.Prelude.{nat_lt, nat_le, List, drop, sum_by}
use Rattle.std.specs.List.{zip}
use Rattle.mbdc_audit.specs.declared.consumption.entry.Entry.{Entry}

-- most that the meter can have counted between the entries: in the whole hours, and in two more
abbrev pub room : Entry → Entry → ℕ
room a b = a.most * ((b.moment - a.moment) / 3600 + 2)

-- up to the meter's size, and from 0 on to the second value
abbrev pub around : Entry → Entry → ℕ
around a b = a.size - a.value + b.value

-- The meter turned over (rollover): it shows less, below its size, and it can have counted up to
-- its size and on.
abbrev pub is_turn : Entry → Entry → Bool
is_turn a b = a.meter == b.meter && (nat_lt b.value a.value && (nat_lt a.value a.size
    && nat_le (around a b) (room a b)))

-- 0 at an exchange; around where the meter turned over; else the difference of the values, which is
-- 0 where it ran backwards
abbrev pub step : Entry → Entry → ℕ
step a b = if a.meter == b.meter then (if is_turn a b then around a b else b.value - a.value) else 0

-- the meter ran backwards: it shows less, and didn't turn over
abbrev pub is_backwards : Entry → Entry → Bool
is_backwards a b = a.meter == b.meter && (nat_lt b.value a.value && not (is_turn a b))

-- the meter rose by more than it can have counted, where that is declared
abbrev pub is_too_much : Entry → Entry → Bool
is_too_much a b = a.meter == b.meter && (nat_lt 0 a.most && nat_lt (room a b) (b.value - a.value))

-- one of the two values is in doubt
abbrev pub is_doubtful : Entry → Entry → Bool
is_doubtful a b = is_backwards a b || is_too_much a b

-- the entries are of different meters
abbrev pub is_exchange : Entry → Entry → Bool
is_exchange a b = not (a.meter == b.meter)

-- each but the last, with the one after it
abbrev pub with_next : {X : Type 0} → List X → List (X × X)
with_next xs = zip xs (drop 1 xs)

-- the sum of a number of each two entries that follow one another
unfoldable pub total_by : (Entry → Entry → ℕ) → List Entry → ℕ
total_by number entries = sum_by (λ p. number p.0 p.1) (with_next entries)

-- the sum of the steps from each entry to the next
abbrev pub total : List Entry → ℕ
total entries = total_by step entries
