-- The curve of a place: all that it consumed up to a moment (this product's rule).
use Rattle.std.specs.Prelude.{ℕ, ◌+◌, ◌-◌, ◌*◌, ◌/◌, ◌==◌, if◌then◌else◌, nat_lt, nat_le, List}
use Rattle.std.specs.Prelude.{filter, Option, None, Some}
use Rattle.std.specs.List.{last_or, slice_get}
use Rattle.mbdc_audit.specs.declared.consumption.entry.Entry.{Entry}
use Rattle.mbdc_audit.specs.Consumption.Step.{step, total}

-- the entries at a moment or before it
abbrev pub passed : ℕ → List Entry → List Entry
passed moment entries = filter (λ e. nat_le e.moment moment) entries

-- the entries after a moment
abbrev pub ahead : ℕ → List Entry → List Entry
ahead moment entries = filter (λ e. nat_lt moment e.moment) entries

-- the part of the step from a to b that falls before a moment between them, rounded down
abbrev pub share : Entry → Entry → ℕ → ℕ
share a b moment = step a b * (moment - a.moment) / (b.moment - a.moment)

-- the amount at a moment, from the sum of the steps up to the last entry that is passed, that entry
-- and the next
abbrev pub amount_at : ℕ → ℕ → Option Entry → Option Entry → Option ℕ
amount_at moment sum None next = None
amount_at moment sum (Some last) None = if last.moment == moment then Some sum else None
amount_at moment sum (Some last) (Some next) = Some (sum + share last next moment)

-- None before the first entry and after the last one
unfoldable pub curve : List Entry → ℕ → Option ℕ
curve entries moment =
    amount_at moment (total (passed moment entries))
    (last_or None (passed moment entries)) (slice_get (ahead moment entries) 0)
