-- What a place consumes in a period, and in many (this product's rule).
use Rattle.std.specs.Prelude.{ℕ, ◌+◌, ◌-◌, ◌^◌, ◌≤◌, if◌then◌else◌, nat_lt, List, [], ◌∷◌, map}
use Rattle.std.specs.Prelude.{Option, None, Some, Result, Ok, Err}
use Rattle.mbdc_audit.specs.declared.consumption.entry.Entry.{Entry}
use Rattle.mbdc_audit.specs.declared.consumption.fault.AmountFault.{AmountFault}
use Rattle.mbdc_audit.specs.declared.consumption.fault.AmountFault.TheVariants.{TooLarge}
use Rattle.mbdc_audit.specs.Consumption.Step.{with_next}
use Rattle.mbdc_audit.specs.Consumption.Curve.{curve}

-- the difference of two amounts, if both are known
abbrev pub between : Option ℕ → Option ℕ → Option ℕ
between None after = None
between (Some before) None = None
between (Some before) (Some after) = Some (after - before)

-- what is consumed from a moment to another
abbrev pub consumption : List Entry → ℕ → ℕ → Option ℕ
consumption entries from to = between (curve entries from) (curve entries to)

-- what is consumed from each boundary to the next
abbrev pub consumptions : List Entry → List ℕ → List (Option ℕ)
consumptions entries boundaries = map (λ p. consumption entries p.0 p.1) (with_next boundaries)

-- an amount in 64 bits; a greater one is a fault
abbrev pub checked : Option ℕ → Result (Option ℕ) AmountFault
checked None = Ok None
checked (Some amount) = if nat_lt amount (2 ^ 64) then Ok (Some amount) else Err TooLarge

-- the sum of two amounts, if both are known
abbrev pub added : Option ℕ → Option ℕ → Option ℕ
added None y = None
added (Some x) None = None
added (Some x) (Some y) = Some (x + y)

-- the sum of amounts, if all are known
abbrev pub sum_of : List (Option ℕ) → Option ℕ
sum_of [] = Some 0
sum_of (x ∷ xs) = added x (sum_of xs)

-- if both are known, the second is no smaller
abbrev pub Rises : Option ℕ → Option ℕ → Type 0
Rises None after = Unit {0}
Rises (Some before) None = Unit {0}
Rises (Some before) (Some after) = before ≤ after

-- both are unknown, or they differ by no more
abbrev pub DifferByAtMost : ℕ → Option ℕ → Option ℕ → Type 0
DifferByAtMost most None None = Unit {0}
DifferByAtMost most None (Some y) = ⊥
DifferByAtMost most (Some x) None = ⊥
DifferByAtMost most (Some x) (Some y) = (x ≤ y + most) × (y ≤ x + most)

-- what several places together consumed up to a moment, if all are known
abbrev pub house_curve : List (List Entry) → ℕ → Option ℕ
house_curve places moment = sum_of (map (λ entries. curve entries moment) places)

-- what several places together consumed from a moment to another, if all are known
abbrev pub house_consumption : List (List Entry) → ℕ → ℕ → Option ℕ
house_consumption places from to =
    sum_of (map (λ entries. consumption entries from to) places)

-- the same from each boundary to the next
abbrev pub house_consumptions : List (List Entry) → List ℕ → List (Option ℕ)
house_consumptions places boundaries =
    map (λ p. house_consumption places p.0 p.1) (with_next boundaries)
