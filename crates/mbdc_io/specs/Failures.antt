-- Counted failures, of a disk, a reader or a writer.
use Rattle.std.specs.Prelude.{ℕ, ◌+◌, ◌-◌, ◌^◌, ◌≤◌, min}
use Rattle.std.proofs.Common.{arith}

-- At least one failure was counted. A count that is full (2 ^ 64 - 1) stays, and passes as risen.
abbrev pub HasRisen : ℕ → ℕ → Type 0
HasRisen before now = min (before + 1) (2 ^ 64 - 1) ≤ now

-- what has risen stays risen while the count doesn't fall
pub has_risen-then : (before between now : ℕ) → HasRisen before between → between ≤ now
    → HasRisen before now
has_risen-then before between now risen kept = omega arith

-- what rises later has risen since before
pub has_risen-after : (before between now : ℕ) → before ≤ between → HasRisen between now
    → HasRisen before now
has_risen-after before between now kept risen = omega arith
