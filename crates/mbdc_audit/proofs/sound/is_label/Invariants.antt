use Rattle.std.proofs.Common.{◌≡◌, ◌<◌, ◌≤◌, ℕ, Some}
use Rattle.std.proofs.Common.{◌+◌}
use Rattle.dc_units.specs.Date.{Day, date_of}
use Rattle.mbdc_audit.specs.Moment.{number_of}
use Rattle.mbdc_audit.proofs.sound.is_label.Given as goal

abbrev pub invariant-days : goal.invariant-days
invariant-days l = (k : ℕ) → 1 ≤ k → k < l.number → (d : Day) → date_of l.first.year l.first.month k ≡ Some d → number_of d ≡ l.day + 1 → ⊥
