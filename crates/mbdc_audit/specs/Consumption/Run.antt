-- Entries of one meter, and what the last entry of a moment is (this product's rule).
use Rattle.std.specs.Prelude.{◌≡◌, ℕ, false, List, ◌∷◌, All}
use Rattle.std.specs.List.Sorted.{IsNonDecreasingBy}
use Rattle.mbdc_audit.specs.declared.consumption.entry.Entry.{Entry}
use Rattle.mbdc_audit.specs.Consumption.Step.{is_turn, total, with_next}
use Rattle.mbdc_audit.specs.Consumption.Curve.{passed}

-- the entries are of that meter, which didn't run backwards and had no turn
pub record IsRun (meter : ℕ) (entries : List Entry) : Type 0 where
  pub one_meter : All (λ e. e.meter ≡ meter) entries
  pub forward : IsNonDecreasingBy (λ e. e.value) entries

-- the meter didn't turn over from any entry to the next
abbrev pub HasNoTurn : List Entry → Type 0
HasNoTurn entries = All (λ p. is_turn p.0 p.1 ≡ false) (with_next entries)

-- the entry with another value
abbrev pub valued : ℕ → Entry → Entry
valued number e = record {
  moment = e.moment;
  meter = e.meter;
  value = number;
  most = e.most;
  size = e.size;
}

-- The entries after it that have its moment add nothing: none has, or the meter is exchanged, or
-- they repeat it.
abbrev pub IsSettled : Entry → List Entry → Type 0
IsSettled e later = total (e ∷ passed e.moment later) ≡ 0
