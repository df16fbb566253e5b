-- The clock of a poll and the time stamps of the register (this product).
use Rattle.std.specs.Prelude.{◌≡◌, ◌||◌, ℕ, Bool, true, false, List, nat_lt}
use Rattle.std.specs.List.{list_any}
use Rattle.mbdc_change.specs.State.{State, PartRow}

-- whether one of these telegrams has a later time stamp
abbrev pub has_later : ℕ → List PartRow → Bool
has_later moment parts = list_any (λ part. nat_lt moment part.moment) parts

-- Whether a moment lies before the newest time stamp of the register: a telegram of a reading, or of a readout that
-- isn't finished, has a later one.
abbrev pub is_behind : ℕ → State → Bool
is_behind moment state = list_any (λ row. has_later moment row.parts) state.readings
    || list_any (λ row. has_later moment row.1.parts) state.meters

-- the timer is warned, or left as it is
abbrev pub WarnsWhere : {T : Type 0} → Bool → (T → T → Type 0) → T → T → Type 0
WarnsWhere true warned old new = warned old new
WarnsWhere false warned old new = new ≡ old

-- THE CLOCK IS COMPARED: the timer gives a moment, and is warned where this lies before the newest time stamp.
pub record ComparesClock {T : Type 0} (told : T → ℕ → T → Type 0) (warned : T → T → Type 0)
    (state : State) (first last : T) : Type 0 where
  pub moment : ℕ
  pub between : T
  pub reads_time : told first moment between
  pub warns : WarnsWhere (is_behind moment state) warned between last
