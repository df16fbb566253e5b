-- The values of a window that count, as the code has them (this product).
use Rattle.std.specs.Prelude.{◌≡◌, ◌^◌, ℕ, ◌==◌, ◌&&◌, ◌||◌, Bool, true, false, not, if◌then◌else◌, List, [], ◌∷◌}
use Rattle.std.specs.Prelude.{filter, drop, zip, nat_lt, Option, None, Some}
use Rattle.std.specs.List.{list_any}
use Rattle.mbdc_audit.specs.Amount.{amount, grade, is_exchange, is_guess, is_put, is_until, no_text, told}
use Rattle.mbdc_audit.specs.Grade.{has_number}
use Rattle.mbdc_audit.specs.House.{Run, Source, Value, anew, put}
use Rattle.mbdc_audit.specs.View.{amount_or_0, known_in, seen_value, source_of}
use Rattle.mbdc_audit.specs.Walk.{is_found}
use Rattle.mbdc_audit.specs.declared.curve.Amount as amount_type
use Rattle.mbdc_audit.specs.declared.house.Typed.{Typed}
use Rattle.mbdc_audit.specs.declared.house.Value as value_type

-- a telegram that came at an earlier moment too is an estimate
abbrev pub known_source : value_type.Value → Source
known_source v = if v.is_again then put true no_text else source_of v

-- a value that has evidence, as definitions have it
abbrev pub know : value_type.Value → Value
know v = record { run = v.run; moment = v.moment; amount = amount_or_0 v.found; source = known_source v }

-- it has evidence and, where that is asked for, wasn't put
abbrev pub does_count : Bool → value_type.Value → Bool
does_count told v = is_found v.found && not (told && is_put (known_source v))

abbrev pub are_one : value_type.Value → value_type.Value → Bool
are_one a b = (a.run == b.run) && (a.moment == b.moment)

-- of several values of one run at one moment the last
abbrev pub lasting : List value_type.Value → List value_type.Value
lasting [] = []
lasting (a ∷ []) = a ∷ []
lasting (a ∷ b ∷ rest) = if are_one a b then lasting (b ∷ rest) else a ∷ lasting (b ∷ rest)

abbrev pub kept : Bool → List value_type.Value → List value_type.Value
kept told values = lasting (filter (does_count told) values)

-- it rests on a guess, or on what was put
abbrev pub is_so : Bool → Source → Bool
is_so guess source = if guess then is_guess source else is_put source

-- at an exchange in a period, and so
abbrev pub is_so_between : ℕ → ℕ → Bool → value_type.Value → Bool
is_so_between from to guess v = is_exchange from to (know v) && is_so guess (known_source v)

-- the last value, unless the next one is of its run and moment
abbrev pub unless_one : Option value_type.Value → value_type.Value → List value_type.Value
unless_one None next = []
unless_one (Some last) next = if are_one last next then [] else last ∷ []

abbrev pub maybe_seen : Option value_type.Value → List Value
maybe_seen None = []
maybe_seen (Some v) = seen_value v ∷ []

abbrev pub is_estimate : Option Typed → Bool
is_estimate None = false
is_estimate (Some t) = t.is_guess

-- one of the values lies after the one before it
abbrev pub goes_on : List Value → Bool
goes_on values = list_any (λ p. nat_lt p.0.moment p.1.moment) (zip values (drop 1 values))

abbrev pub is_anew : Source → Bool
is_anew anew = true
is_anew _ = false

-- from a moment on, one of the values lies after the one before it
abbrev pub rises_from : ℕ → Option ℕ → List value_type.Value → Bool
rises_from t before [] = false
rises_from t before (v ∷ values) = if nat_lt v.moment t then rises_from t before values
    else (is_until v.moment before || rises_from t (Some v.moment) values)

-- ---- a place's number by the values of one window

-- the values that are known, or those of them that telegrams show
abbrev pub known_by : Bool → List value_type.Value → List Value
known_by is_told values = if is_told then told (known_in values) else known_in values

-- an amount in 64 bits; one that doesn't fit has more digits than amounts have
abbrev pub capped : Option ℕ → Option ℕ
capped None = None
capped (Some n) = if nat_lt n (2 ^ 64) then Some n else Some (10 ^ 18)

-- the first mark that applies and, where it has a number, the amount
pub record IsMarked (runs : List Run) (values : List Value) (from to : ℕ) (a : amount_type.Amount) : Type 0 where
  pub grade_is : a.grade ≡ grade runs values from to
  pub amount_is : a.amount ≡ (if has_number (grade runs values from to) then amount runs values from to else None)
