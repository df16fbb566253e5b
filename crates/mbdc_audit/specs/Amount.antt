-- The amount that a place consumed in a period, by the values of one window, and its mark (this product).
use Rattle.std.specs.Prelude.{ℕ, ◌+◌, ◌-◌, ◌^◌, ◌==◌, ◌&&◌, ◌||◌, Bool, true, false, not, nat_lt, nat_le, if◌then◌else◌}
use Rattle.std.specs.Prelude.{List, [], ◌∷◌, ◌++◌, length, filter, map, take, drop, Option, None, Some, is_some}
use Rattle.std.specs.List.{list_any, list_all}
use Rattle.std.specs.Prelude.{zip}
use Rattle.std.specs.Str.{bytes_eq}
use Rattle.mbdc_audit.specs.declared.consumption.entry.Entry.{Entry}
use Rattle.mbdc_audit.specs.Consumption.Mark.{exchanges_in, marked_in}
use Rattle.mbdc_audit.specs.Consumption.Period.{consumption}
use Rattle.mbdc_audit.specs.House.{Run, Value, Spelled, Source, current, ended, anew, put, first, last}
use Rattle.mbdc_audit.specs.declared.grade.Grade.{Grade}
use Rattle.mbdc_audit.specs.declared.grade.Grade.TheVariants.{Measured, Hand, Provisional, Estimated, Unclear, Disturbed, Missing}

-- ---- the values

-- what a run declares, by its order; 0 where there is none
abbrev pub of_run : (Run → ℕ) → List Run → ℕ → ℕ
of_run declared [] n = 0
of_run declared (run ∷ runs) n = if n == 0 then declared run else of_run declared runs (n - 1)

-- of several values of one run at one moment the last counts
abbrev pub counting : List Value → List Value
counting [] = []
counting (a ∷ []) = a ∷ []
counting (a ∷ b ∷ rest) = if (a.run == b.run) && (a.moment == b.moment)
    then counting (b ∷ rest) else a ∷ counting (b ∷ rest)

abbrev pub entry_of : List Run → Value → Entry
entry_of runs v = record {
  moment = v.moment;
  meter = v.run;
  value = v.amount;
  most = of_run (λ r. r.most) runs v.run;
  size = of_run (λ r. r.size) runs v.run;
}

abbrev pub entries : List Run → List Value → List Entry
entries runs values = map (entry_of runs) (counting values)

-- THE AMOUNT
abbrev pub amount : List Run → List Value → ℕ → ℕ → Option ℕ
amount runs values from to = consumption (entries runs values) from to

-- ---- repeats

-- the bodies of a current value
abbrev pub read_of : Source → List ℕ
read_of (current bodies) = bodies
read_of _ = []

abbrev pub is_again : Value → Value → Bool
is_again v u = (u.run == v.run) && (nat_lt u.moment v.moment
    && (nat_lt 0 (length (read_of v.source)) && bytes_eq (read_of u.source) (read_of v.source)))

abbrev pub no_text : Spelled
no_text = record { digits = 0; decimals = 0; unit = [] }

-- the values, where a telegram that came at an earlier moment too is an estimate
abbrev pub known : List Value → List Value
known values = map (λ v. if list_any (is_again v) values then record v { source = put true no_text } else v) values

-- ---- what decides

abbrev pub passed : ℕ → List Value → List Value
passed moment values = filter (λ v. nat_le v.moment moment) values

abbrev pub ahead : ℕ → List Value → List Value
ahead moment values = filter (λ v. nat_lt moment v.moment) values

abbrev pub lies_at : ℕ → Value → Bool
lies_at moment v = v.moment == moment

abbrev pub last_of : {X : Type 0} → List X → List X
last_of xs = drop (length xs - 1) xs

-- the last value at a moment or before it and, where that is before it, the next
abbrev pub deciding : ℕ → List Value → List Value
deciding moment values = last_of (passed moment (counting values))
    ++ (if list_any (lies_at moment) values then [] else take 1 (ahead moment (counting values)))

abbrev pub is_first : Source → Bool
is_first anew = true
is_first (first guess text) = true
is_first _ = false

abbrev pub is_last : Source → Bool
is_last (ended e bodies) = true
is_last (last guess text) = true
is_last _ = false

-- put by a person or an estimate, and of these an estimate
abbrev pub is_put : Source → Bool
is_put (put guess text) = true
is_put (first guess text) = true
is_put (last guess text) = true
is_put _ = false

abbrev pub is_guess : Source → Bool
is_guess (put guess text) = guess
is_guess (first guess text) = guess
is_guess (last guess text) = guess
is_guess _ = false

abbrev pub is_exchange : ℕ → ℕ → Value → Bool
is_exchange from to v = (is_first v.source || is_last v.source) && (nat_lt from v.moment && nat_le v.moment to)

-- the values that a number rests on: those that decide its ends, and those at exchanges in it
abbrev pub basis : ℕ → ℕ → List Value → List Value
basis from to values = deciding from values ++ (deciding to values ++ filter (is_exchange from to) (counting values))

abbrev pub is_near_pair : Value × Value → Bool
is_near_pair p = nat_le (p.1.moment - p.0.moment) 172800

-- a value lies at the moment, or those around it are at most 48 hours apart
abbrev pub is_near : ℕ → List Value → Bool
is_near moment values = list_all is_near_pair (zip (deciding moment values) (drop 1 (deciding moment values)))

-- ---- marks

abbrev pub is_by : ℕ → Option ℕ → Bool
is_by moment None = false
is_by moment (Some over) = nat_le over moment

abbrev pub is_until : ℕ → Option ℕ → Bool
is_until moment None = false
is_until moment (Some over) = nat_lt over moment

abbrev pub is_over_at : ℕ → Option ℕ → Bool
is_over_at moment None = false
is_over_at moment (Some over) = over == moment

-- a run, the next one, and the number of the first
abbrev pub is_due : ℕ → ℕ → Run → Run → Bool
is_due from to old new = nat_lt from new.begin && (is_until to old.over || nat_le new.begin to)

abbrev pub has : ℕ → (Source → Bool) → List Value → Bool
has run is values = list_any (λ v. (v.run == run) && is v.source) values

-- each exchange that the period touches has its last and its first value, at one moment
abbrev pub are_whole : ℕ → ℕ → List Value → ℕ → List Run → Bool
are_whole from to values n [] = true
are_whole from to values n (old ∷ []) = true
are_whole from to values n (old ∷ new ∷ runs) =
    (not (is_due from to old new)
    || (is_over_at new.begin old.over && (has n is_last values && has (n + 1) is_first values)))
    && are_whole from to values (n + 1) (new ∷ runs)

abbrev pub due : ℕ → ℕ → List Run → ℕ
due from to runs = length (filter (λ p. is_due from to p.0 p.1) (zip runs (drop 1 runs)))

abbrev pub is_below : Option ℕ → Bool
is_below None = true
is_below (Some amount) = nat_lt amount (10 ^ 18)

abbrev pub is_clear : List Run → List Value → ℕ → ℕ → Bool
is_clear runs values from to = are_whole from to (counting values) 0 runs
    && ((length (exchanges_in (entries runs values) from to) == due from to runs)
    && is_below (amount runs values from to))

-- a step after the end is there, or nothing comes after the last run
abbrev pub is_final : List Run → List Value → ℕ → Bool
is_final runs values to = list_any (λ r. is_by to r.over) (last_of runs)
    || list_any (λ p. nat_lt p.0.moment p.1.moment)
    (zip (filter (λ v. nat_le to v.moment) values) (drop 1 (filter (λ v. nat_le to v.moment) values)))

-- the first of these that applies
abbrev pub grade : List Run → List Value → ℕ → ℕ → Grade
grade runs values from to =
    if nat_lt 0 (length (marked_in (entries runs values) from to)) then Disturbed
    else if not (is_clear runs values from to) then Unclear
    else if not (is_some (amount runs values from to)) then Missing
    else if list_any (λ v. is_guess v.source) (basis from to values)
    || (not (is_near from values) || not (is_near to values)) then Estimated
    else if not (is_final runs values to) then Provisional
    else if list_any (λ v. is_put v.source) (basis from to values) then Hand
    else Measured

-- ---- the values that aren't put

-- without every put value
abbrev pub told : List Value → List Value
told values = filter (λ v. not (is_put v.source)) values

abbrev pub is_measured : Grade → Bool
is_measured Measured = true
is_measured _ = false

abbrev pub is_same : Option ℕ → Option ℕ → Bool
is_same None other = false
is_same (Some x) None = false
is_same (Some x) (Some y) = x == y

-- telegrams alone give the same number, and it's measured
abbrev pub is_told : List Run → List Value → ℕ → ℕ → Bool
is_told runs values from to = is_same (amount runs (told values) from to) (amount runs values from to)
    && is_measured (grade runs (told values) from to)

abbrev pub put_mark : List Value → Grade
put_mark values = if list_any (λ v. is_guess v.source) values then Estimated else Hand

abbrev pub unless_told : Bool → Grade → Grade → Grade
unless_told true m other = m
unless_told false Measured other = other
unless_told false m other = m

-- THE MARK of a number: measured only where telegrams alone give it
abbrev pub mark : List Run → List Value → ℕ → ℕ → Grade
mark runs values from to = unless_told (is_told runs values from to) (grade runs values from to) (put_mark values)
