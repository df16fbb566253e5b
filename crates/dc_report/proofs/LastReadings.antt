-- The last reading of each meter that has a due-date value: found by a run over the serials, and as the definition has it.
use Rattle.std.proofs.Common.{◌≡◌, ℕ, ◌<◌, ◌≤◌, Bool, true, false, cond, List, [], ◌∷◌, ◌++◌, Option, Some, None, refl, sym, ap, ◌∙◌, map, filter, arith, Bor, length, drop, get_or, ◌+◌}
use Rattle.std.specs.Prelude.{not, ◌&&◌, ◌||◌, ◌==◌, nat_lt, option_map}
use Rattle.std.specs.Option.{option_or, is_some}
use Rattle.std.specs.List.{list_any, AllByRecursion, find as find_item}
use Rattle.std.specs.List.Sorted.{IsStrictlySortedBy}
use Rattle.std.specs.Map.{lookup}
use Rattle.std.specs.BTreeMap.{is_at}
use Rattle.std.specs.Ordering.{nat_cmp, is_eq, eq_by_cmp}
use Rattle.std.specs.declared.cmp.Ordering.{Ordering}
use Rattle.std.specs.declared.cmp.Ordering.TheVariants.{Less}
use Rattle.std.specs.Cmp.Lexicographic.{slice_cmp}
use Rattle.std.specs.FinMap.{find}
use Rattle.std.proofs.lemmas.Bool.{lt-ltb, le-ltb, eq-eqb, ne_eqb}
use Rattle.std.specs.Cmp.{ranked, eq_by_cmp_equiv}
use Rattle.dc_address.proofs.Order.{identities_total, same_from_tie}
use Rattle.std.proofs.lemmas.List.{drop_more}
use Rattle.dc_address.specs.declared.identity.Identity.{Identity}
use Rattle.dc_address.specs.Identity.{identity_cmp}
use Rattle.dc_units.specs.Date.{Day}
use Rattle.mbdc_change.specs.State.{ReadingRow}
use Rattle.dc_meters.specs.Due.{has_value}
use Rattle.dc_meters.specs.declared.place.Place.{Place}
use Rattle.dc_report.specs.Ascending.{at_key}
use Rattle.dc_meters.specs.Places.{place_cmp}
use Rattle.dc_report.specs.DueTable.{is_later, is_last, last_readings, reading_place}
use Rattle.dc_report.specs.Last.{last_of}
use Rattle.dc_meters.proofs.PlaceOrder.{place_ties, places_total}

abbrev pub serials_of : List ReadingRow → List ℕ
serials_of rs = map (λ r. r.serial) rs

-- ---- serials in order

below_from : (a b : ℕ) → nat_cmp a b ≡ Less → a < b
below_from a b e = ranked a b Less (sym e)

abbrev AreAbove : ℕ → List ReadingRow → Type 0
AreAbove n rs = AllByRecursion (λ y. nat_cmp n y ≡ Less) (serials_of rs)

-- ---- a later reading of the same meter that has a value, and the last one

abbrev counts : Day → Identity → ReadingRow → Bool
counts date meter r = is_eq (identity_cmp meter r.meter) && has_value date r

one_later : (last : Option ReadingRow) (here : Bool) (r : ReadingRow) → is_some (option_or last (cond here (Some r) None)) ≡ (here || is_some last)
one_later None true r = refl
one_later None false r = refl
one_later (Some x) true r = refl
one_later (Some x) false r = refl

some_last : (date : Day) (meter : Identity) (rs : List ReadingRow) → is_some (last_of date meter rs) ≡ list_any (counts date meter) rs
some_last date meter [] = refl
some_last date meter (r ∷ rs) =
    one_later (last_of date meter rs) (counts date meter r) r ∙ ap (λ (b : Bool). counts date meter r || b) (some_last date meter rs)

later_is : (same below has : Bool) → below ≡ true → (same && (below && has)) ≡ (same && has)
later_is same true has e = refl
later_is same false has e = absurd cc

never_later : (same below has : Bool) → below ≡ false → (same && (below && has)) ≡ false
never_later true false has e = refl
never_later false false has e = refl
never_later same true has e = absurd cc

above_count : (date : Day) (r : ReadingRow) (rs : List ReadingRow) → AreAbove r.serial rs → list_any (is_later date r) rs ≡ list_any (counts date r.meter) rs
above_count date r [] above = refl
above_count date r (x ∷ rs) above =
    ap (λ (b : Bool). b || list_any (is_later date r) rs)
    (later_is (is_eq (identity_cmp r.meter x.meter)) (nat_lt r.serial x.serial) (has_value date x) (lt-ltb r.serial x.serial (below_from r.serial x.serial above.0)))
    ∙ ap (λ (b : Bool). counts date r.meter x || b) (above_count date r rs above.1)

not_after : (date : Day) (x r : ReadingRow) → r.serial ≤ x.serial → is_later date x r ≡ false
not_after date x r below = never_later (is_eq (identity_cmp x.meter r.meter)) (nat_lt x.serial r.serial) (has_value date r) (le-ltb x.serial r.serial below)

-- each of these readings has a later one among all where the run over those after it finds one
abbrev Agrees : Day → List ReadingRow → List ReadingRow → Type 0
Agrees date all [] = Unit {0}
Agrees date all (r ∷ rs) = (list_any (is_later date r) all ≡ is_some (last_of date r.meter rs)) × Agrees date all rs

abbrev NoneBefore : Day → List ReadingRow → List ReadingRow → Type 0
NoneBefore date before rs = AllByRecursion (λ x. list_any (is_later date x) before ≡ false) rs

neither : (a b : Bool) → a ≡ false → b ≡ false → (a || b) ≡ false
neither a b no_a no_b = ap (λ (c : Bool). c || b) no_a ∙ no_b

moved_on : (date : Day) (r : ReadingRow) (before rs : List ReadingRow) → AreAbove r.serial rs → NoneBefore date before rs → NoneBefore date (r ∷ before) rs
moved_on date r before [] above none = tt
moved_on date r before (x ∷ rs) above none =
    let below : r.serial < x.serial = below_from r.serial x.serial above.0 in
    (neither (is_later date x r) (list_any (is_later date x) before) (not_after date x r (omega arith)) none.0, moved_on date r before rs above.1 none.1)

regrouped : (a b c : Bool) → (a || (b || c)) ≡ ((b || a) || c)
regrouped true true c = refl
regrouped true false c = refl
regrouped false true c = refl
regrouped false false c = refl

neither_of : (a b c : Bool) → a ≡ false → b ≡ false → (a || (b || c)) ≡ c
neither_of a b c no_a no_b = ap (λ (x : Bool). x || (b || c)) no_a ∙ ap (λ (x : Bool). x || c) no_b

agree : (date : Day) (all before rs : List ReadingRow) → ((f : ReadingRow → Bool) → list_any f all ≡ (list_any f before || list_any f rs)) → NoneBefore date before rs → IsStrictlySortedBy nat_cmp (serials_of rs) → Agrees date all rs
unfolding IsStrictlySortedBy
agree date all before [] split none sorted = tt
agree date all before (r ∷ rs) split none sorted = (
  split (is_later date r)
      ∙ neither_of (list_any (is_later date r) before) (is_later date r r) (list_any (is_later date r) rs) none.0 (not_after date r r (omega arith))
      ∙ above_count date r rs sorted.0 ∙ sym (some_last date r.meter rs),
  agree date all (r ∷ before) rs (λ f. split f ∙ regrouped (list_any f before) (f r) (list_any f rs)) (moved_on date r before rs sorted.0 none.1) sorted.1,
)

nothing_before : (date : Day) (rs : List ReadingRow) → NoneBefore date [] rs
nothing_before date [] = tt
nothing_before date (r ∷ rs) = (refl, nothing_before date rs)

-- ---- the definition's readings, looked up by their places

abbrev pub at_flat : List ℕ → ReadingRow → Bool
at_flat flat r = is_eq (slice_cmp nat_cmp flat r.flat)

-- a reading, where it passes
abbrev pub if_at : (ReadingRow → Bool) → Option ReadingRow → Option ReadingRow
if_at p None = None
if_at p (Some r) = cond (p r) (Some r) None

module _ (q : Place) where
  abbrev stands : ReadingRow → Bool
  stands = at_flat q.flat

  abbrev placed : List ReadingRow → Option ReadingRow
  placed rs = find place_cmp q (map (at_key reading_place) rs)

  one_placed : (test : Bool) (r : ReadingRow) (rs : List ReadingRow) → placed (cond test (r ∷ rs) rs) ≡ cond test (cond (eq_by_cmp place_cmp q (reading_place r)) (Some r) (placed rs)) (placed rs)
  one_placed true r rs = refl
  one_placed false r rs = refl

  step : (r : ReadingRow) (has same at : Bool) (last own : Option ReadingRow) → stands r ≡ at → (same ≡ true → last ≡ own)
      → cond (has && not (is_some own)) (cond (at && same) (Some r) (if_at stands last)) (if_at stands last) ≡ if_at stands (option_or last (cond (same && has) (Some r) None))
  step r false true at None own is alike = refl
  step r false true at (Some x) own is alike = refl
  step r false false at None own is alike = refl
  step r false false at (Some x) own is alike = refl
  step r true true true None None is alike = sym (ap (λ (b : Bool). cond b (Some r) None) is)
  step r true true false None None is alike = sym (ap (λ (b : Bool). cond b (Some r) None) is)
  step r true true at None (Some y) is alike = let e = alike refl in absurd cc
  step r true true at (Some x) None is alike = let e = alike refl in absurd cc
  step r true true at (Some x) (Some y) is alike = refl
  step r true false true None None is alike = refl
  step r true false false None None is alike = refl
  step r true false at None (Some y) is alike = refl
  step r true false true (Some x) None is alike = refl
  step r true false false (Some x) None is alike = refl
  step r true false at (Some x) (Some y) is alike = refl

  found_last : (date : Day) (all rs : List ReadingRow) → Agrees date all rs → placed (filter (is_last date all) rs) ≡ if_at stands (last_of date q.meter rs)
  found_last date all [] agrees = refl
  found_last date all (r ∷ rs) agrees =
      let kept : List ReadingRow = filter (is_last date all) rs in
      let own : Option ReadingRow = last_of date r.meter rs in
      let last : Option ReadingRow = last_of date q.meter rs in
      let has : Bool = has_value date r in
      let same : Bool = is_eq (identity_cmp q.meter r.meter) in
      one_placed (is_last date all r) r kept
      ∙ ap (λ (b : Bool). cond (has && not b) (cond (eq_by_cmp place_cmp q (reading_place r)) (Some r) (placed kept)) (placed kept)) agrees.0
      ∙ ap (λ (b : Bool). cond (has && not (is_some own)) (cond b (Some r) (placed kept)) (placed kept)) (place_ties q (reading_place r))
      ∙ ap (λ (o : Option ReadingRow). cond (has && not (is_some own)) (cond (stands r && same) (Some r) o) o) (found_last date all rs agrees.1)
      ∙ step r has same (stands r) last own refl (λ e. ap (λ (m : Identity). last_of date m rs) (same_from_tie q.meter r.meter e))

-- the last reading of a place's meter, if it is of that flat, is what the definition's readings have at the place
pub last_at : (date : Day) (q : Place) (all : List ReadingRow) → IsStrictlySortedBy nat_cmp (serials_of all) → find place_cmp q (map (at_key reading_place) (last_readings date all)) ≡ if_at (at_flat q.flat) (last_of date q.meter all)
last_at date q all sorted = found_last q date all all (agree date all [] all (λ f. refl) (nothing_before date all) sorted)

-- ---- the entries of a map from meters to readings, by their places

abbrev pub entry_place : Identity × Bor ReadingRow → Place
entry_place e = record { flat = e.1.now.flat; meter = e.0 }

-- the last entry at a place
abbrev pub entry_at : Place → List (Identity × Bor ReadingRow) → Option ReadingRow
entry_at q [] = None
entry_at q (e ∷ es) = option_or (entry_at q es) (cond (is_eq (place_cmp q (entry_place e))) (Some e.1.now) None)

abbrev pub keys : List (Identity × Bor ReadingRow) → List Identity
keys es = map (λ e. e.0) es

abbrev pub seen : Option (Bor ReadingRow) → Option ReadingRow
seen o = option_map (λ r. r.now) o

apart : (o : Ordering) → o ≡ Less → is_eq o ≡ false
apart o e = ap is_eq e

-- no later meter is this one
not_behind : (meter : Identity) (es : List (Identity × Bor ReadingRow)) → AllByRecursion (λ k. identity_cmp meter k ≡ Less) (keys es) → lookup (is_at (identity_cmp meter)) es ≡ None
not_behind meter [] above = refl
not_behind meter (e ∷ es) above =
    ap (λ (b : Bool). cond b (Some e.1) (lookup (is_at (identity_cmp meter)) es)) (apart (identity_cmp meter e.0) above.0) ∙ not_behind meter es above.1

or_none : (o : Option ReadingRow) → option_or o None ≡ o
or_none None = refl
or_none (Some x) = refl

module _ (p : ReadingRow → Bool) where
  entry_step : (r : Bor ReadingRow) (same at : Bool) (rest : Option (Bor ReadingRow)) → p r.now ≡ at → (same ≡ true → rest ≡ None)
      → option_or (if_at p (seen rest)) (cond (at && same) (Some r.now) None) ≡ if_at p (seen (cond same (Some r) rest))
  entry_step r true true None is none = sym (ap (λ (b : Bool). cond b (Some r.now) None) is)
  entry_step r true false None is none = sym (ap (λ (b : Bool). cond b (Some r.now) None) is)
  entry_step r true at (Some x) is none = let e = none refl in absurd cc
  entry_step r false true None is none = refl
  entry_step r false false None is none = refl
  entry_step r false true (Some x) is none = or_none (cond (p x.now) (Some x.now) None)
  entry_step r false false (Some x) is none = or_none (cond (p x.now) (Some x.now) None)

pub entry_found : (q : Place) (es : List (Identity × Bor ReadingRow)) → IsStrictlySortedBy identity_cmp (keys es) → entry_at q es ≡ if_at (at_flat q.flat) (seen (lookup (is_at (identity_cmp q.meter)) es))
unfolding IsStrictlySortedBy
entry_found q [] sorted = refl
entry_found q (e ∷ es) sorted =
    let rest : Option (Bor ReadingRow) = lookup (is_at (identity_cmp q.meter)) es in
    let alone : is_eq (identity_cmp q.meter e.0) ≡ true → rest ≡ None =
    λ same. ap (λ (m : Identity). lookup (is_at (identity_cmp m)) es) (same_from_tie q.meter e.0 same) ∙ not_behind e.0 es sorted.0 in
    ap (λ (o : Option ReadingRow). option_or o (cond (is_eq (place_cmp q (entry_place e))) (Some e.1.now) None)) (entry_found q es sorted.1)
    ∙ ap (λ (b : Bool). option_or (if_at (at_flat q.flat) (seen rest)) (cond b (Some e.1.now) None)) (place_ties q (entry_place e))
    ∙ entry_step (at_flat q.flat) e.1 (is_eq (identity_cmp q.meter e.0)) (at_flat q.flat e.1.now) rest refl alone

-- ---- the readings of the serials

-- the reading of a serial, if it is of the meter
abbrev pub of_meter : Identity → Option ReadingRow → Option ReadingRow
of_meter meter None = None
of_meter meter (Some r) = cond (is_eq (identity_cmp meter r.meter)) (Some r) None

abbrev pub reading_of : List ReadingRow → ℕ → Option ReadingRow
reading_of readings serial = find_item (λ r. r.serial == serial) readings

-- the last of these serials that is of the meter
abbrev pub last_serial : List ReadingRow → Identity → List ℕ → Option ReadingRow
last_serial readings meter [] = None
last_serial readings meter (n ∷ ns) = option_or (last_serial readings meter ns) (of_meter meter (reading_of readings n))

abbrev AreFound : List ReadingRow → List ReadingRow → Type 0
AreFound all rs = AllByRecursion (λ r. reading_of all r.serial ≡ Some r) rs

run_step : (last : Option ReadingRow) (same has : Bool) (r : ReadingRow) → cond has (option_or last (cond same (Some r) None)) last ≡ option_or last (cond (same && has) (Some r) None)
run_step None true true r = refl
run_step None true false r = refl
run_step None false true r = refl
run_step None false false r = refl
run_step (Some x) true true r = refl
run_step (Some x) true false r = refl
run_step (Some x) false true r = refl
run_step (Some x) false false r = refl

one_serial : (all : List ReadingRow) (meter : Identity) (test : Bool) (r : ReadingRow) (rs : List ReadingRow) → last_serial all meter (serials_of (cond test (r ∷ rs) rs)) ≡ cond test (option_or (last_serial all meter (serials_of rs)) (of_meter meter (reading_of all r.serial))) (last_serial all meter (serials_of rs))
one_serial all meter true r rs = refl
one_serial all meter false r rs = refl

run_is : (date : Day) (meter : Identity) (all rs : List ReadingRow) → AreFound all rs → last_serial all meter (serials_of (filter (has_value date) rs)) ≡ last_of date meter rs
run_is date meter all [] found = refl
run_is date meter all (r ∷ rs) found =
    let kept : List ReadingRow = filter (has_value date) rs in
    one_serial all meter (has_value date r) r kept
    ∙ ap (λ (o : Option ReadingRow). cond (has_value date r) (option_or (last_serial all meter (serials_of kept)) (of_meter meter o)) (last_serial all meter (serials_of kept))) found.0
    ∙ ap (λ (o : Option ReadingRow). cond (has_value date r) (option_or o (of_meter meter (Some r))) o) (run_is date meter all rs found.1)
    ∙ run_step (last_of date meter rs) (is_eq (identity_cmp meter r.meter)) (has_value date r) r

still_found : (r : ReadingRow) (all rs : List ReadingRow) → AreAbove r.serial rs → AreFound all rs → AreFound (r ∷ all) rs
still_found r all [] above found = tt
still_found r all (x ∷ rs) above found =
    let below : r.serial < x.serial = below_from r.serial x.serial above.0 in
    (ap (λ (b : Bool). cond b (Some r) (reading_of all x.serial)) (ne_eqb r.serial x.serial (λ e. omega arith)) ∙ found.0, still_found r all rs above.1 found.1)

each_found : (rs : List ReadingRow) → IsStrictlySortedBy nat_cmp (serials_of rs) → AreFound rs rs
unfolding IsStrictlySortedBy
each_found [] sorted = tt
each_found (r ∷ rs) sorted =
    (ap (λ (b : Bool). cond b (Some r) (reading_of rs r.serial)) (eq-eqb r.serial r.serial refl), still_found r rs rs sorted.0 (each_found rs sorted.1))

-- the run over the serials of the readings that have a value finds the last one
pub last_run : (date : Day) (meter : Identity) (readings : List ReadingRow) → IsStrictlySortedBy nat_cmp (serials_of readings) → last_serial readings meter (serials_of (filter (has_value date) readings)) ≡ last_of date meter readings
last_run date meter readings sorted = run_is date meter readings readings (each_found readings sorted)

-- ---- one step of each loop

one_found : (last : Option ReadingRow) (same : Bool) (r : Bor ReadingRow) (old : Option (Bor ReadingRow)) → option_or last (seen (cond same (Some r) old)) ≡ option_or (option_or last (cond same (Some r.now) None)) (seen old)
one_found None true r old = refl
one_found None false r old = refl
one_found (Some x) true r old = refl
one_found (Some x) false r old = refl

pub serial_found : (readings : List ReadingRow) (meter : Identity) (n : ℕ) (r : Bor ReadingRow) (rest : List ℕ) (old : Option (Bor ReadingRow)) → Some r.now ≡ reading_of readings n
    → option_or (last_serial readings meter rest) (seen (cond (is_at (identity_cmp r.now.meter) meter) (Some r) old)) ≡ option_or (last_serial readings meter (n ∷ rest)) (seen old)
serial_found readings meter n r rest old is =
    ap (λ (b : Bool). option_or (last_serial readings meter rest) (seen (cond b (Some r) old))) ((eq_by_cmp_equiv identities_total).symm r.now.meter meter)
    ∙ one_found (last_serial readings meter rest) (is_eq (identity_cmp meter r.now.meter)) r old
    ∙ ap (λ (o : Option ReadingRow). option_or (option_or (last_serial readings meter rest) (of_meter meter o)) (seen old)) is

pub serial_missed : (readings : List ReadingRow) (meter : Identity) (n : ℕ) (rest : List ℕ) (old : Option (Bor ReadingRow)) → None ≡ reading_of readings n
    → option_or (last_serial readings meter rest) (seen old) ≡ option_or (last_serial readings meter (n ∷ rest)) (seen old)
serial_missed readings meter n rest old is =
    ap (λ (o : Option ReadingRow). option_or o (seen old)) (sym (or_none (last_serial readings meter rest)))
    ∙ ap (λ (o : Option ReadingRow). option_or (option_or (last_serial readings meter rest) (of_meter meter o)) (seen old)) is

pub entry_more : (q : Place) (e : Identity × Bor ReadingRow) (rest : List (Identity × Bor ReadingRow)) (old : Option (Bor ReadingRow))
    → option_or (entry_at q rest) (seen (cond (is_at (place_cmp (entry_place e)) q) (Some e.1) old)) ≡ option_or (entry_at q (e ∷ rest)) (seen old)
entry_more q e rest old =
    ap (λ (b : Bool). option_or (entry_at q rest) (seen (cond b (Some e.1) old))) ((eq_by_cmp_equiv places_total).symm (entry_place e) q)
    ∙ one_found (entry_at q rest) (is_eq (place_cmp q (entry_place e))) e.1 old

pub split_off : {X : Type 0} (xs : List X) (i : ℕ) (x : X) → i < length xs → x ≡ get_or xs i x → drop i xs ≡ x ∷ drop (i + 1) xs
split_off {X} xs i x below is = drop_more xs i x below ∙ ap (λ (y : X). y ∷ drop (i + 1) xs) (sym is)

more_due : (test : Bool) (r : ReadingRow) (rs : List ReadingRow) → serials_of (cond test (r ∷ rs) rs) ≡ serials_of (cond test (r ∷ []) []) ++ serials_of rs
more_due true r rs = refl
more_due false r rs = refl

pub serials_more : (date : Day) (r : ReadingRow) (rs : List ReadingRow) → serials_of (filter (has_value date) (r ∷ rs)) ≡ serials_of (filter (has_value date) (r ∷ [])) ++ serials_of (filter (has_value date) rs)
serials_more date r rs = more_due (has_value date r) r (filter (has_value date) rs)
