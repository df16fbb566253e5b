-- Where the readings with at least a serial begin, and what is there.
use Rattle.std.proofs.Common.{◌≡◌, ℕ, ◌<◌, ◌≤◌, ◌∙◌, Bool, true, false, cond, List, [], ◌∷◌, Option, Some, None, length, drop, get_or, map, refl, sym, subst, ap, arith, suc, zero}
use Rattle.std.specs.Prelude.{All, filter, find, nat_le, nat_lt, slice_index_or, ◌==◌}
use Rattle.std.specs.List.{AllByRecursion}
use Rattle.std.specs.List.Sorted.{IsNonDecreasingBy, IsPartitionPoint, IsStrictlySortedBy}
use Rattle.std.specs.Ordering.{nat_cmp}
use Rattle.std.specs.declared.cmp.Ordering.TheVariants.{Less}
use Rattle.std.proofs.lemmas.Bool.Decides.{nat_tests}
use Rattle.std.proofs.lemmas.List.{length-map}
use Rattle.std.proofs.Math.ListN.{get_or-map}
use Rattle.std.proofs.lemmas.Cmp.{ranked}
use Rattle.std.proofs.lemmas.List.Elements.{All-head, filter_passes}
use Rattle.std.proofs.lemmas.Map.Keys.{non_decreasing_from_sorted, sorted_head}
use Rattle.mbdc_change.specs.State.{ReadingRow}
use Rattle.dc_meters.specs.Orders.{readings_from, reading_of}
use Rattle.dc_meters.proofs.Readings.{serials, sorted_of_kept}

abbrev serial_of : ReadingRow → ℕ
serial_of reading = reading.serial

-- ascending serials don't fall
pub serials_rise : (readings : List ReadingRow) → IsStrictlySortedBy nat_cmp (map serial_of readings) → IsNonDecreasingBy serial_of readings
serials_rise readings sorted i j d before within =
    let rise = non_decreasing_from_sorted (map serial_of readings) sorted i j d.serial before (omega (arith, length-map readings serial_of)) in
    omega (arith, rise, get_or-map serial_of readings i d, get_or-map serial_of readings j d)

-- the elements that pass a test come after those that don't
pub filter_behind : {X : Type 0} (p : X → Bool) (xs : List X) (i : ℕ) → ((k : ℕ) (d : X) → k < i → k < length xs → p (get_or xs k d) ≡ false)
    → ((k : ℕ) (d : X) → i ≤ k → k < length xs → p (get_or xs k d) ≡ true) → filter p xs ≡ drop i xs
filter_behind p [] zero before behind = refl
filter_behind p [] (suc i) before behind = refl
filter_behind p (x ∷ xs) zero before behind =
    let first : p x ≡ true = behind 0 x (omega arith) (omega arith) in
    let rest : filter p xs ≡ drop 0 xs = filter_behind p xs zero (λ k d low within. absurd (omega arith)) (λ k d high within. behind (suc k) d (omega arith) (omega arith)) in
    rw first (ap (λ ys. x ∷ ys) rest)
filter_behind p (x ∷ xs) (suc i) before behind =
    let first : p x ≡ false = before 0 x (omega arith) (omega arith) in
    rw first (filter_behind p xs i (λ k d low within. before (suc k) d (omega arith) (omega arith)) (λ k d high within. behind (suc k) d (omega arith) (omega arith)))

-- where the serials below one end, those from it on begin
pub from_point : (readings : List ReadingRow) (serial i : ℕ) → IsPartitionPoint (λ (r : ReadingRow). nat_lt r.serial serial ≡ true) (λ (r : ReadingRow). nat_lt r.serial serial ≡ false) readings i
    → filter (λ r. nat_le serial r.serial) readings ≡ drop i readings
from_point readings serial i point =
    filter_behind (λ (r : ReadingRow). nat_le serial r.serial) readings i
    (λ k d low within. let below = point.0 k d (omega arith) low in grind (arith, nat_tests))
    (λ k d high within. let above = point.1 k d high within in grind (arith, nat_tests))

-- ---- the reading with a serial is the first of those from it on, if that has it

choose_in : {X : Type 0} (test : X → Bool) (p : Bool) (x : X) (kept : List X) → (p ≡ false → test x ≡ false) → find test (cond p (x ∷ kept) kept) ≡ cond (test x) (Some x) (find test kept)
choose_in test true x kept out = refl
choose_in {X} test false x kept out = ap (λ (b : Bool). cond b (Some x) (find test kept)) (sym (out refl))

find_among : {X : Type 0} (p test : X → Bool) (xs : List X) → ((x : X) → p x ≡ false → test x ≡ false) → find test (filter p xs) ≡ find test xs
find_among p test [] out = refl
find_among {X} p test (x ∷ xs) out = choose_in test (p x) x (filter p xs) (out x) ∙ ap (λ (o : Option X). cond (test x) (Some x) o) (find_among p test xs out)

pub among_from : (serial : ℕ) (readings : List ReadingRow) → find (λ (r : ReadingRow). r.serial == serial) (readings_from serial readings) ≡ reading_of serial readings
among_from serial readings = find_among (λ (r : ReadingRow). nat_le serial r.serial) (λ (r : ReadingRow). r.serial == serial) readings (λ r low. grind (arith, nat_tests))

none_behind : (serial : ℕ) (readings : List ReadingRow) → AllByRecursion (λ s. nat_cmp serial s ≡ Less) (serials readings) → (x : ℕ) → x ≤ serial → find (λ (r : ReadingRow). r.serial == x) readings ≡ None
none_behind serial [] above x le = refl
none_behind serial (r ∷ readings) above x le =
    let low : serial < r.serial = ranked serial r.serial Less (sym above.0) in
    let apart : (r.serial == x) ≡ false = grind (arith, nat_tests) in
    ap (λ (b : Bool). cond b (Some r) (find (λ (q : ReadingRow). q.serial == x) readings)) apart ∙ none_behind serial readings above.1 x le

-- the first of those has a greater serial: none has the serial
pub not_there : (serial : ℕ) (readings : List ReadingRow) (first : ReadingRow) (more : List ReadingRow) → IsStrictlySortedBy nat_cmp (serials readings) → readings_from serial readings ≡ first ∷ more → (first.serial == serial) ≡ false
    → reading_of serial readings ≡ None
not_there serial readings first more ascend are apart =
    let rise : IsStrictlySortedBy nat_cmp (serials (first ∷ more)) = subst (λ (rs : List ReadingRow). IsStrictlySortedBy nat_cmp (serials rs)) are (sorted_of_kept (λ (r : ReadingRow). nat_le serial r.serial) readings ascend) in
    let above = sorted_head nat_cmp first.serial (serials more) rise in
    let passes : nat_le serial first.serial ≡ true =
    All-head (λ (r : ReadingRow). nat_le serial r.serial ≡ true) first more (subst (All (λ (r : ReadingRow). nat_le serial r.serial ≡ true)) are (filter_passes (λ (r : ReadingRow). nat_le serial r.serial) readings)) in
    sym (among_from serial readings) ∙ ap (find (λ (r : ReadingRow). r.serial == serial)) are
    ∙ ap (λ (b : Bool). cond b (Some first) (find (λ (q : ReadingRow). q.serial == serial) more)) apart
    ∙ none_behind first.serial more above serial (grind (arith, nat_tests))

pub there : (serial : ℕ) (readings : List ReadingRow) (first : ReadingRow) (more : List ReadingRow) → readings_from serial readings ≡ first ∷ more → (first.serial == serial) ≡ true → reading_of serial readings ≡ Some first
there serial readings first more are here =
    sym (among_from serial readings) ∙ ap (find (λ (r : ReadingRow). r.serial == serial)) are ∙ ap (λ (b : Bool). cond b (Some first) (find (λ (q : ReadingRow). q.serial == serial) more)) here

pub nothing_from : (serial : ℕ) (readings : List ReadingRow) → readings_from serial readings ≡ [] → reading_of serial readings ≡ None
nothing_from serial readings are = sym (among_from serial readings) ∙ ap (find (λ (r : ReadingRow). r.serial == serial)) are

-- ---- where the first stays, all stay

later_stay : (serial : ℕ) (readings : List ReadingRow) (n : ℕ) → serial < n → AllByRecursion (λ s. nat_cmp n s ≡ Less) (serials readings) → filter (λ (r : ReadingRow). nat_lt serial r.serial) readings ≡ readings
later_stay serial [] n low above = refl
later_stay serial (r ∷ readings) n low above =
    let behind : n < r.serial = ranked n r.serial Less (sym above.0) in
    let stays : nat_lt serial r.serial ≡ true = grind (arith, nat_tests) in
    let kept = filter (λ (q : ReadingRow). nat_lt serial q.serial) readings in
    ap (λ (b : Bool). cond b (r ∷ kept) kept) stays ∙ ap (λ (l : List ReadingRow). r ∷ l) (later_stay serial readings n low above.1)

pub all_stay : (serial : ℕ) (readings : List ReadingRow) (first : ReadingRow) → first ≡ slice_index_or readings 0 first → serial < first.serial → IsStrictlySortedBy nat_cmp (serials readings) → filter (λ (r : ReadingRow). nat_lt serial r.serial) readings ≡ readings
all_stay serial [] first is low ascend = refl
all_stay serial (r ∷ readings) first is low ascend =
    let here : serial < r.serial = subst (λ (x : ReadingRow). serial < x.serial) is low in
    let stays : nat_lt serial r.serial ≡ true = grind (arith, nat_tests) in
    let kept = filter (λ (q : ReadingRow). nat_lt serial q.serial) readings in
    ap (λ (b : Bool). cond b (r ∷ kept) kept) stays ∙ ap (λ (l : List ReadingRow). r ∷ l) (later_stay serial readings r.serial here (sorted_head nat_cmp r.serial (serials readings) ascend))
