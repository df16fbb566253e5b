-- The rows of the table are apart: no VIB is a code of two. So the row that a look-up finds is the row.
use Rattle.std.proofs.Common.{◌≡◌, ℕ, zero, suc, ◌+◌, ◌<◌, Bool, true, false, not, ◌&&◌, ◌||◌, cond, eqb, ltb, ◌⊎◌, inl, inr, List, [], ◌∷◌, ◌++◌, length, drop, get_or, Option, Some, None, refl, ap, sym, ◌∙◌, arith, length-append}
use Rattle.std.specs.List.{Contains, find, list_all, starts_with}
use Rattle.std.proofs.lemmas.Bool.{ltb-true, leb-true, le-leb, eq-eqb, eqb-true}
use Rattle.std.proofs.lemmas.Bool.Decides.{Decides-eqb}
use Rattle.std.proofs.lemmas.Slice.Eq.{starts_is}
use Rattle.std.proofs.lemmas.List.{length-drop, get_or-drop}
use Rattle.std.proofs.Math.Seq.{get_or-append_seam}
use Rattle.dc_units.specs.Table.{Row, table, lies_in, code_in, row_of, exponent_of}
use Rattle.dc_records.specs.Record.{Entry, width}
use Rattle.dc_units.specs.declared.point.Seen.{Seen}
use Rattle.dc_units.specs.declared.point.Seen.TheVariants.{Point as Known, Other}
use Rattle.dc_units.specs.declared.point.Point.{Point}
use Rattle.dc_units.specs.Quantity.{takes}
use Rattle.dc_units.specs.Point.{IsCodeOf, IsPoint, IfPoint, point_with, seen_in, seen_of}
use Rattle.dc_units.proofs.Pieces.{one_byte}

both : (a b : Bool) → (a && b) ≡ true → (a ≡ true) × (b ≡ true)
both true true h = (refl, refl)
both true false h = cc
both false b h = cc

either : (a b : Bool) → (a || b) ≡ true → a ≡ false → b ≡ true
either true b h out = cc
either false b h out = h

all_four : (a b c d : Bool) → a ≡ true → b ≡ true → c ≡ true → d ≡ true → ((a && b) && (c && d)) ≡ true
all_four a b c d ea eb ec ed = rw (ea, eb, ec, ed) refl

-- what stands before the last byte, and the last byte, are known by the whole
push_same : (xs ys : List ℕ) (x y : ℕ) → xs ++ (x ∷ []) ≡ ys ++ (y ∷ []) → (xs ≡ ys) × (x ≡ y)
push_same [] [] x y h = (refl, cc)
push_same [] (b ∷ ys) x y h = absurd (omega (arith, ap length h, length-append ys (y ∷ [])))
push_same (a ∷ xs) [] x y h = absurd (omega (arith, ap length h, length-append xs (x ∷ [])))
push_same (a ∷ xs) (b ∷ ys) x y h =
    let rest : xs ++ (x ∷ []) ≡ ys ++ (y ∷ []) = cc in
    let first : a ≡ b = cc in
    let same = push_same xs ys x y rest in
    let front : xs ≡ ys = same.0 in
    (cc, same.1)

-- ---- the test of a row, both ways

begins : (vib before : List ℕ) → (starts_with eqb vib before ≡ true → vib ≡ before ++ drop (length before) vib) × ((rest : List ℕ) → vib ≡ before ++ rest → starts_with eqb vib before ≡ true)
begins vib before = starts_is Decides-eqb vib before (starts_with eqb vib before) refl

one_more : (vib before : List ℕ) → length vib ≡ length before + 1 → drop (length before) vib ≡ get_or vib (length before) 0 ∷ []
one_more vib before long =
    let one : length (drop (length before) vib) ≡ 1 = omega (arith, length-drop (length before) vib) in
    let at : length before + 0 ≡ length before = omega arith in
    one_byte (drop (length before) vib) one
    ∙ ap (λ (b : ℕ). b ∷ []) (get_or-drop (length before) vib 0 0 ∙ ap (λ (i : ℕ). get_or vib i 0) at)

code_of_test : (vib : List ℕ) (row : Row) → lies_in vib row ≡ true → IsCodeOf row vib (code_in vib row)
code_of_test vib row h =
    let halves = both _ _ h in
    let bytes = both _ _ halves.0 in
    let codes = both _ _ halves.1 in
    let long : length vib ≡ length row.before + 1 = eqb-true (length vib) (length row.before + 1) bytes.0 in
    record {
      parts = (begins vib row.before).0 bytes.1 ∙ ap (λ (t : List ℕ). row.before ++ t) (one_more vib row.before long);
      from_first = leb-true row.first (code_in vib row) codes.0;
      to_last = leb-true (code_in vib row) row.last codes.1;
    }

code_in-is : (vib : List ℕ) (row : Row) (code : ℕ) → IsCodeOf row vib code → code_in vib row ≡ code
code_in-is vib row code is = ap (λ (t : List ℕ). get_or t (length row.before) 0) is.parts ∙ get_or-append_seam row.before code [] 0

test_of_code : (vib : List ℕ) (row : Row) (code : ℕ) → IsCodeOf row vib code → lies_in vib row ≡ true
test_of_code vib row code is =
    let long : length vib ≡ length row.before + 1 = ap length is.parts ∙ length-append row.before (code ∷ []) in
    let at = code_in-is vib row code is in
    let low = is.from_first in
    let high = is.to_last in
    all_four _ _ _ _ (eq-eqb (length vib) (length row.before + 1) long) ((begins vib row.before).1 (code ∷ []) is.parts)
    (le-leb row.first (code_in vib row) (rw at low)) (le-leb (code_in vib row) row.last (rw at high))

-- ---- rows that are apart

same_bytes : List ℕ → List ℕ → Bool
same_bytes [] [] = true
same_bytes [] (y ∷ ys) = false
same_bytes (x ∷ xs) [] = false
same_bytes (x ∷ xs) (y ∷ ys) = eqb x y && same_bytes xs ys

same_bytes-refl : (xs : List ℕ) → same_bytes xs xs ≡ true
unfolding same_bytes
same_bytes-refl [] = refl
same_bytes-refl (x ∷ xs) = let here = eq-eqb x x refl in rw (here, same_bytes-refl xs) refl

-- two rows have no code in common
apart : Row → Row → Bool
apart r s = not (same_bytes r.before s.before) || (ltb r.last s.first || ltb s.last r.first)

all_apart : List Row → Bool
all_apart [] = true
all_apart (row ∷ rows) = list_all (apart row) rows && all_apart rows

-- computed over the whole table
table_apart : all_apart table ≡ true
unfolding all_apart apart same_bytes
table_apart = refl

either_way : (a b : Bool) → (a || b) ≡ true → (a ≡ true) ⊎ (b ≡ true)
either_way true b h = inl refl
either_way false b h = inr h

-- no VIB is a code of two rows that are apart
in_two : (vib : List ℕ) (r s : Row) (c d : ℕ) → apart r s ≡ true → IsCodeOf r vib c → IsCodeOf s vib d → ⊥
unfolding apart
in_two vib r s c d h one two =
    let same = push_same r.before s.before c d (sym one.parts ∙ two.parts) in
    let at : c ≡ d = same.1 in
    let before : same_bytes r.before s.before ≡ true = ap (λ (t : List ℕ). same_bytes r.before t) (sym same.0) ∙ same_bytes-refl r.before in
    let sides : (ltb r.last s.first || ltb s.last r.first) ≡ true = either (not (same_bytes r.before s.before)) _ h (ap not before) in
    let a = one.from_first in
    let b = one.to_last in
    let c1 = two.from_first in
    let c2 = two.to_last in
    elim (either_way (ltb r.last s.first) (ltb s.last r.first) sides) [
      | inl e ↦ omega (arith, ltb-true r.last s.first e)
      | inr e ↦ omega (arith, ltb-true s.last r.first e)
    ]

-- ---- looking a row up

list_all-at : (p : Row → Bool) (rows : List Row) (k : ℕ) (row : Row) → list_all p rows ≡ true → k < length rows → get_or rows k row ≡ row → p row ≡ true
list_all-at p [] k row h within at = absurd (omega (arith, within))
list_all-at p (r ∷ rows) zero row h within at = ap p (sym at) ∙ (both (p r) (list_all p rows) h).0
list_all-at p (r ∷ rows) (suc k) row h within at = list_all-at p rows k row (both (p r) (list_all p rows) h).1 (omega arith) at

found_here : (b : Bool) (r row : Row) (later : Option Row) → b ≡ true → r ≡ row → cond b (Some r) later ≡ Some row
found_here true r row later h e = ap (λ (x : Row). Some x) e
found_here false r row later h e = cc

found_later : (b : Bool) (r row : Row) (later : Option Row) → b ≡ false → later ≡ Some row → cond b (Some r) later ≡ Some row
found_later true r row later h e = cc
found_later false r row later h e = e

is_false : (b : Bool) → (b ≡ true → ⊥) → b ≡ false
is_false true h = absurd (h refl)
is_false false h = refl

find-at : (vib : List ℕ) (code : ℕ) (row : Row) (rows : List Row) (k : ℕ) → all_apart rows ≡ true → k < length rows → get_or rows k row ≡ row
    → IsCodeOf row vib code → find (lies_in vib) rows ≡ Some row
unfolding all_apart
find-at vib code row [] k h within at is = absurd (omega (arith, within))
find-at vib code row (r ∷ rows) zero h within at is =
    found_here (lies_in vib r) r row (find (lies_in vib) rows) (ap (lies_in vib) at ∙ test_of_code vib row code is) at
find-at vib code row (r ∷ rows) (suc k) h within at is =
    let parts = both (list_all (apart r) rows) (all_apart rows) h in
    let inside : k < length rows = omega arith in
    let one = list_all-at (apart r) rows k row parts.0 inside at in
    found_later (lies_in vib r) r row (find (lies_in vib) rows)
    (is_false (lies_in vib r) (λ t. in_two vib r row _ code one (code_of_test vib r t) is))
    (find-at vib code row rows k parts.1 inside at is)

-- a row that was found is in the list, and its test passes
Finds : List ℕ → List Row → Row → Type 0
Finds vib rows row = Contains rows row × (lies_in vib row ≡ true)

find-cons : (vib : List ℕ) (r row : Row) (rows : List Row) (b : Bool) → lies_in vib r ≡ b → (find (lies_in vib) rows ≡ Some row → Finds vib rows row)
    → cond b (Some r) (find (lies_in vib) rows) ≡ Some row → Finds vib (r ∷ rows) row
unfolding Finds
find-cons vib r row rows true t later h =
    let e : r ≡ row = cc in
    ((0, omega arith, e), ap (lies_in vib) (sym e) ∙ t)
find-cons vib r row rows false t later h =
    let below = later h in
    ((suc below.0.0, omega (arith, below.0.1), below.0.2), below.1)

find-row : (vib : List ℕ) (row : Row) (rows : List Row) → find (lies_in vib) rows ≡ Some row → Finds vib rows row
find-row vib row [] h = cc
find-row vib row (r ∷ rows) h = find-cons vib r row rows (lies_in vib r) refl (find-row vib row rows) h

-- the row of a VIB is the row that it is a code of
pub row_of-is : (vib : List ℕ) (row : Row) (code : ℕ) → Contains table row → IsCodeOf row vib code → row_of vib ≡ Some row
unfolding row_of
row_of-is vib row code (k, within, at) is = find-at vib code row table k table_apart within at is

pub row_of-found : (vib : List ℕ) (row : Row) → row_of vib ≡ Some row → Contains table row × IsCodeOf row vib (code_in vib row)
unfolding row_of Finds
row_of-found vib row h = let found = find-row vib row table h in (found.0, code_of_test vib row found.1)

-- ---- points

point_in_row : (e : Entry) (row : Row) (p : Point) (b c : Bool) → takes row.quantity e.field ≡ b → eqb (length e.content) (width e.field) ≡ c
    → Contains table row → IsCodeOf row e.vib (code_in e.vib row)
    → cond (b && c) (Known (point_with e row.quantity (exponent_of e.vib row))) Other ≡ Known p → IsPoint e p
point_in_row e row p true true t w inside code h =
    let is : point_with e row.quantity (exponent_of e.vib row) ≡ p = cc in
    record { row = row; in_table = inside; code = code_in e.vib row; code_of = code; field = t; whole = eqb-true (length e.content) (width e.field) w; is = sym is }
point_in_row e row p true false t w inside code h = cc
point_in_row e row p false c t w inside code h = cc

point_found : (e : Entry) (o : Option Row) (p : Point) → row_of e.vib ≡ o → seen_in e o ≡ Known p → IsPoint e p
point_found e None p r h = cc
point_found e (Some row) p r h =
    let at = row_of-found e.vib row r in
    point_in_row e row p (takes row.quantity e.field) (eqb (length e.content) (width e.field)) refl refl at.0 at.1 h

-- what is seen is a point
pub seen_of-found : (e : Entry) (s : Seen) → s ≡ seen_of e → IfPoint s (IsPoint e)
seen_of-found e (Known p) h = point_found e (row_of e.vib) p refl (sym h)
seen_of-found e Other h = tt

-- a point is seen
pub seen_of-only : (e : Entry) (p : Point) → IsPoint e p → seen_of e ≡ Known p
seen_of-only e p is =
    let row = is.row in
    let at = row_of-is e.vib is.row is.code is.in_table is.code_of in
    let code = code_in-is e.vib is.row is.code is.code_of in
    let taken : takes is.row.quantity e.field ≡ true = is.field in
    let same : eqb (length e.content) (width e.field) ≡ true = eq-eqb (length e.content) (width e.field) is.whole in
    ap (seen_in e) at ∙ rw (taken, same, code) (ap (λ (x : Point). Known x) (sym is.is))
