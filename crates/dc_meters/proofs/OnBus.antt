-- The meters with a primary address on a bus line.
use Rattle.std.proofs.Common.{◌≡◌, ℕ, ◌+◌, ◌<◌, Bool, true, false, cond, List, [], ◌∷◌, filter, Option, None, Some, refl, sym, ap, subst, ◌∙◌, arith}
use Rattle.std.specs.Prelude.{◌&&◌, ◌||◌, ◌==◌, not, is_some}
use Rattle.std.specs.Borrow.{Bor}
use Rattle.std.specs.List.{list_any, AllByRecursion}
use Rattle.std.specs.List.Sorted.{IsStrictlySortedBy}
use Rattle.std.specs.Map.{lookup, keys_of, values_of}
use Rattle.std.specs.Map.Iter.{TakesFirst, deref}
use Rattle.std.specs.BTreeMap.{is_at}
use Rattle.std.specs.BTreeMap.Range.{range_contains}
use Rattle.std.specs.Ordering.{nat_cmp, ordering_then, is_eq, is_le}
use Rattle.std.specs.declared.cmp.Ordering.{Ordering}
use Rattle.std.specs.declared.cmp.Ordering.TheVariants.{Less, Equal, Greater}
use Rattle.std.specs.declared.ops.Bound.TheVariants.{Included, Excluded}
use Rattle.std.specs.Cmp.{IsTotalOrder, tied_itself}
use Rattle.std.proofs.lemmas.Bool.Decides.{nat_tests}
use Rattle.std.proofs.lemmas.Bool.{and_parts}
use Rattle.std.proofs.lemmas.Cmp.{ranked}
use Rattle.dc_address.specs.declared.identity.Identity.{Identity}
use Rattle.dc_address.specs.Identity.{identity_cmp}
use Rattle.dc_address.proofs.Order.{same_from_tie, equal_to_itself}
use Rattle.mbdc_change.specs.State.{MeterRow}
use Rattle.mbdc_change.specs.Accepts.{occupies}
use Rattle.mbdc_change.proofs.Exact.{some_is}
use Rattle.dc_meters.specs.declared.place.BusPlace.{BusPlace}
use Rattle.dc_meters.specs.Places.{bus_cmp, is_on_bus, among, stands, hangs_at, meter_on_bus, ArePlaces}
use Rattle.dc_meters.proofs.DueDates.{not_empty, some_kept}
use Rattle.dc_meters.proofs.PlaceOrder.{bus_total, own_bus_place}

-- ---- the range of one address

not_greater : (o : Ordering) → (o ≡ Greater → ⊥) → is_le o ≡ true
not_greater Less never = refl
not_greater Equal never = refl
not_greater Greater never = absurd (never refl)

least_last : (m : Ordering) → is_le m ≡ true → not (is_le m) ≡ false
least_last m e = ap not e

range_at : (line address : ℕ) (p : BusPlace) (m : Ordering) → is_le m ≡ true → (a b c : Ordering) → a ≡ nat_cmp line p.line → b ≡ nat_cmp address p.address → c ≡ nat_cmp (address + 1) p.address
    → (is_le (ordering_then a (ordering_then b m)) && not (is_le (ordering_then a (ordering_then c m)))) ≡ is_on_bus line address p
range_at line address p m least Less b c l r s = let low : line < p.line = ranked line p.line Less l in grind (arith, nat_tests)
range_at line address p m least Greater b c l r s = let low : p.line < line = ranked line p.line Greater l in grind (arith, nat_tests)
range_at line address p m least Equal Greater c l r s = let low : p.address < address = ranked address p.address Greater r in grind (arith, nat_tests)
range_at line address p m least Equal Less Less l r s = let low : address < p.address = ranked address p.address Less r in grind (arith, nat_tests)
range_at line address p m least Equal Less Equal l r s =
    let low : address < p.address = ranked address p.address Less r in
    let away : (p.address == address) ≡ false = grind (arith, nat_tests) in
    least_last m least ∙ sym (ap (λ (b : Bool). (p.line == line) && b) away ∙ none (p.line == line))
  where
    none : (b : Bool) → (b && false) ≡ false
    none true = refl
    none false = refl
range_at line address p m least Equal Less Greater l r s =
    let low : address < p.address = ranked address p.address Less r in
    let high : p.address < address + 1 = ranked (address + 1) p.address Greater s in
    absurd (omega (arith, low, high))
range_at line address p m least Equal Equal Less l r s =
    let here : address ≡ p.address = ranked address p.address Equal r in
    let low : address + 1 < p.address = ranked (address + 1) p.address Less s in
    absurd (omega (arith, here, low))
range_at line address p m least Equal Equal Equal l r s =
    let here : address ≡ p.address = ranked address p.address Equal r in
    let next : address + 1 ≡ p.address = ranked (address + 1) p.address Equal s in
    absurd (omega (arith, here, next))
range_at line address p m least Equal Equal Greater l r s =
    let on_line : line ≡ p.line = ranked line p.line Equal l in
    let here : address ≡ p.address = ranked address p.address Equal r in
    let both : is_on_bus line address p ≡ true = grind (arith, nat_tests) in
    ap (λ (b : Bool). b && true) least ∙ sym both

filter_same : {X : Type 0} (p q : X → Bool) (xs : List X) → ((x : X) → p x ≡ q x) → filter p xs ≡ filter q xs
filter_same p q [] same = refl
filter_same {X} p q (x ∷ xs) same = ap (λ (b : Bool). cond b (x ∷ filter p xs) (filter p xs)) (same x) ∙ ap (λ (l : List X). cond (q x) (x ∷ l) l) (filter_same p q xs same)

-- the places from the least meter's at the address up to the next address are those at the address
pub one_address : (line address : ℕ) (least : Identity) (places : List BusPlace) → ((other : Identity) → identity_cmp least other ≡ Greater → ⊥)
    → filter (range_contains bus_cmp (Included (record { line = line; address = address; meter = least })) (Excluded (record { line = line; address = address + 1; meter = least }))) places
    ≡ filter (is_on_bus line address) places
one_address line address least places never =
    filter_same _ (is_on_bus line address) places (λ p. range_at line address p (identity_cmp least p.meter) (not_greater _ (never p.meter)) (nat_cmp line p.line) (nat_cmp address p.address) (nat_cmp (address + 1) p.address) refl refl refl)

-- ---- a test that some place meets, some meter meets

any_found : {P : Type 0} (cmp : P → P → Ordering) → IsTotalOrder cmp → (test : P → Bool) (places : List P) (G : Type 0) → ((q : P) → test q ≡ true → among cmp places q ≡ true → G) → list_any test places ≡ true → G
any_found cmp total test [] G k e = absurd cc
any_found {P} cmp total test (p ∷ places) G k e = at (any_found cmp total test places G) (test p) refl e
  where
    later : (a b : Bool) → b ≡ true → (a || b) ≡ true
    later true b e = refl
    later false b e = e

    at : (((q : P) → test q ≡ true → among cmp places q ≡ true → G) → list_any test places ≡ true → G) → (t : Bool) → test p ≡ t → (t || list_any test places) ≡ true → G
    at rest true is any = k p is (ap (λ (o : Ordering). is_eq o || among cmp places p) (tied_itself total p))
    at rest false is any = rest (λ q met found. k q met (later (is_at (cmp q) p) (among cmp places q) found)) any

found_any : {X : Type 0} (p test : X → Bool) (xs : List X) → ((x : X) → p x ≡ true → test x ≡ true) → list_any p xs ≡ true → list_any test xs ≡ true
found_any p test [] so e = e
found_any p test (x ∷ xs) so e = at (p x) (test x) (so x) (found_any p test xs so) e
  where
    at : (a b : Bool) → (a ≡ true → b ≡ true) → (list_any p xs ≡ true → list_any test xs ≡ true) → (a || list_any p xs) ≡ true → (b || list_any test xs) ≡ true
    at a true here rest e = refl
    at true false here rest e = absurd (let x = here refl in cc)
    at false false here rest e = rest e

none_before : (m : Identity) (es : List (Identity × MeterRow)) → AllByRecursion (λ k. identity_cmp m k ≡ Less) (keys_of es) → lookup (is_at (identity_cmp m)) es ≡ None
none_before m [] all = refl
none_before m (e ∷ es) all = ap (λ (o : Ordering). cond (is_eq o) (Some e.1) (lookup (is_at (identity_cmp m)) es)) all.0 ∙ none_before m es all.1

-- a meter that is found has its row
row_found : (test : Identity × MeterRow → Bool) (es : List (Identity × MeterRow)) (G : Type 0) → IsStrictlySortedBy identity_cmp (keys_of es)
    → ((m : Identity) (row : MeterRow) → test (m, row) ≡ true → lookup (is_at (identity_cmp m)) es ≡ Some row → G) → list_any test es ≡ true → G
unfolding IsStrictlySortedBy
row_found test [] G sorted k e = absurd cc
row_found test (x ∷ es) G sorted k e = at (row_found test es G sorted.1) (test x) refl e
  where
    behind : (m : Identity) (row : MeterRow) → lookup (is_at (identity_cmp m)) es ≡ Some row → (t : Bool) → is_at (identity_cmp m) x.0 ≡ t → cond t (Some x.1) (lookup (is_at (identity_cmp m)) es) ≡ Some row
    behind m row found false is = found
    behind m row found true is =
        let gone : lookup (is_at (identity_cmp m)) es ≡ None = subst (λ (i : Identity). lookup (is_at (identity_cmp i)) es ≡ None) (sym (same_from_tie m x.0 is)) (none_before x.0 es sorted.0) in
        absurd (let both = sym gone ∙ found in cc)

    at : (((m : Identity) (row : MeterRow) → test (m, row) ≡ true → lookup (is_at (identity_cmp m)) es ≡ Some row → G) → list_any test es ≡ true → G) → (t : Bool) → test x ≡ t → (t || list_any test es) ≡ true → G
    at rest true is any = k x.0 x.1 is (ap (λ (o : Ordering). cond (is_eq o) (Some x.1) (lookup (is_at (identity_cmp x.0)) es)) (equal_to_itself x.0))
    at rest false is any = rest (λ m row met found. k m row met (behind m row found (is_at (identity_cmp m) x.0) refl)) any

found_row : (test : Identity × MeterRow → Bool) (es : List (Identity × MeterRow)) (m : Identity) (row : MeterRow) → test (m, row) ≡ true → lookup (is_at (identity_cmp m)) es ≡ Some row → list_any test es ≡ true
found_row test [] m row met found = absurd cc
found_row test (x ∷ es) m row met found = at (found_row test es m row met) (is_at (identity_cmp m) x.0) refl found
  where
    later : (a b : Bool) → b ≡ true → (a || b) ≡ true
    later true b e = refl
    later false b e = e

    at : (lookup (is_at (identity_cmp m)) es ≡ Some row → list_any test es ≡ true) → (t : Bool) → is_at (identity_cmp m) x.0 ≡ t → cond t (Some x.1) (lookup (is_at (identity_cmp m)) es) ≡ Some row → (test x || list_any test es) ≡ true
    at rest true is e =
        let first : test x ≡ true = ap (λ (i : Identity). test (i, x.1)) (sym (same_from_tie m x.0 is)) ∙ ap (λ (r : MeterRow). test (m, r)) (some_is x.1 row e) ∙ met in
        ap (λ (b : Bool). b || list_any test es) first
    at rest false is e = later (test x) (list_any test es) (rest e)

same_tests : (a b : Bool) → (a ≡ true → b ≡ true) → (b ≡ true → a ≡ true) → a ≡ b
same_tests true true up down = refl
same_tests true false up down = absurd (let e = up refl in cc)
same_tests false true up down = absurd (let e = down refl in cc)
same_tests false false up down = refl

module _ (line address : ℕ) (also : Identity → Bool) (places : List BusPlace) (meters : List (Identity × MeterRow)) (are : ArePlaces bus_cmp meter_on_bus hangs_at places meters)
    (sorted : IsStrictlySortedBy identity_cmp (keys_of meters)) where
  abbrev of_place : BusPlace → Bool
  of_place p = is_on_bus line address p && also p.meter

  abbrev of_entry : Identity × MeterRow → Bool
  of_entry e = also e.0 && occupies line (Some address) e.1

  placed_row : (q : BusPlace) → of_place q ≡ true → (o : Option MeterRow) → lookup (is_at (identity_cmp q.meter)) meters ≡ o → stands hangs_at q o ≡ true → list_any of_entry meters ≡ true
  placed_row q met None found here = absurd cc
  placed_row q met (Some row) found here =
      let parts = and_parts (is_on_bus line address q) (also q.meter) met in
      let numbers = and_parts (q.line == line) (q.address == address) parts.0 in
      let on_line : q.line ≡ line = grind (arith, nat_tests) in
      let at_address : q.address ≡ address = grind (arith, nat_tests) in
      let hangs : occupies line (Some address) row ≡ true = ap (λ (n : ℕ). occupies n (Some address) row) (sym on_line) ∙ ap (λ (n : ℕ). occupies q.line (Some n) row) (sym at_address) ∙ here in
      found_row of_entry meters q.meter row (ap (λ (b : Bool). b && occupies line (Some address) row) parts.1 ∙ hangs) found

  row_placed : (m : Identity) (row : MeterRow) → of_entry (m, row) ≡ true → lookup (is_at (identity_cmp m)) meters ≡ Some row → list_any of_place places ≡ true
  row_placed m row met found =
      let parts = and_parts (also m) (occupies line (Some address) row) met in
      let q : BusPlace = record { line = line; address = address; meter = m } in
      let there : among bus_cmp places q ≡ true = are q ∙ ap (stands hangs_at q) found ∙ parts.1 in
      found_any (is_at (bus_cmp q)) of_place places (λ p tie. at_place p (tied_parts line address m p tie) parts.0) there
    where
      tied_parts : (line address : ℕ) (m : Identity) (p : BusPlace) → is_at (bus_cmp (record { line = line; address = address; meter = m })) p ≡ true
          → (is_at (identity_cmp m) p.meter ≡ true) × (((line == p.line) && (address == p.address)) ≡ true)
      tied_parts line address m p tie =
          let row : MeterRow = record { line = line; address = Some address; flat = []; parts = [] } in
          and_parts (is_at (identity_cmp m) p.meter) ((line == p.line) && (address == p.address)) (sym (own_bus_place m line address row p refl refl) ∙ tie)

      at_place : (p : BusPlace) → (is_at (identity_cmp m) p.meter ≡ true) × (((line == p.line) && (address == p.address)) ≡ true) → also m ≡ true → of_place p ≡ true
      at_place p tied is =
          let numbers = and_parts (line == p.line) (address == p.address) tied.1 in
          let on : is_on_bus line address p ≡ true = grind (arith, nat_tests) in
          ap (λ (b : Bool). b && also p.meter) on ∙ ap also (sym (same_from_tie m p.meter tied.0)) ∙ is

  -- some place at the address is another's where some meter is
  pub any_on_bus : list_any of_place places ≡ list_any of_entry meters
  any_on_bus =
      same_tests (list_any of_place places) (list_any of_entry meters)
      (any_found bus_cmp bus_total of_place places (list_any of_entry meters ≡ true) (λ q met there. placed_row q met (lookup (is_at (identity_cmp q.meter)) meters) refl (sym (are q) ∙ there)))
      (row_found of_entry meters (list_any of_place places ≡ true) sorted row_placed)

-- ---- filters

pub any_kept : {X : Type 0} (p test : X → Bool) (xs : List X) → list_any test (filter p xs) ≡ list_any (λ x. p x && test x) xs
any_kept p test [] = refl
any_kept p test (x ∷ xs) = at (p x) ∙ ap (λ (b : Bool). (p x && test x) || b) (any_kept p test xs)
  where
    at : (t : Bool) → list_any test (cond t (x ∷ filter p xs) (filter p xs)) ≡ ((t && test x) || list_any test (filter p xs))
    at true = refl
    at false = refl

pub any_value : {K V : Type 0} (test : V → Bool) (es : List (K × V)) → list_any test (values_of es) ≡ list_any (λ e. true && test e.1) es
any_value test [] = refl
any_value test (e ∷ es) = ap (λ (b : Bool). test e.1 || b) (any_value test es)

pub any_and_all : {X : Type 0} (p : X → Bool) (xs : List X) → list_any p xs ≡ list_any (λ x. p x && true) xs
any_and_all p [] = refl
any_and_all p (x ∷ xs) = ap (λ (b : Bool). p x || b) (any_and_all p xs) ∙ ap (λ (b : Bool). b || list_any (λ x. p x && true) xs) (both (p x))
  where
    both : (b : Bool) → b ≡ (b && true)
    both true = refl
    both false = refl

-- whether there is a first of those that are kept
pub first_there : (p : BusPlace → Bool) (xs : List BusPlace) (o : Option (Bor BusPlace)) (rest : List BusPlace) → TakesFirst deref (filter p xs) o rest → is_some o ≡ list_any p xs
first_there p xs None rest takes = sym (some_kept p xs ∙ ap not_empty takes.0)
first_there p xs (Some x) rest takes = sym (some_kept p xs ∙ ap not_empty takes)
