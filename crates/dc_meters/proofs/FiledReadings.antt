-- Serials under keys, where a reading comes after all others and where the first goes.
use Rattle.std.proofs.Common.{◌≡◌, ℕ, ◌<◌, Bool, true, false, cond, List, [], ◌∷◌, ◌++◌, refl, sym, ap, ◌∙◌, map, arith}
use Rattle.std.specs.Prelude.{◌&&◌, ◌||◌, All, not}
use Rattle.std.specs.List.{list_any, AllByRecursion}
use Rattle.std.specs.List.Sorted.{IsStrictlySortedBy}
use Rattle.std.specs.Ordering.{nat_cmp, is_eq}
use Rattle.std.specs.declared.cmp.Ordering.{Ordering}
use Rattle.std.specs.declared.cmp.Ordering.TheVariants.{Less}
use Rattle.std.specs.BTreeMap.{is_at}
use Rattle.std.specs.Cmp.{IsTotalOrder, nat_cmp_total, tied_then, eq_by_cmp_equiv}
use Rattle.std.proofs.lemmas.Bool.Decides.{nat_tests}
use Rattle.std.proofs.lemmas.Bool.{and_parts}
use Rattle.std.proofs.lemmas.Cmp.{on_total, then_total, ranked}
use Rattle.std.proofs.lemmas.List.Elements.{All-head, All-tail}
use Rattle.std.proofs.lemmas.Map.Keys.{sorted_head}
use Rattle.mbdc_io.proofs.Bools.{or_assoc, or_false}
use Rattle.mbdc_change.specs.State.{ReadingRow}
use Rattle.dc_meters.specs.declared.filed.Filed.{Filed}
use Rattle.dc_meters.specs.Orders.{filed_cmp, found, AreFiled, IsUnfiled}

-- the reading is filed so
abbrev pub is_filed : {K : Type 0} → (K → ReadingRow → Bool) → Filed K → ReadingRow → Bool
is_filed {K} has q r = has q.key r && is_eq (nat_cmp q.serial r.serial)

pub any_push : {X : Type 0} (p : X → Bool) (xs : List X) (x : X) → list_any p (xs ++ x ∷ []) ≡ (list_any p xs || p x)
any_push p [] x = or_false (p x)
any_push p (y ∷ xs) x = ap (λ (b : Bool). p y || b) (any_push p xs x) ∙ sym (or_assoc (p y) (list_any p xs) (p x))

-- no reading with a serial is among readings whose serials are below it
pub none_yet : {K : Type 0} (has : K → ReadingRow → Bool) (q : Filed K) (n : ℕ) (readings : List ReadingRow) → All (λ r. r.serial < n) readings → is_eq (nat_cmp q.serial n) ≡ true → list_any (is_filed has q) readings ≡ false
none_yet has q n [] below e = refl
none_yet {K} has q n (r ∷ readings) below e =
    let low = All-head (λ (x : ReadingRow). x.serial < n) r readings below in
    let apart : is_eq (nat_cmp q.serial r.serial) ≡ false = grind (arith, nat_tests) in
    ap (λ (b : Bool). b || list_any (is_filed has q) readings) (ap (λ (b : Bool). has q.key r && b) apart ∙ and_false (has q.key r))
    ∙ none_yet has q n readings (All-tail (λ (x : ReadingRow). x.serial < n) r readings below) e
  where
    and_false : (a : Bool) → (a && false) ≡ false
    and_false true = refl
    and_false false = refl

none_above : {K : Type 0} (has : K → ReadingRow → Bool) (q : Filed K) (n : ℕ) (readings : List ReadingRow) → AllByRecursion (λ s. nat_cmp n s ≡ Less) (map (λ (r : ReadingRow). r.serial) readings) → is_eq (nat_cmp q.serial n) ≡ true
    → list_any (is_filed has q) readings ≡ false
none_above has q n [] above e = refl
none_above {K} has q n (r ∷ readings) above e =
    let low : n < r.serial = ranked n r.serial Less (sym above.0) in
    let apart : is_eq (nat_cmp q.serial r.serial) ≡ false = grind (arith, nat_tests) in
    ap (λ (b : Bool). b || list_any (is_filed has q) readings) (ap (λ (b : Bool). has q.key r && b) apart ∙ and_false (has q.key r))
    ∙ none_above has q n readings above.1 e
  where
    and_false : (a : Bool) → (a && false) ≡ false
    and_false true = refl
    and_false false = refl

module _ {K : Type 0} (R : K → K → Ordering) (has : K → ReadingRow → Bool) where
  -- a reading more, filed under what it has
  pub filed_more : (fs new : List (Filed K)) (readings : List ReadingRow) (r : ReadingRow) → AreFiled R has fs readings → ((q : Filed K) → found R new q ≡ (found R fs q || is_filed has q r)) → AreFiled R has new (readings ++ r ∷ [])
  filed_more fs new readings r filed is q =
      is q ∙ ap (λ (b : Bool). b || is_filed has q r) (filed q) ∙ sym (any_push (is_filed has q) readings r)

  taken : (here later : Bool) → (here ≡ true → later ≡ false) → ((here || later) && not here) ≡ later
  taken true later none = sym (none refl)
  taken false true none = refl
  taken false false none = refl

  -- the first reading less
  pub filed_less : (fs new : List (Filed K)) (r : ReadingRow) (readings : List ReadingRow) → AreFiled R has fs (r ∷ readings) → IsStrictlySortedBy nat_cmp (map (λ (x : ReadingRow). x.serial) (r ∷ readings))
      → ((q : Filed K) → found R new q ≡ (found R fs q && not (is_filed has q r))) → AreFiled R has new readings
  filed_less fs new r readings filed ascend is q =
      let above = sorted_head nat_cmp r.serial (map (λ (x : ReadingRow). x.serial) readings) ascend in
      is q ∙ ap (λ (b : Bool). b && not (is_filed has q r)) (filed q)
      ∙ taken (is_filed has q r) (list_any (is_filed has q) readings) (λ e. none_above has q r.serial readings above (and_parts (has q.key r) (is_eq (nat_cmp q.serial r.serial)) e).1)

-- ---- one key in or out

module _ {K : Type 0} {R : K → K → Ordering} (total : IsTotalOrder R) where
  pub filed_total : IsTotalOrder (filed_cmp R)
  filed_total = then_total (on_total (λ (f : Filed K). f.key) total) (on_total (λ (f : Filed K). f.serial) nat_cmp_total)

  -- a key is met where its parts are
  pub met_at : (k q : Filed K) → is_at (filed_cmp R k) q ≡ (is_eq (R q.key k.key) && is_eq (nat_cmp q.serial k.serial))
  met_at k q = (eq_by_cmp_equiv filed_total).symm k q ∙ sym (tied_then (R q.key k.key) (nat_cmp q.serial k.serial))

  put_in : (t a b : Bool) → t ≡ b → cond t true a ≡ (a || b)
  put_in true true b e = refl
  put_in true false b e = e
  put_in false true b e = refl
  put_in false false b e = e

  taken_out : (t a b : Bool) → t ≡ b → cond t false a ≡ (a && not b)
  taken_out true true b e = ap not e
  taken_out true false b e = refl
  taken_out false true b e = ap not e
  taken_out false false b e = refl

  pub one_in : (k q : Filed K) (a : Bool) → cond (is_at (filed_cmp R k) q) true a ≡ (a || (is_eq (R q.key k.key) && is_eq (nat_cmp q.serial k.serial)))
  one_in k q a = put_in (is_at (filed_cmp R k) q) a (is_eq (R q.key k.key) && is_eq (nat_cmp q.serial k.serial)) (met_at k q)

  pub one_out : (k q : Filed K) (a : Bool) → cond (is_at (filed_cmp R k) q) false a ≡ (a && not (is_eq (R q.key k.key) && is_eq (nat_cmp q.serial k.serial)))
  one_out k q a = taken_out (is_at (filed_cmp R k) q) a (is_eq (R q.key k.key) && is_eq (nat_cmp q.serial k.serial)) (met_at k q)

  back_at : (o k s : Bool) → (s ≡ true → o ≡ false) → ((o || (k && s)) && not (k && s)) ≡ o
  back_at true true true new = absurd (let e = new refl in cc)
  back_at true true false new = refl
  back_at true false s new = refl
  back_at false true true new = refl
  back_at false true false new = refl
  back_at false false s new = refl

  -- a key that went in and out again
  pub in_and_out : (old between back : List (Filed K)) (k : Filed K) → IsUnfiled R k.serial old → ((q : Filed K) → found R between q ≡ cond (is_at (filed_cmp R k) q) true (found R old q))
      → ((q : Filed K) → found R back q ≡ cond (is_at (filed_cmp R k) q) false (found R between q)) → (q : Filed K) → found R back q ≡ found R old q
  in_and_out old between back k unfiled went_in went_out q =
      let key : Bool = is_eq (R q.key k.key) in
      let serial : Bool = is_eq (nat_cmp q.serial k.serial) in
      went_out q ∙ one_out k q (found R between q) ∙ ap (λ (b : Bool). b && not (key && serial)) (went_in q ∙ one_in k q (found R old q)) ∙ back_at (found R old q) key serial (unfiled q)
