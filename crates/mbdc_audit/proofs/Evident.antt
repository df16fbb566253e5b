-- Nothing is wrong with the values of a window exactly if the window is read as it should.
use Rattle.std.proofs.Common.{arith, ◌≡◌, ◌<◌, ◌⊎◌, inl, inr, ◌↔◌, ◌^◌, ℕ, zero, suc, List, [], ◌∷◌, length, flat_map, get_or, map, true, false, refl, sym, ap, ◌∙◌, subst}
use Rattle.std.proofs.Common.{Some, None, Ok, if◌then◌else◌}
use Rattle.std.specs.Prelude.{All, AllPairs, ◌==◌, ◌-◌, ◌*◌, ◌/◌, ◌%◌, slice_get}
use Rattle.std.proofs.lemmas.Bool.Decides.{nat_tests}
use Rattle.std.proofs.lemmas.List.{get_or_default}
use Rattle.mbdc_audit.specs.Amount.{of_run}
use Rattle.mbdc_audit.specs.Evidence.{IsSpelled, Rests}
use Rattle.mbdc_audit.specs.House.{Number, Part, Run, Source, Spelled, Struck, Value, Window, current, stored, ended, anew, put, first, last}
use Rattle.mbdc_audit.specs.Settled.{AreSettled, IsTold}
use Rattle.mbdc_audit.specs.Smallest.{fitting}
use Rattle.mbdc_audit.specs.Sound.{AreAt, Falls, IfAnew, IsEvident, IsRead, is_telegram}
use Rattle.mbdc_audit.specs.View.{amount_or_0, found_of, is_told_word, seen_value, source_of}
use Rattle.mbdc_audit.specs.Walk.{AreJudged, IsOneValue, IsSmall, shown_by}
use Rattle.mbdc_audit.specs.declared.house.Value as value_type
use Rattle.mbdc_audit.specs.declared.uses.Counted.{Counted}
use Rattle.mbdc_audit.proofs.Amounts.{fits, where_true}
use Rattle.mbdc_audit.proofs.Checks.{all_map, pairs_map}
use Rattle.mbdc_audit.proofs.Settled.{Each, IsGood, Stands, all_seen, all_with, each_with, found_small, good_small, of_shown, shows_it, they_stand, told_word}

-- ---- what evidence gives is below 10^18

spelled_small : (q : Counted) (v : Value) (d n u size : ℕ) → (if n % 10 ^ d == 0 then fitting (n / 10 ^ d) else None) ≡ Some u → u < 10 ^ 18
spelled_small q v d n u size e = let h = where_true (n % 10 ^ d == 0) (fitting (n / 10 ^ d)) u e in (fits (n / 10 ^ d) u h.1).1

is_spelled_small : (q : Counted) (v : Value) (t : Spelled) → IsSpelled q t v.amount → v.amount < 10 ^ 18
is_spelled_small q v t h = let e = h.is in spelled_small q v t.decimals (t.digits * h.size) v.amount h.size e

rests_small : (r : Run) (q : Counted) (v : Value) (s : Source) → Rests r q v s → v.amount < 10 ^ 18
rests_small r q v (current b) h = h.gives.counts.is.small
rests_small r q v (stored e b) h = h.gives.counts.is.small
rests_small r q v (ended e b) h = h.gives.counts.is.small
rests_small r q v anew h = subst (λ (n : ℕ). n < 10 ^ 18) (sym h) (omega arith)
rests_small r q v (put g t) h = is_spelled_small q v t h
rests_small r q v (first g t) h = is_spelled_small q v t h
rests_small r q v (last g t) h = is_spelled_small q v t h

-- ---- sizes

of_is : (f : Run → ℕ) (rs : List Run) (n : ℕ) (r : Run) → slice_get rs n ≡ Some r → of_run f rs n ≡ f r
of_is f [] n r e = absurd cc
of_is f (x ∷ rs) zero r e = let same : x ≡ r = cc in ap f same
of_is f (x ∷ rs) (suc n) r e =
    let less : suc n - 1 ≡ n = omega arith in
    let not_first : (suc n == 0) ≡ false = grind (arith, nat_tests) in
    rw (not_first, less) (of_is f rs n r e)

abbrev end : ℕ → ℕ
end size = if size == 0 then 10 ^ 18 else size

size_to : (size n : ℕ) → n < end size → (size ≡ 0) ⊎ (n < size)
size_to zero n lt = inl refl
size_to (suc k) n lt =
    let some : (suc k == 0) ≡ false = grind (arith, nat_tests) in
    let lt' = rw some at lt in inr lt'

size_from : (size n : ℕ) → (size ≡ 0) ⊎ (n < size) → n < 10 ^ 18 → n < end size
size_from zero n h small = small
size_from (suc k) n (inl e) small = absurd (omega (arith, e))
size_from (suc k) n (inr lt) small =
    let some : (suc k == 0) ≡ false = grind (arith, nat_tests) in rw some lt

-- ---- a value

module _ (rs : List Run) (q : Counted) (all seen : List Value) (are : all ≡ seen) where
  evident : (j v : value_type.Value) → Stands rs q all j v → IsGood j v → IsSmall (of_run (λ (r : Run). r.size) rs v.run) v
      → IsEvident rs q seen (seen_value v)
  evident j v h g s =
      let m = amount_or_0 v.found in
      let rest = (h.rests m).0 g.found in
      let found : v.found ≡ Ok m = found_small (of_run (λ (r : Run). r.size) rs v.run) v s in
      let below : m < end rest.0.size = subst (λ (k : ℕ). m < end k) (of_is (λ (r : Run). r.size) rs v.run rest.0 rest.1)
      (subst (λ (k : ℕ). k < end (of_run (λ (r : Run). r.size) rs v.run)) (sym (ap amount_or_0 s.1)) s.2) in (
        rest.0,
        rest.1,
        rest.2,
        size_to rest.0.size m below,
        subst (λ (l : List Value). IfAnew (source_of v) (Falls l (seen_value v))) are ((h.falls m).0 found).1,
      )

  good : (j v : value_type.Value) → Stands rs q all j v → IsEvident rs q seen (seen_value v) → IsGood j v
  good j v h e = record { same = h.same; found = (h.rests (amount_or_0 v.found)).1 (e.0, e.1, e.2) }

  small : (j v : value_type.Value) → Stands rs q all j v → IsGood j v → IsEvident rs q seen (seen_value v)
      → IsSmall (of_run (λ (r : Run). r.size) rs v.run) v
  small j v h g e =
      let m = amount_or_0 v.found in (
        m,
        (h.falls m).1 (g.found, subst (λ (l : List Value). IfAnew (source_of v) (Falls l (seen_value v))) (sym are) e.4),
        subst (λ (k : ℕ). m < end k) (sym (of_is (λ (r : Run). r.size) rs v.run e.0 e.1))
            (size_from e.0.size m e.3 (rests_small e.0 q (seen_value v) (source_of v) e.2)),
      )

-- ---- telegrams of one moment

abbrev IsOneOf : Value → Value → Type 0
IsOneOf a b = is_telegram a.source ≡ true → is_telegram b.source ≡ true → AreAt a b → a.amount ≡ b.amount

abbrev IsApart : Struck → Value → Type 0
IsApart x v = is_telegram v.source ≡ true → v.run ≡ x.run → v.moment ≡ x.moment → ⊥

word_of : (v : value_type.Value) → is_telegram (source_of v) ≡ true → is_told_word v.word ≡ true
word_of v t = sym (told_word v.word v.bodies.now v.end v.typed) ∙ t

of_word : (v : value_type.Value) → is_told_word v.word ≡ true → is_telegram (source_of v) ≡ true
of_word v t = told_word v.word v.bodies.now v.end v.typed ∙ t

by_order : (P : Type 0) (i k : ℕ) → (i < k → P) → (i ≡ k → P) → (k < i → P) → P
by_order P zero zero a b d = b refl
by_order P zero (suc k) a b d = a (omega arith)
by_order P (suc i) zero a b d = d (omega arith)
by_order P (suc i) (suc k) a b d = by_order P i k (λ h. a (omega (arith, h))) (λ e. b (ap suc e)) (λ h. d (omega (arith, h)))

all_at_one : {X : Type 0} (P : X → Type 0) (xs : List X) (d : X) → ((i : ℕ) → i < length xs → P (get_or xs i d)) → All P xs
all_at_one P xs d h k e lt = subst P (get_or_default xs k d e lt) (h k lt)

module _ (rs : List Run) (struck : List Struck) (vs : List value_type.Value) where
  one_value : All (IsTold rs vs struck) vs → AllPairs IsOneOf (map seen_value vs)
  one_value told = (pairs_map IsOneOf seen_value vs).1 (λ i k d lt below ta tb at.
      let a = get_or vs i d in
      let b = get_or vs k d in
      let lt' : i < length vs = omega (arith, lt, below) in
      let ia = told i d lt' in
      let ib = told k d below in
      let fa = found_small (of_run (λ (r : Run). r.size) rs a.run) a ia.0 in
      let fb = found_small (of_run (λ (r : Run). r.size) rs b.run) b ib.0 in
      (ib.1 (word_of b tb)).1 (amount_or_0 b.found) fb i d lt' at.1 (amount_or_0 a.found) (shows_it b.run a (amount_or_0 a.found) at.0 (word_of a ta) fa))

  not_struck : All (IsTold rs vs struck) vs → All (λ x. All (IsApart x) (map seen_value vs)) struck
  not_struck told = λ i e lt. (all_map (IsApart (get_or struck i e)) seen_value vs).1
      (λ k d below t r m. ((told k d below).1 (word_of (get_or vs k d) t)).0 i e lt (sym r) (sym m))

  is_one : AllPairs IsOneOf (map seen_value vs) → All (λ x. All (IsApart x) (map seen_value vs)) struck
      → (k : ℕ) (d : value_type.Value) → k < length vs → is_told_word (get_or vs k d).word ≡ true → IsOneValue vs struck (get_or vs k d)
  is_one pairs apart k d below w =
      let v = get_or vs k d in
      let ps = (pairs_map IsOneOf seen_value vs).0 pairs in (
        λ i e lt r m. (all_map (IsApart (get_or struck i e)) seen_value vs).0 (apart i e lt) k d below (of_word v w) (sym r) (sym m),
        λ n f. all_at_one (λ u. u.moment ≡ v.moment → (m : ℕ) → shown_by v.run u ≡ Some m → m ≡ n) vs d (λ i lt at m shown.
            let u = get_or vs i d in
            let s = of_shown v.run u m shown in
            by_order (m ≡ n) i k
            (λ less. sym (ap amount_or_0 s.2) ∙ (ps i k d less below (of_word u s.1) (of_word v w) (s.0, at) ∙ ap amount_or_0 f))
            (λ e. sym (ap amount_or_0 s.2) ∙ (ap (λ (x : ℕ). amount_or_0 (get_or vs x d).found) e ∙ ap amount_or_0 f))
            (λ more. sym (ap amount_or_0 s.2) ∙ (sym (ps k i d more lt (of_word v w) (of_word u s.1) (sym s.0, sym at)) ∙ ap amount_or_0 f))),
      )

-- ---- a window

pub told_good : (rs : List Run) (q : Counted) (os js vs : List value_type.Value) → AreJudged rs q os js → AreSettled js vs → (struck : List Struck)
    → All (IsTold rs vs struck) vs → Each IsGood js vs
told_good rs q os js vs judged settled struck told = each_with (Stands rs q (flat_map found_of js)) IsGood (IsTold rs vs struck)
    (λ j v h t. good_small rs q (flat_map found_of js) (of_run (λ (r : Run). r.size) rs v.run) j v h t.0) js vs
    (they_stand rs q os js vs judged settled) told

module _ (rs : List Run) (q : Counted) (os js vs : List value_type.Value) (judged : AreJudged rs q os js) (settled : AreSettled js vs)
    (span : ℕ) (struck : List Struck) (parts : List Part) (numbers : List Number) where
  abbrev window : Window
  window = record { span = span; values = map seen_value vs; struck = struck; parts = parts; numbers = numbers }

  told_read : All (IsTold rs vs struck) vs → IsRead rs q window
  told_read told =
      let stand = they_stand rs q os js vs judged settled in
      let are = all_seen js vs (told_good rs q os js vs judged settled struck told) in record {
        values = (all_map (IsEvident rs q (map seen_value vs)) seen_value vs).1 (all_with
            (λ j v. Stands rs q (flat_map found_of js) j v × IsTold rs vs struck v) (λ v. IsEvident rs q (map seen_value vs) (seen_value v))
            (λ j v h. evident rs q (flat_map found_of js) (map seen_value vs) are j v h.0
            (good_small rs q (flat_map found_of js) (of_run (λ (r : Run). r.size) rs v.run) j v h.0 h.1.0) h.1.0) js vs
            (each_with (Stands rs q (flat_map found_of js)) (λ j v. Stands rs q (flat_map found_of js) j v × IsTold rs vs struck v)
            (IsTold rs vs struck) (λ j v h t. (h, t)) js vs stand told));
        one_value = one_value rs struck vs told;
        struck = not_struck rs struck vs told;
      }

  read_told : IsRead rs q window → All (IsTold rs vs struck) vs
  read_told read =
      let stand = they_stand rs q os js vs judged settled in
      let evident_all = (all_map (IsEvident rs q (map seen_value vs)) seen_value vs).0 read.values in
      let goods = each_with (Stands rs q (flat_map found_of js)) IsGood (λ v. IsEvident rs q (map seen_value vs) (seen_value v))
      (λ j v h e. record { same = h.same; found = (h.rests (amount_or_0 v.found)).1 (e.0, e.1, e.2) }) js vs stand evident_all in
      let are = all_seen js vs goods in
      let smalls = all_with (λ j v. Stands rs q (flat_map found_of js) j v × IsEvident rs q (map seen_value vs) (seen_value v))
      (λ v. IsSmall (of_run (λ (r : Run). r.size) rs v.run) v)
      (λ j v h. small rs q (flat_map found_of js) (map seen_value vs) are j v h.0
      (good rs q (flat_map found_of js) (map seen_value vs) are j v h.0 h.1) h.1) js vs
      (each_with (Stands rs q (flat_map found_of js)) (λ j v. Stands rs q (flat_map found_of js) j v × IsEvident rs q (map seen_value vs) (seen_value v))
      (λ v. IsEvident rs q (map seen_value vs) (seen_value v)) (λ j v h e. (h, e)) js vs stand evident_all) in
      λ k d below. (smalls k d below, λ w. is_one rs struck vs read.one_value read.struck k d below w)

  pub reads : All (IsTold rs vs struck) vs ↔ IsRead rs q window
  reads = (told_read, read_told)
