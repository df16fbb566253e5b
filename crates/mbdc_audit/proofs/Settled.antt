-- Values of a window beside each other.
use Rattle.std.proofs.Common.{arith, ◌≡◌, ◌↔◌, ◌&&◌, ℕ, zero, suc, List, [], ◌∷◌, ◌++◌, length, flat_map, map, Bool, true, false, refl, sym, ap, ◌∙◌, subst}
use Rattle.std.proofs.lemmas.Bool.{eq-eqb, eqb-true}
use Rattle.std.proofs.Common.{Option, Some, None, Result, Ok, Err, if◌then◌else◌}
use Rattle.std.specs.Prelude.{All, ◌==◌, slice_get, zip}
use Rattle.mbdc_audit.specs.House.{Run, Value}
use Rattle.mbdc_audit.specs.Settled.{AreSettled, IsSettled}
use Rattle.mbdc_audit.specs.Sound.{Falls, IfAnew, is_telegram}
use Rattle.mbdc_audit.specs.View.{amount_or_0, found_of, is_told_word, of_word, seen_value, source_of, value_by, value_of}
use Rattle.mbdc_audit.specs.Walk.{AreJudged, IsJudged, IsSmall, RestsOn, of_result, shown_by}
use Rattle.mbdc_audit.specs.declared.house.Typed.{Typed}
use Rattle.mbdc_audit.specs.declared.house.Value as value_type
use Rattle.mbdc_audit.specs.declared.line.Word.{Word}
use Rattle.mbdc_audit.specs.declared.line.Word.TheVariants as word
use Rattle.mbdc_audit.specs.declared.moment.DayEnd.{DayEnd}
use Rattle.mbdc_audit.specs.declared.uses.Counted.{Counted}

-- ---- counters that began anew

-- ---- telegrams

pub told_word : (w : Word) (b : List ℕ) (e : Option DayEnd) (t : Option Typed) → is_telegram (of_word w b e t) ≡ is_told_word w
told_word word.Read b e t = refl
told_word word.Stored b e t = refl
told_word word.Ended b e t = refl
told_word word.First b e None = refl
told_word word.First b e (Some t) = refl
told_word word.Last b e None = refl
told_word word.Last b e (Some t) = refl
told_word word.Hand b e None = refl
told_word word.Hand b e (Some t) = refl
told_word word.Estimated b e None = refl
told_word word.Estimated b e (Some t) = refl
told_word _ b e t = refl

shows : {E : Type 0} (a b : Bool) (f : Result ℕ E) (m : ℕ) → a ≡ true → b ≡ true → f ≡ Ok m → (if a && b then of_result f else None) ≡ Some m
shows true true (Ok x) m e e' h = cc
shows true true (Err x) m e e' h = absurd cc
shows true false f m e e' h = absurd cc
shows false b f m e e' h = absurd cc

shown : {E : Type 0} (a b : Bool) (f : Result ℕ E) (m : ℕ) → (if a && b then of_result f else None) ≡ Some m → (a ≡ true) × (b ≡ true) × (f ≡ Ok m)
shown true true (Ok x) m h = (refl, refl, cc)
shown true true (Err x) m h = absurd cc
shown true false f m h = absurd cc
shown false b f m h = absurd cc

pub shows_it : (run : ℕ) (v : value_type.Value) (m : ℕ) → v.run ≡ run → is_told_word v.word ≡ true → v.found ≡ Ok m → shown_by run v ≡ Some m
shows_it run v m r w f = shows (v.run == run) (is_told_word v.word) v.found m (eq-eqb _ _ r) w f

pub of_shown : (run : ℕ) (v : value_type.Value) (m : ℕ) → shown_by run v ≡ Some m → (v.run ≡ run) × (is_told_word v.word ≡ true) × (v.found ≡ Ok m)
of_shown run v m h = let s = shown (v.run == run) (is_told_word v.word) v.found m h in (eqb-true _ _ s.0, s.1, s.2)

-- ---- one list beside another

abbrev pub Each : {X : Type 0} → (X → X → Type 0) → List X → List X → Type 0
Each R [] [] = Unit {0}
Each R [] (y ∷ ys) = ⊥
Each R (x ∷ xs) [] = ⊥
Each R (x ∷ xs) (y ∷ ys) = R x y × Each R xs ys

pub to_each : {X : Type 0} (R : X → X → Type 0) (xs ys : List X) → length ys ≡ length xs → All (λ p. R p.0 p.1) (zip xs ys) → Each R xs ys
to_each R [] [] e h = tt
to_each R [] (y ∷ ys) e h = absurd (omega (arith, e))
to_each R (x ∷ xs) [] e h = absurd (omega (arith, e))
to_each R (x ∷ xs) (y ∷ ys) e h = (h 0 (x, y) (omega arith), to_each R xs ys (omega (arith, e)) (λ k d lt. h (suc k) d (omega (arith, lt))))

pub each_with : {X : Type 0} (R Q : X → X → Type 0) (P : X → Type 0) → ((x y : X) → R x y → P y → Q x y) → (xs ys : List X)
    → Each R xs ys → All P ys → Each Q xs ys
each_with R Q P f [] [] r p = tt
each_with R Q P f [] (y ∷ ys) r p = absurd r
each_with R Q P f (x ∷ xs) [] r p = absurd r
each_with R Q P f (x ∷ xs) (y ∷ ys) r p =
    (f x y r.0 (p 0 y (omega arith)), each_with R Q P f xs ys r.1 (λ k d lt. p (suc k) d (omega (arith, lt))))

pub all_with : {X : Type 0} (R : X → X → Type 0) (P : X → Type 0) → ((x y : X) → R x y → P y) → (xs ys : List X) → Each R xs ys → All P ys
all_with R P f [] [] r k d lt = absurd (omega (arith, lt))
all_with R P f [] (y ∷ ys) r k d lt = absurd r
all_with R P f (x ∷ xs) [] r k d lt = absurd r
all_with R P f (x ∷ xs) (y ∷ ys) r zero d lt = f x y r.0
all_with R P f (x ∷ xs) (y ∷ ys) r (suc k) d lt = all_with R P f xs ys r.1 k d (omega (arith, lt))

-- ---- values

abbrev pub Rest : List Run → Counted → value_type.Value → ℕ → Type 0
Rest rs q v n = (r : Run) × (slice_get rs v.run ≡ Some r) × RestsOn r q n v

-- what a value is, by what it is by itself
pub record Stands (rs : List Run) (q : Counted) (all : List Value) (j v : value_type.Value) : Type 0 where
  pub same : v ≡ record j { found = v.found; is_again = v.is_again }
  pub rests : (n : ℕ) → (j.found ≡ Ok n) ↔ Rest rs q v n
  pub falls : (n : ℕ) → (v.found ≡ Ok n) ↔ ((j.found ≡ Ok n) × IfAnew (source_of v) (Falls all (value_of n v)))

own : (rs : List Run) (q : Counted) (o j : value_type.Value) → IsJudged rs q o j → (n : ℕ) → (j.found ≡ Ok n) ↔ Rest rs q j n
own rs q o j h n = (
  λ f. subst (λ (y : value_type.Value). Rest rs q y n) (sym h.0) ((h.1 n).0 f),
  λ p. (h.1 n).1 (subst (λ (y : value_type.Value). Rest rs q y n) h.0 p),
)

stands : (rs : List Run) (q : Counted) (js : List value_type.Value) (o j v : value_type.Value) → IsJudged rs q o j → IsSettled js j v
    → Stands rs q (flat_map found_of js) j v
stands rs q js o j v h s = record {
  same = s.0;
  rests = λ n. (
    λ f. subst (λ (y : value_type.Value). Rest rs q y n) (sym s.0) ((own rs q o j h n).0 f),
    λ p. (own rs q o j h n).1 (subst (λ (y : value_type.Value). Rest rs q y n) s.0 p),
  );
  falls = λ n. (
    λ f. let g = (s.1 n).0 f in (
      g.0,
      subst (λ (y : value_type.Value). IfAnew (source_of y) (Falls (flat_map found_of js) (value_of n y))) (sym s.0)
          (subst (λ (k : ℕ). IfAnew (source_of j) (Falls (flat_map found_of js) (value_of k j))) (ap amount_or_0 g.0) g.1),
    ),
    λ p. (s.1 n).1 (
      p.0,
      subst (λ (k : ℕ). IfAnew (source_of j) (Falls (flat_map found_of js) (value_of k j))) (sym (ap amount_or_0 p.0))
          (subst (λ (y : value_type.Value). IfAnew (source_of y) (Falls (flat_map found_of js) (value_of n y))) s.0 p.1),
    ),
  );
}

all_stand : (rs : List Run) (q : Counted) (all os js vs : List value_type.Value) → Each (IsJudged rs q) os js → Each (IsSettled all) js vs
    → Each (Stands rs q (flat_map found_of all)) js vs
all_stand rs q all [] [] [] a b = tt
all_stand rs q all [] [] (v ∷ vs) a b = absurd b
all_stand rs q all [] (j ∷ js) vs a b = absurd a
all_stand rs q all (o ∷ os) [] vs a b = absurd a
all_stand rs q all (o ∷ os) (j ∷ js) [] a b = absurd b
all_stand rs q all (o ∷ os) (j ∷ js) (v ∷ vs) a b = (stands rs q all o j v a.0 b.0, all_stand rs q all os js vs a.1 b.1)

pub they_stand : (rs : List Run) (q : Counted) (os js vs : List value_type.Value) → AreJudged rs q os js → AreSettled js vs
    → Each (Stands rs q (flat_map found_of js)) js vs
they_stand rs q os js vs a b =
    all_stand rs q js os js vs (to_each (IsJudged rs q) os js a.0 a.1) (to_each (IsSettled js) js vs b.0 b.1)

-- a value is found, and is what it is by itself
pub record IsGood (j v : value_type.Value) : Type 0 where
  pub same : v ≡ record j { found = v.found; is_again = v.is_again }
  pub found : j.found ≡ Ok (amount_or_0 v.found)

pub found_small : (size : ℕ) (v : value_type.Value) → IsSmall size v → v.found ≡ Ok (amount_or_0 v.found)
found_small size v s = subst (λ (k : ℕ). v.found ≡ Ok k) (sym (ap amount_or_0 s.1)) s.1

pub good_small : (rs : List Run) (q : Counted) (all : List Value) (size : ℕ) (j v : value_type.Value) → Stands rs q all j v → IsSmall size v → IsGood j v
good_small rs q all size j v h s = record {
  same = h.same;
  found = ((h.falls (amount_or_0 v.found)).0 (found_small size v s)).0;
}

pub found_one : {E : Type 0} (j : value_type.Value) (f : Result ℕ E) (m : ℕ) → f ≡ Ok m → value_by j f ≡ value_of m j ∷ []
found_one j (Ok x) m e = cc
found_one j (Err x) m e = absurd cc

one_seen : (j v : value_type.Value) → IsGood j v → found_of j ≡ seen_value v ∷ []
one_seen j v g = found_one j j.found (amount_or_0 v.found) g.found
    ∙ ap (λ (x : Value). x ∷ []) (sym (ap (λ (y : value_type.Value). value_of (amount_or_0 v.found) y) g.same))

-- what is found of judged values is what is seen
pub all_seen : (js vs : List value_type.Value) → Each IsGood js vs → flat_map found_of js ≡ map seen_value vs
all_seen [] [] g = refl
all_seen [] (v ∷ vs) g = absurd g
all_seen (j ∷ js) [] g = absurd g
all_seen (j ∷ js) (v ∷ vs) g = ap (λ (l : List Value). l ++ flat_map found_of js) (one_seen j v g.0)
    ∙ ap (λ (l : List Value). seen_value v ∷ l) (all_seen js vs g.1)
