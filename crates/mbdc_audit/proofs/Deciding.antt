-- The values that decide a moment are those of the values that count.
use Rattle.std.proofs.Common.{◌≡◌, ◌&&◌, ◌||◌, ℕ, List, [], ◌∷◌, ◌++◌, Bool, true, false, refl, sym, ◌∙◌, ap, take, eqb-true}
use Rattle.std.specs.Prelude.{◌==◌, if◌then◌else◌}
use Rattle.std.specs.List.{list_any}
use Rattle.mbdc_audit.specs.House.{Value}
use Rattle.mbdc_audit.specs.Amount.{ahead, counting, deciding, last_of, lies_at, passed}

-- of one run and moment
abbrev is_same : Value → Value → Bool
is_same a b = (a.run == b.run) && (a.moment == b.moment)

left : (a b : Bool) → (a && b) ≡ true → a ≡ true
left true b e = refl
left false b e = e

right : (a b : Bool) → (a && b) ≡ true → b ≡ true
right true b e = e
right false b e = absurd cc

runs : (a b : Value) → is_same a b ≡ true → a.run ≡ b.run
runs a b e = eqb-true a.run b.run (left (a.run == b.run) (a.moment == b.moment) e)

moments : (a b : Value) → is_same a b ≡ true → a.moment ≡ b.moment
moments a b e = eqb-true a.moment b.moment (right (a.run == b.run) (a.moment == b.moment) e)

-- the first value that counts
record Head (b : Value) (values : List Value) : Type 0 where
  first : Value
  more : List Value
  is : values ≡ first ∷ more
  run : first.run ≡ b.run
  moment : first.moment ≡ b.moment

head_step : (b d : Value) (kept : List Value) → Head d kept → (t : Bool) → is_same b d ≡ t → Head b (if t then kept else b ∷ kept)
head_step b d kept h true e = record {
  first = h.first;
  more = h.more;
  is = h.is;
  run = h.run ∙ sym (runs b d e);
  moment = h.moment ∙ sym (moments b d e);
}
head_step b d kept h false e = record { first = b; more = kept; is = refl; run = refl; moment = refl }

head : (b : Value) (rest : List Value) → Head b (counting (b ∷ rest))
head b [] = record { first = b; more = []; is = refl; run = refl; moment = refl }
head b (d ∷ rest) = head_step b d (counting (d ∷ rest)) (head d rest) (is_same b d) refl

same_test : (a b c : Value) → c.run ≡ b.run → c.moment ≡ b.moment → is_same a c ≡ is_same a b
same_test a b c r m = ap (λ (n : ℕ). (a.run == n) && (a.moment == c.moment)) r ∙ ap (λ (n : ℕ). (a.run == b.run) && (a.moment == n)) m

kept_step : (a b : Value) (kept : List Value) → Head b kept → counting kept ≡ kept → (t : Bool) → is_same a b ≡ t
    → counting (if t then kept else a ∷ kept) ≡ (if t then kept else a ∷ kept)
kept_step a b kept h is true e = is
kept_step a b kept h is false e =
    let test : is_same a h.first ≡ false = same_test a b h.first h.run h.moment ∙ e in
    let cons : counting (a ∷ h.first ∷ h.more) ≡ a ∷ counting (h.first ∷ h.more) =
    ap (λ (t : Bool). if t then counting (h.first ∷ h.more) else a ∷ counting (h.first ∷ h.more)) test in
    ap (λ (vs : List Value). counting (a ∷ vs)) h.is ∙ (cons ∙ ap (λ (vs : List Value). a ∷ vs) (ap counting (sym h.is) ∙ is))

pub counted_once : (values : List Value) → counting (counting values) ≡ counting values
counted_once [] = refl
counted_once (a ∷ []) = refl
counted_once (a ∷ b ∷ rest) =
    kept_step a b (counting (b ∷ rest)) (head b rest) (counted_once (b ∷ rest)) (is_same a b) refl

or_twice : (x y : Bool) → (x || y) ≡ (x || (x || y))
or_twice true y = refl
or_twice false y = refl

any_step : (moment : ℕ) (a b : Value) (kept rest : List Value) → list_any (lies_at moment) kept ≡ (lies_at moment b || list_any (lies_at moment) rest)
    → (t : Bool) → is_same a b ≡ t
    → list_any (lies_at moment) (if t then kept else a ∷ kept) ≡ (lies_at moment a || (lies_at moment b || list_any (lies_at moment) rest))
any_step moment a b kept rest is true e =
    is ∙ (or_twice (lies_at moment b) (list_any (lies_at moment) rest)
    ∙ ap (λ (n : ℕ). (n == moment) || (lies_at moment b || list_any (lies_at moment) rest)) (sym (moments a b e)))
any_step moment a b kept rest is false e = ap (λ (x : Bool). lies_at moment a || x) is

any_counted : (moment : ℕ) (values : List Value) → list_any (lies_at moment) (counting values) ≡ list_any (lies_at moment) values
any_counted moment [] = refl
any_counted moment (a ∷ []) = refl
any_counted moment (a ∷ b ∷ rest) =
    any_step moment a b (counting (b ∷ rest)) rest (any_counted moment (b ∷ rest)) (is_same a b) refl

pub deciding_counted : (moment : ℕ) (values : List Value) → deciding moment (counting values) ≡ deciding moment values
deciding_counted moment values =
    ap (λ (vs : List Value). last_of (passed moment vs) ++ (if list_any (lies_at moment) (counting values) then [] else take 1 (ahead moment vs))) (counted_once values)
    ∙ ap (λ (x : Bool). last_of (passed moment (counting values)) ++ (if x then [] else take 1 (ahead moment (counting values)))) (any_counted moment values)
