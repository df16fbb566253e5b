-- A VIB without VIFE 00 at its end.
use Rattle.std.proofs.Common.{arith, ◌≡◌, ◌≢◌, ◌≤◌, ◌<◌, ◌+◌, ◌-◌, ◌&&◌, ◌⊎◌, inl, inr, ℕ, suc, List, [], ◌∷◌, ◌++◌, length, Bool, true, false}
use Rattle.std.proofs.lemmas.Bool.{and_parts}
use Rattle.std.proofs.Common.{refl, sym, ap, ◌∙◌, get_or, take, drop, set, if◌then◌else◌, drop-cons, take-append-drop, Option, None, Some}
use Rattle.std.specs.Prelude.{◌==◌, nat_le}
use Rattle.std.specs.List.{find, list_all}
use Rattle.std.specs.Str.{bytes_eq}
use Rattle.std.proofs.lemmas.Bool.Decides.{nat_tests}
use Rattle.std.proofs.lemmas.Grind.{common_steps, take-set_at}
use Rattle.std.proofs.lemmas.List.{drop_all}
use Rattle.dc_units.specs.Table.{Row, lies_in, row_of, table}
use Rattle.mbdc_audit.specs.Evidence.{bare}

-- ---- the last two bytes

front : (f : List ℕ) (a b : ℕ) → bare (f ++ (a ∷ b ∷ [])) ≡ f ++ bare (a ∷ b ∷ [])
front [] a b = refl
front (x ∷ []) a b = refl
front (x ∷ y ∷ []) a b = ap (λ (l : List ℕ). x ∷ l) (front (y ∷ []) a b)
front (x ∷ y ∷ z ∷ f) a b = ap (λ (l : List ℕ). x ∷ l) (front (y ∷ z ∷ f) a b)

ends : (v : List ℕ) (n : ℕ) → length v ≡ n + 2 → v ≡ take n v ++ (get_or v n 0 ∷ get_or v (n + 1) 0 ∷ [])
ends v n e =
    let lt : n < length v = omega arith in
    let lt' : suc n < length v = omega arith in
    let one : drop n v ≡ get_or v n 0 ∷ drop (suc n) v = drop-cons v n 0 lt in
    let two : drop (suc n) v ≡ get_or v (suc n) 0 ∷ drop (suc (suc n)) v = drop-cons v (suc n) 0 lt' in
    let none : drop (suc (suc n)) v ≡ [] = drop_all (suc (suc n)) v (omega arith) in
    let same : suc n ≡ n + 1 = omega arith in
    sym (take-append-drop n v) ∙ ap (λ (l : List ℕ). take n v ++ l) (one ∙ ap (λ (l : List ℕ). get_or v n 0 ∷ l)
    (two ∙ (ap (λ (l : List ℕ). get_or v (suc n) 0 ∷ l) none ∙ ap (λ (k : ℕ). get_or v k 0 ∷ []) same)))

bare_is : (v : List ℕ) (n : ℕ) → length v ≡ n + 2 → bare v ≡ take n v ++ bare (get_or v n 0 ∷ get_or v (n + 1) 0 ∷ [])
bare_is v n e = ap bare (ends v n e) ∙ front (take n v) (get_or v n 0) (get_or v (n + 1) 0)

pair_kept : (a b : ℕ) → (b ≢ 0) ⊎ (((b ≡ 0) × (a < 128)) ⊎ ((b ≡ 0) × (128 ≤ a) × (a ≡ 251))) → bare (a ∷ b ∷ []) ≡ a ∷ b ∷ []
pair_kept a b (inl h) = grind (arith, nat_tests)
pair_kept a b (inr (inl h)) = grind (arith, nat_tests)
pair_kept a b (inr (inr h)) = grind (arith, nat_tests)

pair_cut : (a b : ℕ) → b ≡ 0 → 128 ≤ a → a ≢ 251 → bare (a ∷ b ∷ []) ≡ (a - 128) ∷ []
pair_cut a b none code other = grind (arith, nat_tests)

-- ---- in some room

pub at_front : (v s post : List ℕ) (len : ℕ) → s ≡ v → len ≡ length v → take len (s ++ post) ≡ v
at_front v s post len e is = grind (arith, common_steps)

pub kept : (v s post : List ℕ) (n k : ℕ) → s ≡ v → length v ≡ n + 2 → k ≡ n + 1
    → (get_or (s ++ post) k 0 ≢ 0) ⊎ (((get_or (s ++ post) k 0 ≡ 0) × (get_or (s ++ post) n 0 < 128))
    ⊎ ((get_or (s ++ post) k 0 ≡ 0) × (128 ≤ get_or (s ++ post) n 0) × (get_or (s ++ post) n 0 ≡ 251))) → bare v ≡ v
kept v s post n k e len is h =
    let at_n : get_or (s ++ post) n 0 ≡ get_or v n 0 = grind (arith, common_steps) in
    let at_k : get_or (s ++ post) k 0 ≡ get_or v (n + 1) 0 = grind (arith, common_steps) in
    let h' = rw (at_n, at_k) at h in
    bare_is v n len ∙ (ap (λ (l : List ℕ). take n v ++ l) (pair_kept (get_or v n 0) (get_or v (n + 1) 0) h') ∙ sym (ends v n len))

pub cut : (v s post : List ℕ) (n k : ℕ) → s ≡ v → length v ≡ n + 2 → k ≡ n + 1
    → get_or (s ++ post) k 0 ≡ 0 → 128 ≤ get_or (s ++ post) n 0 → get_or (s ++ post) n 0 ≢ 251
    → take k (set (s ++ post) n (get_or (s ++ post) n 0 - 128)) ≡ bare v
cut v s post n k e len is none code other =
    let at_n : get_or (s ++ post) n 0 ≡ get_or v n 0 = grind (arith, common_steps) in
    let at_k : get_or (s ++ post) k 0 ≡ get_or v (n + 1) 0 = grind (arith, common_steps) in
    let lt : n < length (s ++ post) = grind (arith, common_steps) in
    let taken : take n (s ++ post) ≡ take n v = grind (arith, common_steps) in
    take-set_at (s ++ post) n k (get_or (s ++ post) n 0 - 128) is lt
    ∙ (ap (λ (l : List ℕ). l ++ ((get_or (s ++ post) n 0 - 128) ∷ [])) taken
    ∙ (ap (λ (x : ℕ). take n v ++ ((x - 128) ∷ [])) at_n
    ∙ (ap (λ (l : List ℕ). take n v ++ l) (sym (pair_cut (get_or v n 0) (get_or v (n + 1) 0) (sym at_k ∙ none)
    (rw at_n at code) (rw at_n at other))) ∙ sym (bare_is v n len))))

-- ---- long ones

pub length_bare : (v : List ℕ) → length v ≤ length (bare v) + 1
length_bare [] = omega arith
length_bare (a ∷ []) = omega arith
length_bare (a ∷ b ∷ []) = grind (arith, nat_tests)
length_bare (a ∷ b ∷ d ∷ v) = let h = length_bare (b ∷ d ∷ v) in omega (arith, h)

lies_not : (v : List ℕ) (r : Row) → 2 < length v → nat_le (length r.before) 1 ≡ true → lies_in v r ≡ false
lies_not v r long e = grind (arith, nat_tests)

miss : {X : Type 0} (b : Bool) (x : X) (o : Option X) → b ≡ false → (if b then Some x else o) ≡ o
miss true x o e = grind arith
miss false x o e = refl

none_of : (v : List ℕ) (rows : List Row) → 2 < length v → list_all (λ (r : Row). nat_le (length r.before) 1) rows ≡ true
    → find (lies_in v) rows ≡ None
none_of v [] long e = refl
none_of v (r ∷ rows) long e = miss (lies_in v r) r (find (lies_in v) rows) (lies_not v r long (and_parts _ _ e).0) ∙ none_of v rows long (and_parts _ _ e).1

pub long_none : (v : List ℕ) → 2 < length v → row_of v ≡ None
unfolding row_of
long_none v long = none_of v table long refl

-- ---- byte by byte

pub step : (b : ℕ) (rest : List ℕ) → 2 ≤ length rest → bare (b ∷ rest) ≡ b ∷ bare rest
step b [] two = absurd (omega arith)
step b (x ∷ []) two = absurd (omega arith)
step b (x ∷ y ∷ rest) two = refl

pub not_empty : (b : ℕ) (rest : List ℕ) → bytes_eq (bare (b ∷ rest)) [] ≡ false
not_empty b [] = refl
not_empty b (x ∷ []) = grind (arith, nat_tests)
not_empty b (x ∷ y ∷ rest) = refl

-- ---- a code in two bytes

pub one_byte : (room : List ℕ) (x : ℕ) → length room ≡ 2 → take 1 (set room 0 x) ≡ x ∷ []
one_byte [] x two = absurd (omega arith)
one_byte (a ∷ room) x two = refl

pub two_bytes : (room : List ℕ) (x y : ℕ) → length room ≡ 2 → set (set room 0 x) 1 y ≡ x ∷ y ∷ []
two_bytes [] x y two = absurd (omega arith)
two_bytes (a ∷ []) x y two = absurd (omega arith)
two_bytes (a ∷ b ∷ []) x y two = refl
two_bytes (a ∷ b ∷ d ∷ room) x y two = absurd (omega arith)

pub nil : {X : Type 0} (xs : List X) → length xs ≡ 0 → xs ≡ []
nil [] e = refl
nil (x ∷ xs) e = absurd (omega (arith, e))

pub no_more : (vib named : List ℕ) (b : ℕ) (rest : List ℕ) → vib ≡ b ∷ rest → length named ≡ 0 → bytes_eq (bare vib) named ≡ false
no_more vib named b rest is empty = rw (is, nil named empty) (not_empty b rest)

pub more : (vib named : List ℕ) (b : ℕ) (rest : List ℕ) (w : ℕ) (others : List ℕ) → vib ≡ b ∷ rest → named ≡ w ∷ others
    → 2 ≤ length rest → bytes_eq (bare vib) named ≡ ((b == w) && bytes_eq (bare rest) others)
more vib named b rest w others is is_named two = rw (is, is_named, step b rest two) refl

pub at_end : (vib named : List ℕ) → length vib ≡ 0 → bytes_eq (bare vib) named ≡ (length named == 0)
at_end vib [] empty = rw (nil vib empty) refl
at_end vib (x ∷ named) empty = rw (nil vib empty) (grind (arith, nat_tests))
