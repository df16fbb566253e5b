-- The use that a name means.
use Rattle.std.proofs.Common.{arith, ◌≡◌, ◌≢◌, ◌+◌, ◌<◌, ◌≤◌, false, ℕ, List, [], ◌∷◌, length, map, get_or, cond, not, Bool, Option, None, Some, refl, sym, ap, subst, ◌∙◌}
use Rattle.std.specs.Prelude.{All, position}
use Rattle.std.proofs.lemmas.Bool.{false≢true}
use Rattle.std.proofs.lemmas.Bool.Decides.{nat_tests}
use Rattle.std.proofs.lemmas.List.Sums.{fails_before_first}
use Rattle.std.specs.List.{position_or_len}
use Rattle.std.specs.Option.{option_map}
use Rattle.std.specs.Str.{bytes_eq}
use Rattle.std.proofs.lemmas.List.{length-map}
use Rattle.std.proofs.lemmas.List.Quantifiers.{position-Some}
use Rattle.std.proofs.lemmas.Option.{same_Some, slice_get-map, slice_get-get_or}
use Rattle.std.proofs.lemmas.Slice.Eq.{bytes_eq-Decides}
use Rattle.mbdc_audit.specs.House.{House, Use}
use Rattle.mbdc_audit.specs.declared.house.Use as use_type
use Rattle.mbdc_audit.specs.declared.uses.Counted.TheVariants.{Energy}
use Rattle.mbdc_audit.specs.File.{name, or_empty}
use Rattle.mbdc_audit.specs.File.{first_named, IsMeant}
use Rattle.mbdc_audit.specs.View.{use_of}

places : {X Y : Type 0} (p : Y → Bool) (f : X → Y) (xs : List X) → position_or_len p (map f xs) ≡ position_or_len (λ x. p (f x)) xs
places p f [] = refl
places p f (x ∷ xs) = ap (λ (n : ℕ). cond (not (p (f x))) (1 + n) 0) (places p f xs)

position-map : {X Y : Type 0} (p : Y → Bool) (f : X → Y) (xs : List X) → position p (map f xs) ≡ position (λ x. p (f x)) xs
position-map p f xs = rw (places p f xs, length-map xs f) refl

-- as the code has the uses
pub first_of : (h : House) (us : List use_type.Use) (t : List ℕ) → h.uses ≡ map use_of us
    → first_named h t ≡ position (λ u. bytes_eq u.name.now t) us
unfolding first_named
first_of h us t is = ap (λ (vs : List Use). position (λ (u : Use). bytes_eq u.name t) vs) is
    ∙ position-map (λ (u : Use). bytes_eq u.name t) use_of us

pub no_use : Use
no_use = record { name = []; counts = Energy }

pub name_at : (h : House) (n : ℕ) → n < length h.uses → name h n ≡ (get_or h.uses n no_use).name
name_at h n lt = ap or_empty (slice_get-map (λ (u : Use). u.name) h.uses n
    ∙ ap (λ (o : Option Use). option_map (λ (u : Use). u.name) o) (slice_get-get_or h.uses n no_use lt))

pub named_there : (h : House) (t : List ℕ) (n : ℕ) → first_named h t ≡ Some n → n < length h.uses
unfolding first_named
named_there h t n is = (position-Some (λ (u : Use). bytes_eq u.name t) h.uses n no_use is).0

pub named_is : (h : House) (t : List ℕ) (n : ℕ) → first_named h t ≡ Some n → t ≡ name h n
unfolding first_named
named_is h t n is =
    let at = position-Some (λ (u : Use). bytes_eq u.name t) h.uses n no_use is in
    sym (name_at h n at.0 ∙ (bytes_eq-Decides (get_or h.uses n no_use).name t).0 at.1)

pub named_meant : (h : House) (t : List ℕ) (n : ℕ) → first_named h t ≡ Some n → IsMeant h n
named_meant h t n is = subst (λ (s : List ℕ). first_named h s ≡ Some n) (named_is h t n is) is

pub one_meant : (h : House) (t : List ℕ) (n m : ℕ) → first_named h t ≡ Some n → t ≡ name h m → IsMeant h m → n ≡ m
one_meant h t n m named is meant =
    let e : Some n ≡ Some m = sym named ∙ (ap (first_named h) is ∙ meant) in cc

-- ---- no use

position_none : {X : Type 0} (p : X → Bool) (xs : List X) → position p xs ≡ None → All (λ x. p x ≡ false) xs
position_none p xs none k d lt =
    let past : length xs ≤ position_or_len p xs = grind (arith, nat_tests) in
    fails_before_first p xs k d (omega arith)

apart : (t : List ℕ) (u : Use) → bytes_eq u.name t ≡ false → u.name ≢ t
apart t u wrong same = absurd (false≢true (sym wrong ∙ (bytes_eq-Decides u.name t).1 same))

pub none_named : (h : House) (t : List ℕ) → first_named h t ≡ None → All (λ u. u.name ≢ t) h.uses
unfolding first_named
none_named h t none k d lt = apart t (get_or h.uses k d) (position_none (λ (u : Use). bytes_eq u.name t) h.uses none k d lt)

pub named_twice : (h : House) (t : List ℕ) (n : ℕ) → first_named h t ≡ Some n → All (λ u. u.name ≢ t) h.uses → ⊥
unfolding first_named
named_twice h t n is none =
    let at = position-Some (λ (u : Use). bytes_eq u.name t) h.uses n no_use is in
    none n no_use at.0 ((bytes_eq-Decides (get_or h.uses n no_use).name t).0 at.1)

pub meant_by : (h : House) (n : ℕ) → IsMeant h n → (m : ℕ) → Some n ≡ Some m → IsMeant h m
meant_by h n meant m is = subst (λ (k : ℕ). IsMeant h k) (same_Some n m is) meant

-- one text names one use
pub one_name : (h : House) (t : List ℕ) (n m : ℕ) → t ≡ name h n → t ≡ name h m → IsMeant h n → IsMeant h m → n ≡ m
one_name h t n m is is' meant meant' = one_meant h t n m (ap (first_named h) is ∙ meant) is' meant'
