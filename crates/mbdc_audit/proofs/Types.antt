-- Device types of uses.
use Rattle.std.proofs.Common.{arith, ◌≡◌, ◌≢◌, ◌↔◌, ◌<◌, ◌⊎◌, inl, inr, ◌&&◌, ◌||◌, ℕ, zero, suc, List, [], ◌∷◌, length, get_or, refl, sym, ◌∙◌, ap, subst}
use Rattle.std.proofs.Common.{Bool, true, false, not, IsTrue, Contains, codes, bytes_eq, eqb, eqb-true, eq-eqb}
use Rattle.std.specs.List.{list_any}
use Rattle.std.specs.Cmp.Lexicographic.{bytes_decides}
use Rattle.std.proofs.Common.{◌≤◌, ◌+◌}
use Rattle.std.proofs.lemmas.Bool.{cases_lt, true≢false}
use Rattle.std.proofs.lemmas.Bool.Decides.{nat_tests}
use Rattle.mbdc_audit.specs.House.{Run}
use Rattle.mbdc_audit.specs.Sound.{IsType, types}
use Rattle.mbdc_audit.proofs.Checks.{through}

-- ---- tests

and_to : (a b : Bool) → (a && b) ≡ true → (a ≡ true) × (b ≡ true)
and_to true b e = (refl, e)
and_to false b e = absurd (true≢false (sym e))

and_from : (a b : Bool) → a ≡ true → b ≡ true → (a && b) ≡ true
and_from a b e f = subst (λ (x : Bool). (x && b) ≡ true) (sym e) f

or_to : (a b : Bool) → (a || b) ≡ true → (a ≡ true) ⊎ (b ≡ true)
or_to true b e = inl refl
or_to false b e = inr e

or_from : (a b : Bool) → (a ≡ true) ⊎ (b ≡ true) → (a || b) ≡ true
or_from true b s = refl
or_from false b (inl e) = absurd (true≢false (sym e))
or_from false b (inr e) = e

or_none : (a : Bool) → (a || false) ≡ a
or_none true = refl
or_none false = refl

-- ---- a table

cons_to : {X : Type 0} (x y : X) (xs : List X) (k : ℕ) → k < length (x ∷ xs) → get_or (x ∷ xs) k y ≡ y → (x ≡ y) ⊎ Contains xs y
cons_to x y xs zero below is = inl is
cons_to x y xs (suc k) below is = inr (k, omega arith, is)

cons_from : {X : Type 0} (x y : X) (xs : List X) → (x ≡ y) ⊎ Contains xs y → Contains (x ∷ xs) y
cons_from x y xs (inl is) = (0, omega arith, is)
cons_from x y xs (inr c) = (suc c.0, omega (arith, c.1), c.2)

abbrev pub row_is : List ℕ → ℕ → List ℕ × ℕ → Bool
row_is name kind row = eqb row.1 kind && bytes_eq name row.0

same_pair : (a c : List ℕ) (b d : ℕ) → a ≡ c → b ≡ d → ◌≡◌ {A = List ℕ × ℕ} (a, b) (c, d)
same_pair a c b d e f = ap (λ (x : List ℕ). (x, b)) e ∙ ap (λ (y : ℕ). (c, y)) f

row_to : (name : List ℕ) (kind : ℕ) (row : List ℕ × ℕ) → row_is name kind row ≡ true → row ≡ (name, kind)
row_to name kind row e =
    let p = and_to (eqb row.1 kind) (bytes_eq name row.0) e in
    same_pair row.0 name row.1 kind (sym ((bytes_decides name row.0).0 p.1)) (eqb-true row.1 kind p.0)

row_from : (name : List ℕ) (kind : ℕ) (row : List ℕ × ℕ) → row ≡ (name, kind) → row_is name kind row ≡ true
row_from name kind row e =
    and_from (eqb row.1 kind) (bytes_eq name row.0) (eq-eqb row.1 kind (ap (λ (r : List ℕ × ℕ). r.1) e))
    ((bytes_decides name row.0).1 (sym (ap (λ (r : List ℕ × ℕ). r.0) e)))

listed : (name : List ℕ) (kind : ℕ) (t : List (List ℕ × ℕ)) → IsTrue (list_any (row_is name kind) t) ↔ Contains t (name, kind)
listed name kind [] = (λ e. absurd (true≢false (sym e)), λ c. absurd (omega (arith, c.1)))
listed name kind (row ∷ t) =
    let more = listed name kind t in (
      λ e. cons_from row (name, kind) t (step_to more (or_to (row_is name kind row) (list_any (row_is name kind) t) e)),
      λ c. or_from (row_is name kind row) (list_any (row_is name kind) t) (step_from more (cons_to row (name, kind) t c.0 c.1 c.2)),
    )
  where
    step_to : IsTrue (list_any (row_is name kind) t) ↔ Contains t (name, kind) → (row_is name kind row ≡ true) ⊎ (list_any (row_is name kind) t ≡ true)
        → (row ≡ (name, kind)) ⊎ Contains t (name, kind)
    step_to more (inl e) = inl (row_to name kind row e)
    step_to more (inr e) = inr (more.0 e)

    step_from : IsTrue (list_any (row_is name kind) t) ↔ Contains t (name, kind) → (row ≡ (name, kind)) ⊎ Contains t (name, kind)
        → (row_is name kind row ≡ true) ⊎ (list_any (row_is name kind) t ≡ true)
    step_from more (inl e) = inl (row_from name kind row e)
    step_from more (inr e) = inr (more.1 e)

-- ---- types

abbrev pub counts : List ℕ → ℕ → Bool → Bool
counts name kind named = list_any (row_is name kind) types || (eqb kind 13 && (bytes_eq name (codes "cooling") && named))

pub typed : (name : List ℕ) (r : Run) (named : Bool) → IsTrue named ↔ (r.vib ≢ []) → IsTrue (counts name r.identity.kind named) ↔ IsType name r
typed name r named n = (
  λ e. to (or_to (list_any (row_is name r.identity.kind) types) (eqb r.identity.kind 13 && (bytes_eq name (codes "cooling") && named)) e),
  λ t. or_from (list_any (row_is name r.identity.kind) types) (eqb r.identity.kind 13 && (bytes_eq name (codes "cooling") && named)) (of t),
)
  where
    to : (list_any (row_is name r.identity.kind) types ≡ true) ⊎ ((eqb r.identity.kind 13 && (bytes_eq name (codes "cooling") && named)) ≡ true) → IsType name r
    to (inl e) = inl ((listed name r.identity.kind types).0 e)
    to (inr e) =
        let p = and_to (eqb r.identity.kind 13) (bytes_eq name (codes "cooling") && named) e in
        let q = and_to (bytes_eq name (codes "cooling")) named p.1 in
        inr ((bytes_decides name (codes "cooling")).0 q.0, eqb-true r.identity.kind 13 p.0, n.0 q.1)

    of : IsType name r → (list_any (row_is name r.identity.kind) types ≡ true) ⊎ ((eqb r.identity.kind 13 && (bytes_eq name (codes "cooling") && named)) ≡ true)
    of (inl c) = inl ((listed name r.identity.kind types).1 c)
    of (inr c) = inr (and_from (eqb r.identity.kind 13) (bytes_eq name (codes "cooling") && named) (eq-eqb r.identity.kind 13 c.1)
        (and_from (bytes_eq name (codes "cooling")) named ((bytes_decides name (codes "cooling")).1 c.0) (n.1 c.2)))

abbrev pub named_of : List ℕ → Bool
named_of [] = false
named_of (b ∷ bs) = true

pub named_is : (vib : List ℕ) → IsTrue (named_of vib) ↔ (vib ≢ [])
named_is [] = (λ e. absurd (true≢false (sym e)), λ n. absurd (n refl))
named_is (b ∷ bs) = (λ e q. absurd cc, λ n. refl)

-- a device type that counts nothing else than what a word names
pub one_word : (name : List ℕ) (r : Run) (kind : ℕ) (b w : Bool) → r.identity.kind ≡ kind → b ≡ w
    → counts name kind (named_of r.vib) ≡ ((w || false) || false) → IsTrue b ↔ IsType name r
one_word name r kind b w is word e =
    let same : counts name r.identity.kind (named_of r.vib) ≡ b =
    ap (λ (k : ℕ). counts name k (named_of r.vib)) is ∙ (e ∙ (or_none (w || false) ∙ (or_none w ∙ sym word))) in
    through (λ t. same ∙ t, λ t. sym same ∙ t) (typed name r (named_of r.vib) (named_is r.vib))

-- the same of two types
pub one_of_two : (name : List ℕ) (r : Run) (kind other : ℕ) (b w : Bool) → (r.identity.kind ≡ kind) ⊎ (r.identity.kind ≡ other) → b ≡ w
    → counts name kind (named_of r.vib) ≡ ((w || false) || false) → counts name other (named_of r.vib) ≡ ((w || false) || false)
    → IsTrue b ↔ IsType name r
one_of_two name r kind other b w (inl is) word e f = one_word name r kind b w is word e
one_of_two name r kind other b w (inr is) word e f = one_word name r other b w is word f

-- a meter of heat and cooling
pub heat_or_cooling : (name : List ℕ) (r : Run) (b h c : Bool) (v : Bool) → r.identity.kind ≡ 13 → h ≡ bytes_eq name (codes "heat")
    → c ≡ bytes_eq name (codes "cooling") → IsTrue v ↔ (r.vib ≢ []) → b ≡ (h || (c && v)) → IsTrue b ↔ IsType name r
heat_or_cooling name r b h c v is heat cooling n e =
    let same : counts name r.identity.kind v ≡ b =
    ap (λ (k : ℕ). counts name k v) is ∙ (ap (λ (x : Bool). x || (bytes_eq name (codes "cooling") && v)) (or_none (bytes_eq name (codes "heat")))
    ∙ (ap (λ (x : Bool). x || (bytes_eq name (codes "cooling") && v)) (sym heat) ∙ (ap (λ (x : Bool). h || (x && v)) (sym cooling) ∙ sym e))) in
    through (λ t. same ∙ t, λ t. sym same ∙ t) (typed name r v n)

pub left_true : (h x : Bool) → h ≡ true → h ≡ (h || x)
left_true h x e = e ∙ sym (or_from h x (inl e))

pub right_is : (h c v : Bool) → h ≡ false → c ≡ true → v ≡ (h || (c && v))
right_is h c v e f = sym (ap (λ (x : Bool). x || (c && v)) e ∙ ap (λ (x : Bool). x && v) f)

pub not_empty : (vib : List ℕ) (e : Bool) → e ≡ eqb (length vib) 0 → IsTrue (not e) ↔ (vib ≢ [])
not_empty vib e is = (λ t. to vib (sym (ap not is) ∙ t), λ n. ap not is ∙ of vib n)
  where
    to : (vib : List ℕ) → not (eqb (length vib) 0) ≡ true → vib ≢ []
    to [] t = absurd (true≢false (sym t))
    to (b ∷ bs) t = λ q. absurd cc

    of : (vib : List ℕ) → vib ≢ [] → not (eqb (length vib) 0) ≡ true
    of [] n = absurd (n refl)
    of (b ∷ bs) n = grind (arith, nat_tests)

pub one_or_next : (k n : ℕ) → n ≤ k → k < n + 2 → (k ≡ n) ⊎ (k ≡ n + 1)
one_or_next k n le lt = by_cases (cases_lt k (n + 1))
  where
    by_cases : (k < n + 1) ⊎ (n + 1 ≤ k) → (k ≡ n) ⊎ (k ≡ n + 1)
    by_cases (inl a) = inl (omega arith)
    by_cases (inr a) = inr (omega arith)
