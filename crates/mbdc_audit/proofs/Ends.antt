-- Checks of ends, one after another.
use Rattle.std.proofs.Common.{◌≡◌, ◌↔◌, ◌<◌, ◌+◌, ℕ, List, [], ◌∷◌, ◌++◌, length, take, get_or, sym, ap, ◌∙◌, subst, append_assoc, append-nil}
use Rattle.std.proofs.Common.{Option, IsTrue, All, flat_map}
use Rattle.std.proofs.lemmas.List.Concat.{flat_map-append}
use Rattle.std.proofs.lemmas.List.{get_or_default, take_all}
use Rattle.std.proofs.Common.{◌≤◌}
use Rattle.mbdc_audit.specs.House.{End}
use Rattle.mbdc_audit.specs.Sound.{Agree}
use Rattle.mbdc_audit.specs.Walk.{IsSeen, Walks, is_clean}
use Rattle.mbdc_audit.specs.declared.teller.Counts.{Counts}
use Rattle.mbdc_audit.proofs.Checks.{took}

agree_append : (seen es fs : List End) → Agree seen (es ++ fs) ↔ (Agree seen es × Agree (seen ++ es) fs)
agree_append seen [] fs =
    let e = append-nil seen in
    (λ a. (tt, subst (λ (s : List End). Agree s fs) (sym e) a), λ r. subst (λ (s : List End). Agree s fs) e r.1)
agree_append seen (e ∷ es) fs =
    let more = agree_append (seen ++ e ∷ []) es fs in
    let joined : (seen ++ e ∷ []) ++ es ≡ seen ++ (e ∷ es) = append_assoc seen (e ∷ []) es in (
      λ a. let b = more.0 a.4 in ((a.0, a.1, a.2, a.3, b.0), subst (λ (s : List End). Agree s fs) joined b.1),
      λ r. (r.0.0, r.0.1, r.0.2, r.0.3, more.1 (r.0.4, subst (λ (s : List End). Agree s fs) (sym joined) r.1)),
    )

module _ {a b c : Counts} {l m n : ℕ → Option ℕ} {es fs : List End} {P Q : Type 0} where
  pub walks_then : Walks a l b m es P → Walks b m c n fs Q → Walks a l c n (es ++ fs) (P × Q)
  walks_then f g = record {
    exact = λ seen start.
        let x = f.exact seen start in
        let y = g.exact (seen ++ es) (f.seen seen start) in
        let both = agree_append seen es fs in (
          λ clean. let q = y.0 clean in let p = x.0 q.0 in (p.0, (p.1, q.1), both.1 (p.2, q.2)),
          λ r. let agree = both.0 r.2 in y.1 (x.1 (r.0, r.1.0, agree.0), r.1.1, agree.1),
        );
    seen = λ seen start clean.
        let y = g.exact (seen ++ es) (f.seen seen start) in
        subst (λ (s : List End). IsSeen n s) (append_assoc seen es fs)
        (g.seen (seen ++ es) (f.seen seen start) clean);
  }

pub walks_same : {a b : Counts} {l m : ℕ → Option ℕ} {es : List End} {P Q : Type 0} → P ↔ Q → Walks a l b m es P → Walks a l b m es Q
walks_same e f = record {
  exact = λ seen start. let x = f.exact seen start in
      (λ clean. let p = x.0 clean in (p.0, e.0 p.1, p.2), λ r. x.1 (r.0, e.1 r.1, r.2));
  seen = f.seen;
}

-- a check that looks at no end
pub walks_by : {a b : Counts} (m : ℕ → Option ℕ) {P : Type 0} → IsTrue (is_clean b) ↔ (IsTrue (is_clean a) × P) → Walks a m b m [] P
walks_by m f = record {
  exact = λ seen start. (λ clean. let p = f.0 clean in (p.0, p.1, tt), λ r. f.1 (r.0, r.1));
  seen = λ seen start clean. subst (λ (s : List End). IsSeen m s) (sym (append-nil seen)) (start (f.0 clean).0);
}

pub walks_nothing : (a : Counts) (m : ℕ → Option ℕ) {P : Type 0} → P → Walks a m a m [] P
walks_nothing a m p = walks_by m (λ clean. (clean, p), λ r. r.0)

pub walks_ends : {a b : Counts} {l m : ℕ → Option ℕ} {es fs : List End} {P : Type 0} → es ≡ fs → Walks a l b m es P → Walks a l b m fs P
walks_ends {a} {b} {l} {m} {P = P} e f = subst (λ (x : List End). Walks a l b m x P) e f

pub flat_more : {X : Type 0} (f : X → List End) (xs : List X) (i : ℕ) (x : X) → i < length xs → x ≡ get_or xs i x
    → flat_map f (take i xs) ++ f x ≡ flat_map f (take (i + 1) xs)
flat_more {X} f xs i x below is =
    ap (λ (es : List End). flat_map f (take i xs) ++ es) (sym (append-nil (f x)))
    ∙ (sym (flat_map-append f (take i xs) (x ∷ [])) ∙ ap (λ (ys : List X). flat_map f ys) (sym (took xs i x below is)))

-- one more of a list
pub walks_more : {X : Type 0} {a b c : Counts} {l m n : ℕ → Option ℕ} {P Q R : Type 0} (f : X → List End) (xs : List X) (i : ℕ)
    (x : X) → i < length xs → x ≡ get_or xs i x → (P × Q) ↔ R → Walks a l b m (flat_map f (take i xs)) P → Walks b m c n (f x) Q
    → Walks a l c n (flat_map f (take (i + 1) xs)) R
walks_more f xs i x below is e before one =
    walks_ends (flat_more f xs i x below is) (walks_same e (walks_then before one))

pub walks_at : {X : Type 0} {a b c : Counts} {l m n : ℕ → Option ℕ} {P Q R : Type 0} (f : X → List End) (xs : List X) (i : ℕ)
    (d : X) → i < length xs → (P × Q) ↔ R → Walks a l b m (flat_map f (take i xs)) P → Walks b m c n (f (get_or xs i d)) Q
    → Walks a l c n (flat_map f (take (i + 1) xs)) R
walks_at f xs i d below e before one =
    walks_more f xs i (get_or xs i d) below (get_or_default xs i d (get_or xs i d) below) e before one

pub walks_to : {a b : Counts} {l m : ℕ → Option ℕ} {es fs : List End} (N : End → Type 0) → es ≡ fs → Walks a l b m es (All N es)
    → Walks a l b m fs (All N fs)
walks_to {a} {b} {l} {m} N e f = subst (λ (x : List End). Walks a l b m x (All N x)) e f

pub walks_all : {X : Type 0} {a b : Counts} {l m : ℕ → Option ℕ} {P Q : Type 0} (f : X → List End) (xs : List X) (i : ℕ)
    → length xs ≤ i → P ↔ Q → Walks a l b m (flat_map f (take i xs)) P → Walks a l b m (flat_map f xs) Q
walks_all {X} f xs i past e w = walks_ends (ap (λ (ys : List X). flat_map f ys) (take_all i xs past)) (walks_same e w)
