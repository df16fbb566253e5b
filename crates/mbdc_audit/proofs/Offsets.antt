-- The offsets of days that were seen.
use Rattle.std.proofs.Common.{arith, ◌≡◌, ◌↔◌, ◌≤◌, ◌%◌, ℕ, List, [], ◌∷◌, ◌++◌, get_or, refl, sym, ap, ◌∙◌, eqb}
use Rattle.std.proofs.Common.{Option, Some, None, IfSome, IsTrue, All, Any, Bool, true, false}
use Rattle.std.proofs.lemmas.List.Quantifiers.{Any-push}
use Rattle.std.proofs.lemmas.List.Elements.{All-push}
use Rattle.std.proofs.lemmas.Option.{same_Some, none-some}
use Rattle.std.proofs.lemmas.Bool.Decides.{nat_tests}
use Rattle.std.specs.Ordering.{nat_cmp}
use Rattle.std.proofs.Common.{rules}
use Rattle.std.specs.BTreeMap.{BTreeMap, IsEmpty, get, is_at}
use Rattle.mbdc_audit.specs.House.{End}
use Rattle.mbdc_audit.specs.Sound.{Agree}
use Rattle.mbdc_audit.specs.Walk.{IsSeen, Walks, is_clean}
use Rattle.mbdc_audit.specs.declared.teller.Counts.{Counts}
use Rattle.mbdc_audit.proofs.Checks.{any_all, any_push_left}

-- the offset of a day is the one that was seen
abbrev pub IsSame : Option ℕ → ℕ → Type 0
IsSame o offset = IfSome o (λ x. x ≡ offset)

same_at : (o : Option ℕ) (a offset : ℕ) → o ≡ Some a → IsSame o offset → a ≡ offset
same_at None a offset e is = absurd (none-some a e)
same_at (Some x) a offset e is = same_Some a x (sym e) ∙ is

module _ (m : ℕ → Option ℕ) (seen : List End) (is : IsSeen m seen) (e : End) where
  all_same : IsSame (m e.day) e.offset → All (λ a. a.day ≡ e.day → a.offset ≡ e.offset) seen
  all_same one k d below same =
      same_at (m e.day) (get_or seen k d).offset e.offset (ap m (sym same) ∙ is.each k d below) one

  one_same : All (λ a. a.day ≡ e.day → a.offset ≡ e.offset) seen → IsSame (m e.day) e.offset
  one_same all = at_day (m e.day) refl
    where
      at_day : (o : Option ℕ) → m e.day ≡ o → IsSame o e.offset
      at_day None f = tt
      at_day (Some x) f =
          let a = any_all (λ a. (a.day ≡ e.day) × (a.offset ≡ x)) (λ a. a.day ≡ e.day → a.offset ≡ e.offset) seen (is.only e.day x f) all in
          sym a.1.1 ∙ a.2 a.1.0

abbrev pub IsOffset : ℕ → Type 0
IsOffset o = (9240 ≤ o) × (o ≤ 10920) × (o % 15 ≡ 0)

pub agree_one : (m : ℕ → Option ℕ) (seen : List End) → IsSeen m seen → (e : End)
    → (IsOffset e.offset × IsSame (m e.day) e.offset) ↔ Agree seen (e ∷ [])
agree_one m seen is e = (
  λ r. (r.0.0, r.0.1, r.0.2, all_same m seen is e r.1, tt),
  λ a. ((a.0, a.1, a.2), one_same m seen is e a.3),
)

-- the offset of a day is known from then on
pub record Adds (m : ℕ → Option ℕ) (day offset : ℕ) (n : ℕ → Option ℕ) : Type 0 where
  pub hit : n day ≡ Some offset
  pub miss : (q : ℕ) → eqb q day ≡ false → n q ≡ m q

module _ (m n : ℕ → Option ℕ) (seen : List End) (is : IsSeen m seen) (e : End) (adds : Adds m e.day e.offset n)
    (all : All (λ a. a.day ≡ e.day → a.offset ≡ e.offset) seen) where
  at_old : (a : End) → m a.day ≡ Some a.offset → (a.day ≡ e.day → a.offset ≡ e.offset) → (b : Bool) → eqb a.day e.day ≡ b → n a.day ≡ Some a.offset
  at_old a old same true q =
      let day : a.day ≡ e.day = grind (arith, nat_tests) in
      ap n day ∙ (adds.hit ∙ ap (λ (o : ℕ). Some o) (sym (same day)))
  at_old a old same false q = adds.miss a.day q ∙ old

  only_old : (day o : ℕ) → n day ≡ Some o → (b : Bool) → eqb day e.day ≡ b → Any (λ a. (a.day ≡ day) × (a.offset ≡ o)) (seen ++ e ∷ [])
  only_old day o f true q =
      let same : day ≡ e.day = grind (arith, nat_tests) in
      Any-push (λ a. (a.day ≡ day) × (a.offset ≡ o)) seen e (sym same, same_Some e.offset o (sym adds.hit ∙ (ap n (sym same) ∙ f)))
  only_old day o f false q =
      any_push_left (λ a. (a.day ≡ day) × (a.offset ≡ o)) seen e (is.only day o (sym (adds.miss day q) ∙ f))

  pub seen_more : IsSeen n (seen ++ e ∷ [])
  seen_more = record {
    each = All-push (λ a. n a.day ≡ Some a.offset) seen e
        (λ k d below. at_old (get_or seen k d) (is.each k d below) (all k d below) (eqb (get_or seen k d).day e.day) refl) adds.hit;
    only = λ day o f. only_old day o f (eqb day e.day) refl;
  }

pub other_key : (q day : ℕ) → eqb q day ≡ false → is_at (nat_cmp day) q ≡ false
other_key q day apart = grind (arith, nat_tests)

-- a check of an end
pub walks_one : (a b : Counts) (m n : ℕ → Option ℕ) (e : End) → Adds m e.day e.offset n
    → IsTrue (is_clean b) ↔ (IsTrue (is_clean a) × (IsOffset e.offset × IsSame (m e.day) e.offset)) → Walks a m b n (e ∷ []) (Unit {0})
walks_one a b m n e adds f = record {
  exact = λ seen start. (
    λ clean. let r = f.0 clean in (r.0, tt, (agree_one m seen (start r.0) e).0 r.1),
    λ r. f.1 (r.0, (agree_one m seen (start r.0) e).1 r.2),
  );
  seen = λ seen start clean. let r = f.0 clean in
      seen_more m n seen (start r.0) e adds ((agree_one m seen (start r.0) e).0 r.1).3;
}

pub no_entry : (m : BTreeMap ℕ ℕ) → IsEmpty m → (day : ℕ) → get nat_cmp m day ≡ None
no_entry m empty day = search rules
