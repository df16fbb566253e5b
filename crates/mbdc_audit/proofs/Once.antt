-- When two runs aren't of one meter at one time.
use Rattle.std.proofs.Common.{◌≡◌, ◌↔◌, ◌≤◌, ◌⊎◌, inl, inr, ℕ, Bool, true, false, IsTrue, Option, None, Some, arith}
use Rattle.std.proofs.lemmas.Bool.Decides.{nat_tests}
use Rattle.dc_address.specs.declared.identity.Identity.{Identity}
use Rattle.dc_address.proofs.Identities.{same_identity}
use Rattle.std.proofs.Common.{◌&&◌, eqb, ap, subst, refl, sym, ◌∙◌}
use Rattle.mbdc_audit.specs.Amount.{is_by}
use Rattle.std.proofs.Common.{◌+◌, List, slice_get}
use Rattle.std.proofs.lemmas.Option.{same_Some}
use Rattle.mbdc_audit.specs.House.{Run, Source, Value, anew as began, current, ended, first, last, put, stored}
use Rattle.mbdc_audit.specs.Kept.{is_anew}
use Rattle.mbdc_audit.specs.Sound.{AreApart, AreTwo, Fitted, IfAnew, IsAnew, IsOfEnd, IsOnce, IsOver, IsTimed, IsUntil}

pub not_over : (t : ℕ) (over : Option ℕ) → is_by t over ≡ false → IsOver over t → ⊥
not_over t None e o = o
not_over t (Some over) e o = grind (arith, nat_tests)

not_apart : (a b : Fitted) → is_by b.run.begin a.run.over ≡ false → is_by a.run.begin b.run.over ≡ false → AreApart a.run b.run → ⊥
not_apart a b e f (inl o) = not_over b.run.begin a.run.over e o
not_apart a b e f (inr o) = not_over a.run.begin b.run.over f o

two_of : (a b : Fitted) → is_by b.run.begin a.run.over ≡ false → is_by a.run.begin b.run.over ≡ false
    → AreApart a.run b.run ⊎ AreTwo a b → AreTwo a b
two_of a b e f (inl apart) = absurd (not_apart a b e f apart)
two_of a b e f (inr two) = two

pub once : (a b : Fitted) (r : Bool) → is_by b.run.begin a.run.over ≡ false → is_by a.run.begin b.run.over ≡ false
    → a.run.identity ≡ b.run.identity → IsTrue r ↔ AreTwo a b → IsTrue r ↔ IsOnce a b
once a b r e f is two = (λ t same. inr (two.0 t), λ o. two.1 (two_of a b e f (o is)))

abbrev pub is_meter : Identity → Identity → Bool
is_meter a b = eqb a.number b.number && (eqb a.maker b.maker && (eqb a.version b.version && eqb a.kind b.kind))

pub same_meter : (a b : Identity) → is_meter a b ≡ true → a ≡ b
same_meter a b e = same_identity a b (grind (arith, nat_tests)) (grind (arith, nat_tests)) (grind (arith, nat_tests)) (grind (arith, nat_tests))

is_itself : (a : Identity) → is_meter a a ≡ true
is_itself a = grind (arith, nat_tests)

pub is_same_meter : (a b : Identity) → a ≡ b → is_meter a b ≡ true
is_same_meter a b e = subst (λ (x : Identity). is_meter a x ≡ true) e (is_itself a)

same_some : {X : Type 0} (runs : List X) (i j : ℕ) (a b : X) → slice_get runs i ≡ Some a → slice_get runs j ≡ Some b → i ≡ j → a ≡ b
same_some {X} runs i j a b e f same = same_Some a b (sym e ∙ (ap (λ (n : ℕ). slice_get runs n) same ∙ f))

abbrev pub IsOneCounter : Run → Run → Type 0
IsOneCounter old new = (old.identity ≡ new.identity) × (old.vib ≡ new.vib) × (old.over ≡ Some new.begin)

pub if_anew : (s : Source) (r : Bool) (P : Type 0) → is_anew s ≡ true → IsTrue r ↔ P → IsTrue r ↔ IfAnew s P
if_anew began r P e f = f
if_anew (current bodies) r P e f = absurd cc
if_anew (stored day bodies) r P e f = absurd cc
if_anew (ended day bodies) r P e f = absurd cc
if_anew (put guess t) r P e f = absurd cc
if_anew (first guess t) r P e f = absurd cc
if_anew (last guess t) r P e f = absurd cc

pub unless_anew : (s : Source) (P : Type 0) → is_anew s ≡ false → IsTrue true ↔ IfAnew s P
unless_anew began P e = absurd cc
unless_anew (current bodies) P e = (λ t. tt, λ p. refl)
unless_anew (stored day bodies) P e = (λ t. tt, λ p. refl)
unless_anew (ended day bodies) P e = (λ t. tt, λ p. refl)
unless_anew (put guess t) P e = (λ t. tt, λ p. refl)
unless_anew (first guess t) P e = (λ t. tt, λ p. refl)
unless_anew (last guess t) P e = (λ t. tt, λ p. refl)

pub anew : (runs : List Run) (v : Value) (before : ℕ) (old new : Run) → v.run ≡ before + 1 → slice_get runs before ≡ Some old
    → slice_get runs v.run ≡ Some new → IsOneCounter old new ↔ IsAnew runs v
anew runs v before old new next old_is new_is = (
  λ one. record { before = before; is_next = next; old = old; new = new; old_is = old_is; new_is = new_is; one_meter = one },
  λ a.
      let first : a.old ≡ old = same_some runs a.before before a.old old a.old_is old_is (omega (arith, a.is_next, next)) in
      let second : a.new ≡ new = same_some runs v.run v.run a.new new a.new_is new_is refl in
      subst (λ (x : Run). IsOneCounter x new) first (subst (λ (x : Run). IsOneCounter a.old x) second a.one_meter),
)

pub timed : (runs : List Run) (v : Value) (run : Run) → slice_get runs v.run ≡ Some run
    → (IsOfEnd run v v.source × ((run.begin ≤ v.moment) × IsUntil v.moment run.over) × IfAnew v.source (IsAnew runs v))
    ↔ IsTimed runs v
timed runs v run at = (
  λ r. (run, at, r.1.0, r.1.1, r.0, r.2),
  λ t.
      let same : t.0 ≡ run = same_Some t.0 run (sym t.1 ∙ at) in (
        subst (λ (x : Run). IsOfEnd x v v.source) same t.4,
        (subst (λ (x : Run). x.begin ≤ v.moment) same t.2, subst (λ (x : Run). IsUntil v.moment x.over) same t.3),
        t.5,
      ),
)
