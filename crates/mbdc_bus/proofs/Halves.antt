-- Waiting for answers.
use Rattle.std.proofs.Common.{◌≡◌, ℕ, ◌+◌, Bool, true, false, List, [], ◌∷◌, ◌++◌, Option, Some, None, IfSome, IfNone, is_some, not, refl, subst}
use Rattle.mbdc_bus.specs.Halves.{Runs, rests, gave, waited}

module _ {B : Type 0} (gives : B → List ℕ → B → Type 0) (waits : B → B → Type 0) where
  -- answers one after the other, and then others
  pub runs-append : {old between new : B} {front back : List (List ℕ)} → Runs gives waits old front between → Runs gives waits between back new → Runs gives waits old (front ++ back) new
  runs-append {new = new} {back = back} (rests same) second = subst (λ (b : B). Runs gives waits b back new) same second
  runs-append (gave step more) second = gave step (runs-append more second)
  runs-append (waited step more) second = waited step (runs-append more second)

  -- what was received so far: nothing, or the answer
  abbrev pub HasHeard : B → Option (List ℕ) → B → Type 0
  HasHeard old None now = Runs gives waits old [] now
  HasHeard old (Some answer) now = Runs gives waits old (answer ∷ []) now

  pub heard_one : (old new : B) (heard : Option (List ℕ)) → IfSome heard (λ answer. gives old answer new) → IfNone heard (waits old new) → HasHeard old heard new
  heard_one old new None some none = waited none (rests refl)
  heard_one old new (Some answer) some none = gave some (rests refl)

  pub heard_then : (old now new : B) (before heard : Option (List ℕ)) → HasHeard old before now → before ≡ None → HasHeard now heard new → HasHeard old heard new
  heard_then old now new None None so is step = runs-append so step
  heard_then old now new None (Some answer) so is step = runs-append so step
  heard_then old now new (Some x) heard so is step = absurd cc

pub none_of : {X : Type 0} (x : Option X) → not (is_some x) ≡ true → x ≡ None
none_of None is = refl
none_of (Some x) is = absurd cc

pub is_none_of : {X : Type 0} (x : Option X) (test : Bool) → is_some x ≡ not test → test ≡ true → not (is_some x) ≡ true
is_none_of None test is e = refl
is_none_of (Some x) true is e = absurd cc
is_none_of (Some x) false is e = absurd cc

-- one more step while nothing was received
abbrev pub and_open : {X : Type 0} → Option X → ℕ → ℕ
and_open None left = left + 1
and_open (Some x) left = left
