-- Values that are in order, each after the one before it.
use Rattle.std.proofs.Common.{arith, ◌≡◌, ◌↔◌, ◌<◌, ◌≤◌, ◌-◌, ◌⊎◌, inl, inr, ℕ, List, [], ◌∷◌, ◌++◌, length, get_or, sym, ◌∙◌, subst, All, AllPairs}
use Rattle.std.proofs.Common.{Option, IfSome, slice_get}
use Rattle.std.proofs.lemmas.Option.{slice_get-get_or}
use Rattle.std.proofs.lemmas.Bool.{cases_lt}
use Rattle.mbdc_audit.specs.declared.house.Value.{Value}
use Rattle.mbdc_audit.specs.Walk.{AreInOrder}
use Rattle.mbdc_audit.proofs.Checks.{pairs_push}

after : (a b c : Value) → AreInOrder a b → AreInOrder b c → AreInOrder a c
after a b c (inl l) (inl m) = inl (omega arith)
after a b c (inl l) (inr m) = inl (omega (arith, m.0))
after a b c (inr l) (inl m) = inl (omega (arith, l.0))
after a b c (inr l) (inr m) = inr (l.0 ∙ m.0, omega (arith, l.1, m.1))

at_last : (xs : List Value) (x d : Value) → 0 < length xs → IfSome (slice_get xs (length xs - 1)) (λ v. AreInOrder v x)
    → AreInOrder (get_or xs (length xs - 1) d) x
at_last xs x d some h =
    subst (λ (o : Option Value). IfSome o (λ v. AreInOrder v x)) (slice_get-get_or xs (length xs - 1) d (omega arith)) h

all_before : (xs : List Value) (x : Value) → AllPairs AreInOrder xs → IfSome (slice_get xs (length xs - 1)) (λ v. AreInOrder v x)
    → All (λ a. AreInOrder a x) xs
all_before xs x pairs h k d below =
    by_cases (cases_lt k (length xs - 1))
  where
    last : AreInOrder (get_or xs (length xs - 1) d) x
    last = at_last xs x d (omega arith) h

    by_cases : (k < length xs - 1) ⊎ (length xs - 1 ≤ k) → AreInOrder (get_or xs k d) x
    by_cases (inl lt) = after (get_or xs k d) (get_or xs (length xs - 1) d) x (pairs k (length xs - 1) d lt (omega arith)) last
    by_cases (inr le) =
        let same : length xs - 1 ≡ k = omega arith in
        subst (λ (i : ℕ). AreInOrder (get_or xs i d) x) same last

last_of : (xs : List Value) (x : Value) → All (λ a. AreInOrder a x) xs → IfSome (slice_get xs (length xs - 1)) (λ v. AreInOrder v x)
last_of [] x all = tt
last_of (y ∷ ys) x all =
    subst (λ (o : Option Value). IfSome o (λ v. AreInOrder v x)) (sym (slice_get-get_or (y ∷ ys) (length (y ∷ ys) - 1) y (omega arith)))
    (all (length (y ∷ ys) - 1) y (omega arith))

pub in_order_push : (xs : List Value) (x : Value) → (AllPairs AreInOrder xs × IfSome (slice_get xs (length xs - 1)) (λ v. AreInOrder v x))
    ↔ AllPairs AreInOrder (xs ++ x ∷ [])
in_order_push xs x =
    let push = pairs_push AreInOrder xs x in
    (λ r. push.1 (r.0, all_before xs x r.0 r.1), λ all. let r = push.0 all in (r.0, last_of xs x r.1))
