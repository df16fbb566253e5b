use Rattle.std.proofs.Common.{◌≡◌, ◌↔◌, ◌≤◌, ◌∙◌, ℕ, Bool, true, false, IsTrue, ap, arith, get_or, length, map, subst, sym}
use Rattle.std.proofs.lemmas.Bool.{false≢true}
use Rattle.mbdc_audit.specs.declared.house.Value.{Value}
use Rattle.mbdc_audit.specs.Walk.{IsSmall, is_clean}
use Rattle.mbdc_audit.specs.Settled.{IsTold}
use Rattle.mbdc_audit.specs.View.{run_of, struck_of}
use Rattle.mbdc_audit.proofs.Checks.{all_at, all_full, link, same}
use Rattle.mbdc_audit.proofs.teller.Teller.tell_values.Goals as goal
use Rattle.mbdc_audit.proofs.teller.Teller.tell_values.Goals.{then-is_told+in_ok-tell_telegram, else-is_told}

moved : {Q : Type 0} (a b : Bool) → a ≡ b → IsTrue b ↔ Q → IsTrue a ↔ Q
moved {Q} a b e f = subst (λ (x : Bool). IsTrue x ↔ Q) (sym e) f

small : {A B : Type 0} (v : Value) (n m : ℕ) → n ≡ m → B ↔ (A × IsSmall n v) → B ↔ (A × IsSmall m v)
small {A} {B} v n m e f = subst (λ (k : ℕ). B ↔ (A × IsSmall k v)) e f

told : {A B C S P : Type 0} (b r : Bool) → r ≡ b → r ≡ true → B ↔ (A × S) → C ↔ (B × P) → C ↔ (A × (S × (b ≡ true → P)))
told b r e is f g = link f g (λ s. (s.0, s.1 (sym e ∙ is)), λ q. (q.0, λ _. q.1))

other : {A B S P : Type 0} (b r : Bool) → r ≡ b → r ≡ false → B ↔ (A × S) → B ↔ (A × (S × (b ≡ true → P)))
other b r e isnt f = same f (λ s. (s, λ t. absurd (false≢true (sym isnt ∙ (e ∙ t)))), λ q. q.0)

pub values-preserved : goal.values-preserved
values-preserved g c =
    let one = small (get_or c.args.values.now c.values.value-index _) _ _ c.size_in.ensures c.in_ok-tell_value.ensures in
    let more = all_at (IsTold (map run_of c.args.runs.now) c.args.values.now (map struck_of c.args.struck.now)) c.args.values.now
    c.values.value-index _ c.values-test.true in
    elim c.if-is_told.branch [
      | then-is_told+in_ok-tell_telegram w ↦ link c.values.invariant (moved _ _ (ap (λ s. is_clean s.counts) w.self-is)
          (told _ _ c.is_told.ensures w.if-is_told.true one w.in_ok-tell_telegram.ensures)) more
      | else-is_told w ↦ link c.values.invariant (moved _ _ (ap (λ s. is_clean s.counts) w.self-is)
          (other _ _ c.is_told.ensures w.if-is_told.false one)) more
    ]

pub returns : goal.returns
returns g c =
    let past : length c.args.values.now ≤ c.values.value-index = omega (arith, c.values-test.false) in
    same c.values.invariant
    (all_full (IsTold (map run_of c.args.runs.now) c.args.values.now (map struck_of c.args.struck.now)) c.args.values.now c.values.value-index past)
