-- What a value rests on, by the word of its line.
use Rattle.std.proofs.Common.{◌≡◌, ℕ, subst, sym, Result, Ok, Err, None, Some}
use Rattle.std.specs.Prelude.{IfErr, IfOk}
use Rattle.mbdc_audit.specs.Evidence.{Rests, Tell, MayBeAt, MayHaveEnded}
use Rattle.mbdc_audit.specs.House.{Run}
use Rattle.mbdc_audit.specs.View.{end_or, of_word, value_of}
use Rattle.mbdc_audit.specs.Walk.{IsRefused, RestsOn}
use Rattle.mbdc_audit.specs.declared.fault.Stop.{Stop}
use Rattle.mbdc_audit.specs.declared.house.Value as value_type
use Rattle.mbdc_audit.specs.declared.line.Word.{Word}
use Rattle.mbdc_audit.specs.declared.line.Word.TheVariants as word
use Rattle.mbdc_audit.specs.declared.uses.Counted.{Counted}

abbrev Such : Run → Counted → value_type.Value → Word → ℕ → Type 0
Such r q v w n = Rests r q (value_of n v) (of_word w v.bodies.now v.end v.typed)

to_such : (r : Run) (q : Counted) (v : value_type.Value) (w : Word) (n : ℕ) → v.word ≡ w → RestsOn r q n v → Such r q v w n
to_such r q v w n e h = subst (λ (x : Word). Such r q v x n) e h

of_such : (r : Run) (q : Counted) (v : value_type.Value) (w : Word) (n : ℕ) → v.word ≡ w → Such r q v w n → RestsOn r q n v
of_such r q v w n e h = subst (λ (x : Word). Such r q v x n) (sym e) h

-- a result is what a value rests on
pub record Is (r : Run) (q : Counted) (v : value_type.Value) (P : ℕ → Type 0) : Type 0 where
  pub to : (n : ℕ) → RestsOn r q n v → P n
  pub of : (n : ℕ) → P n → RestsOn r q n v

pub ok : (r : Run) (q : Counted) (v : value_type.Value) (P : ℕ → Type 0) → Is r q v P → (x : Result ℕ Stop)
    → IfOk x P → IfOk x (λ n. RestsOn r q n v)
ok r q v P i (Ok n) h = i.of n h
ok r q v P i (Err e) h = tt

pub one : (r : Run) (q : Counted) (v : value_type.Value) (P : ℕ → Type 0) → Is r q v P → (x : Result ℕ Stop)
    → IfOk x (λ n. (m : ℕ) → P m → m ≡ n) → IfOk x (λ n. (m : ℕ) → RestsOn r q m v → m ≡ n)
one r q v P i (Ok n) h = λ m p. h m (i.to m p)
one r q v P i (Err e) h = tt

pub only : (r : Run) (q : Counted) (v : value_type.Value) (P : ℕ → Type 0) → Is r q v P → (x : Result ℕ Stop)
    → IfErr x (λ s. IsRefused s → (n : ℕ) → P n → ⊥) → IfErr x (λ s. IsRefused s → (n : ℕ) → RestsOn r q n v → ⊥)
only r q v P i (Ok n) h = tt
only r q v P i (Err e) h = λ refused n p. h refused n (i.to n p)

pub by_read : (r : Run) (q : Counted) (v : value_type.Value) → v.word ≡ word.Read
    → Is r q v (Tell r q v.bodies.now None (MayBeAt v.moment))
by_read r q v e = record { to = λ n h. to_such r q v word.Read n e h; of = λ n h. of_such r q v word.Read n e h }

pub by_stored : (r : Run) (q : Counted) (v : value_type.Value) (day : ℕ) → day ≡ (end_or v.end).day → v.word ≡ word.Stored
    → Is r q v (Tell r q v.bodies.now (Some day) (MayHaveEnded day))
by_stored r q v day d e = subst (λ (x : ℕ). Is r q v (Tell r q v.bodies.now (Some x) (MayHaveEnded x))) (sym d)
    (record { to = λ n h. to_such r q v word.Stored n e h; of = λ n h. of_such r q v word.Stored n e h })

pub by_ended : (r : Run) (q : Counted) (v : value_type.Value) (day : ℕ) → day ≡ (end_or v.end).day → v.word ≡ word.Ended
    → Is r q v (Tell r q v.bodies.now (Some day) (MayHaveEnded day))
by_ended r q v day d e = subst (λ (x : ℕ). Is r q v (Tell r q v.bodies.now (Some x) (MayHaveEnded x))) (sym d)
    (record { to = λ n h. to_such r q v word.Ended n e h; of = λ n h. of_such r q v word.Ended n e h })
