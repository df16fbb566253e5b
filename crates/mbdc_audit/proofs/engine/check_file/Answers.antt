use Rattle.std.proofs.Common.{◌≡◌, ◌∙◌, ℕ, List, Bool, All, IfOk, IfSome, Option, None, Some, Result, Ok, Err, OnOk, false, refl, subst, sym}
use Rattle.std.proofs.lemmas.Bool.{false≢true}
use Rattle.std.proofs.lemmas.Option.{IfSome_then}
use Rattle.mbdc_io.specs.Lines.{lines_of}
use Rattle.mbdc_audit.specs.File.{IsFed, IsRight, Steps, bare_house, empty}
use Rattle.mbdc_audit.specs.Line.{IsAsked}
use Rattle.mbdc_audit.specs.Reader.{IsFault, IsRead, Spells}
use Rattle.mbdc_audit.specs.View.{house_of}
use Rattle.mbdc_audit.proofs.engine.check_file.Goals as goal

at_some : {X : Type 0} (o : Option X) (P : X → Type 0) (x : X) → o ≡ Some x → IfSome o P → P x
at_some {X} o P x e f = subst (λ (p : Option X). IfSome p P) e f

-- what a right file spells
spells : (asks : Bool) (bytes input : List ℕ) → bytes ≡ input → (right : IsRight false (lines_of input)) → IsFed input → Spells asks bytes right.house
spells asks bytes input same right fed = record {
  fed = subst IsFed (sym same) fed;
  steps = subst (λ (b : List ℕ). Steps 0 empty (lines_of b) 12 (bare_house right.house)) (sym same) right.spelled;
  plain = λ may. subst (λ (b : List ℕ). All (λ line. IsAsked line → ⊥) (lines_of b)) (sym same) (right.plain refl);
}

unless : {E : Type 0} (r : Result Bool E) (F P : Type 0) → (F → P) → IfOk r (λ holds. F) → IfOk r (λ holds. holds ≡ false → P)
unless (Ok x) F P f is = λ wrong. f is
unless (Err e) F P f is = tt

each : {X : Type 0} (o : Option X) (P : X → Type 0) → ((x : X) → P x) → IfSome o P
each None P f = tt
each (Some x) P f = f x

late : {E : Type 0} (r : Result Bool E) (o : Option (List ℕ)) (P Q : List ℕ → Type 0) (T : Type 0) → OnOk r T
    → IfOk r (λ holds. holds ≡ false → IfSome o (λ input. P input → Q input → T))
late (Ok x) o P Q T t = λ wrong. each o (λ input. P input → Q input → T) (λ input p q. t)
late (Err e) o P Q T t = tt

pub returns-in-Ok-walk-clause-right : goal.returns-in-Ok-walk-clause-right
returns-in-Ok-walk-clause-right g c = λ right.
    let is = c.in-Ok-walk.ensures.right c.args.may_ask c.as_slice-file.result.now
    (record { clean = refl; read = c.in-Ok.ensures.ok; quiet = c.in-Ok.ensures.asks }) right in
    let left = g.R.Source.left c.args.reader.now in
    let given : IfSome left (λ input. c.in-Some.file.items
    ≡ input) = at_some _ _ _ c.in-Some.is c.in_ok-file.ensures.file in
    IfSome_then left given (λ input e. subst (λ (bytes : List ℕ). IsRight c.args.may_ask (lines_of bytes))
    (c.as_slice-file.ensures.value ∙ e) is)

pub returns-in-Ok-walk-clause-all : goal.returns-in-Ok-walk-clause-all
returns-in-Ok-walk-clause-all g c = λ may wrong.
    let file : List ℕ = c.as_slice-file.result.now in
    let h = house_of c.in-Ok.house in
    let left = g.R.Source.left c.args.reader.now in
    let given : IfSome left (λ input. c.in-Some.file.items
    ≡ input) = at_some _ _ _ c.in-Some.is c.in_ok-file.ensures.file in
    IfSome_then left given (λ input e right fed.
    absurd (false≢true (sym wrong ∙ c.in-Ok-walk.ensures.all file
    (record { clean = refl; read = subst (λ (b : Bool). IsRead b file h) may c.in-Ok.ensures.ok; quiet = λ same. c.in-Ok.ensures.asks may })
    (subst (λ (bytes : List ℕ). IsRight false (lines_of bytes)) (sym (c.as_slice-file.ensures.value ∙ e)) right))))

pub returns-in_default-clause-all : goal.returns-in_default-clause-all
returns-in_default-clause-all g c = λ may. late c.stopped.result (g.R.Source.left c.args.reader.now) (λ input. IsRight false (lines_of input)) IsFed _
    (c.stopped.ensures.told refl)

pub returns-in-Err-clause-all : goal.returns-in-Err-clause-all
returns-in-Err-clause-all g c = λ may.
    let left = g.R.Source.left c.args.reader.now in
    let given : IfSome left (λ input. c.in-Some.file.items
    ≡ input) = at_some _ _ _ c.in-Some.is c.in_ok-file.ensures.file in
    unless c.stopped-in-Err.result (IsFault c.in-Err.stop) _ (λ fault. IfSome_then left given (λ input e right fed.
    absurd (c.in-Err.ensures.err fault right.house (spells c.args.may_ask c.as_slice-file.result.now input (c.as_slice-file.ensures.value ∙ e) right fed))))
    c.stopped-in-Err.ensures.fault

pub returns-in-Err-Fault-clause-all : goal.returns-in-Err-Fault-clause-all
returns-in-Err-Fault-clause-all g c = λ may.
    late c.stopped-in-Err-Fault.result (g.R.Source.left c.args.reader.now) (λ input. IsRight false (lines_of input)) IsFed _
    (c.stopped-in-Err-Fault.ensures.told refl)
