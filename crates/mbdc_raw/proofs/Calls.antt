-- One call of a line.
use Rattle.std.proofs.Common.{◌≡◌, ◌⊎◌, inl, inr, ℕ, ◌<◌, Bool, true, false, List, Option, Some, None, IfSome, ap, sym, ◌∙◌, subst, arith, if◌then◌else◌}
use Rattle.std.proofs.lemmas.Bool.{false≢true}
use Rattle.mbdc_raw.specs.Heard.{Answers, Hearing, ends_early}
use Rattle.mbdc_raw.specs.Turn.{is_copy, may_go}
use Rattle.mbdc_raw.specs.Line.{Gives, GivesOne, LineGives, Skips, judged, left_by, left_of}
use Rattle.mbdc_raw.specs.declared.line.Held.{Held}
use Rattle.mbdc_raw.specs.declared.line.Line.{Line}
use Rattle.mbdc_raw.specs.declared.state.State.{State}
use Rattle.mbdc_raw.specs.declared.state.State.TheVariants.{Quiet}
use Rattle.mbdc_raw.specs.declared.wire.Wire.{Ghosts as WireGhosts}

-- ---- the waits that are left

less_by : (lost : Bool) (held : Option Held) (a b : ℕ) → lost ≡ false → a < b → (if lost then 0 else left_by held a) < (if lost then 0 else left_by held b)
less_by true held a b not less = absurd (false≢true (sym not))
less_by false None a b not less = less
less_by false (Some held) a b not less = omega (arith, less)

module _ {W : Type 0} (wire : WireGhosts W) where
  pub left_less : (old new : Line W) → old.lost ≡ false → new.lost ≡ old.lost → new.held ≡ old.held → wire.waits_left new.wire < wire.waits_left old.wire → left_of wire.waits_left new < left_of wire.waits_left old
  left_less old new runs lost held less =
      subst (λ (l : Bool). (if l then 0 else left_by new.held (wire.waits_left new.wire)) < left_of wire.waits_left old) (sym lost)
      (subst (λ (h : Option Held). (if old.lost then 0 else left_by h (wire.waits_left new.wire)) < left_of wire.waits_left old) (sym held)
      (less_by old.lost old.held (wire.waits_left new.wire) (wire.waits_left old.wire) runs less))

  -- on a quiet line a request doesn't wait
  pub less_waiting : (state : State) (repeats : ℕ) (last request : List ℕ) (many : Bool) (P : Type 0) (less : Type 0) → may_go state repeats last request many ≡ false → (state ≡ Quiet) ⊎ less → (less → P) → P
  less_waiting state repeats last request many P less not (inl quiet) then' = absurd (false≢true (sym not ∙ ap (λ (s : State). may_go s repeats last request many) quiet))
  less_waiting state repeats last request many P less not (inr is) then' = then' is

  pub gives_one_of : (early : Bool) (old between : Line W) (answer : List ℕ) (w : W) (h : Hearing) (new : Line W) → Skips wire old between
      → (is : Answers wire.hears between.wire between.hearing answer w h) × (early ≡ ends_early is.end) → is_copy between.last answer ≡ false
      → new ≡ judged early answer (record between { wire = w; hearing = h }) → GivesOne wire old answer new
  gives_one_of early old between answer w h new skips heard plain kept = subst (λ (l : Line W). GivesOne wire old answer l) (sym kept) (record {
    between = between;
    skips = skips;
    heard = heard.0;
    plain = plain;
    kept = ap (λ (e : Bool). judged e answer (record between { wire = w; hearing = h })) heard.1;
  })

  -- a call in which the wire didn't fail
  pub gives_of : (old new : Line W) (taken : Option (List ℕ)) → old.lost ≡ false → new.lost ≡ old.lost → IfSome taken (λ answer. Gives wire old answer new) → IfSome taken (λ answer. LineGives wire old answer new)
  gives_of old new None runs same gives = tt
  gives_of old new (Some answer) runs same gives = record {
    loss = record {
      untouched = λ lost. absurd (false≢true (sym runs ∙ lost));
      failed = λ was lost. absurd (false≢true (sym (same ∙ runs) ∙ lost));
    };
    silence = λ lost. absurd (false≢true (sym (same ∙ runs) ∙ lost));
    given = λ well. gives;
  }
