-- A telegram that isn't taken.
use Rattle.std.proofs.Common.{◌≡◌, ◌⊎◌, inl, inr, ⊎_elim, ℕ, Bool, true, false, Option, None, Some, Result, Ok, Err, List, length, refl, ap}
use Rattle.std.specs.Prelude.{is_some}
use Rattle.dc_records.specs.Body.{continues}
use Rattle.dc_records.specs.Telegram.{Parsed}
use Rattle.dc_readout.specs.Summary.{Summary, new, asked_by, verdict_by}
use Rattle.dc_core.specs.declared.line_heard.LineHeard.{LineHeard}
use Rattle.dc_core.specs.declared.line_heard.LineHeard.TheVariants.{Accepted}
use Rattle.dc_core.specs.declared.fault.HearFault.{HearFault}
use Rattle.dc_core.specs.declared.fault.HearFault.TheVariants.{NoMemory}
use Rattle.dc_core.specs.Lines.{is_line}
use Rattle.dc_core.specs.Core.{Core, present, session_of}
use Rattle.dc_core.specs.Taking.{change_of, refuses}
use Rattle.dc_core.specs.declared.pending.fault.TakeFault.{TakeFault}
use Rattle.dc_core.specs.declared.pending.fault.TakeFault.TheVariants.{NoMemory as TakeNoMemory}
use Rattle.dc_core.specs.Fault.{hear_fault}
use Rattle.dc_core.specs.Step.{unless_refused, hear_answer, MayHear}

pub answer_is : (budget : ℕ) (core : Core) (line moment : ℕ) (bytes : List ℕ) (s : Summary) (part : ℕ) (t : Parsed) → is_line line ≡ true → core.stopped ≡ false → session_of core line ≡ Some s
    → is_some (asked_by s) ≡ true → verdict_by s bytes ≡ new part t
    → hear_answer budget core line moment bytes ≡ unless_refused (refuses budget (length core.pending) (change_of moment part t) (present core)) (Accepted part (continues t.ending))
answer_is budget core line moment bytes s part t is running who asks verdict = rw (is, running, who, asks, verdict) refl

-- a refusal, as the line is answered
abbrev told : Result (Unit {0}) TakeFault → Result LineHeard HearFault
told (Ok done) = Err NoMemory
told (Err fault) = Err (hear_fault fault)

pub by_refusal : (r : Option TakeFault) (fault : TakeFault) (part : ℕ) (more : Bool)
    → ((f : TakeFault) → r ≡ Some f → ◌≡◌ {A = Result (Unit {0}) TakeFault} (Err fault) (Err f)) → (r ≡ None → (◌≡◌ {A = Result (Unit {0}) TakeFault} (Err fault) (Ok tt)) ⊎ (◌≡◌ {A = Result (Unit {0}) TakeFault} (Err fault) (Err TakeNoMemory)))
    → MayHear (unless_refused r (Accepted part more)) (Err (hear_fault fault))
by_refusal None fault part more refused accepted = ⊎_elim (λ bad. absurd (cc bad)) (λ e. inr (ap (λ (f : Result (Unit {0}) TakeFault). told f) e, (part, more, refl))) (accepted refl)
by_refusal (Some f) fault part more refused accepted = inl (ap (λ (f : Result (Unit {0}) TakeFault). told f) (refused f refl))
