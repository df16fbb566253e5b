-- A line of the office, answered.
use Rattle.std.proofs.Common.{◌≡◌, ◌⊎◌, ⊎_elim, inl, inr, ◌≤◌, ◌+◌, ◌-◌, ◌^◌, ℕ, false, Some, Result, Ok, Err, List, [], ◌∷◌, ◌++◌, refl, ap, sym, subst, ◌∙◌}
use Rattle.std.specs.Prelude.{IsErrOf, length}
use Rattle.mbdc_io.specs.Failures.{HasRisen, has_risen-after}
use Rattle.dc_sectors.specs.Disk.{Image, IsImage}
use Rattle.dc_sectors.specs.declared.device.Disk.{Ghosts}
use Rattle.dc_sectors.specs.Runs.{LeavesOnly}
use Rattle.dc_sectors.proofs.Moments.{started as begun, weakened, followed}
use Rattle.mbdc_change.specs.State.{State, Held}
use Rattle.mbdc_change.specs.Apply.{applied}
use Rattle.mbdc_change.specs.declared.change.Change.{Change}
use Rattle.mbdc_change.specs.History.{after}
use Rattle.mbdc_log.specs.Halves.{half_of, half_len_of}
use Rattle.dc_core.specs.PendingImages.{StandsForFront}
use Rattle.mbdc_log.specs.Store.{Opened}
use Rattle.mbdc_log.proofs.Fronts.{longer_front, front_behind}
use Rattle.dc_meters.specs.Language.{register}
use Rattle.dc_upload.specs.declared.line.OfficeLine.{OfficeLine}
use Rattle.dc_upload.specs.declared.verdict.Verdict.{Verdict}
use Rattle.dc_upload.specs.declared.verdict.Verdict.TheVariants.{Repeat, Do, Show, Refuse}
use Rattle.dc_upload.specs.declared.code.Code.{Code}
use Rattle.dc_upload.specs.declared.code.Code.TheVariants.{Syntax, Memory, Store}
use Rattle.dc_upload.specs.Verdict.{verdict_of, IfDo}
use Rattle.dc_upload.specs.Reply.{reply_text, text_for, shown_text, done_line, refusal_line, TakesMemory}
use Rattle.dc_upload.proofs.Verdicts.{repeated as repeats}
use Rattle.dc_core.specs.declared.fault.CommitFault.{CommitFault}
use Rattle.dc_core.specs.declared.fault.CommitFault.TheVariants.{Device, Worn, Stopped}
use Rattle.dc_core.specs.Core.{Core}
use Rattle.dc_core.specs.Event.{Event, Reply, offices, replied, committed, unread, unstored, repeated, refused, shown, out_of_memory, obeyed, uncommitted}
use Rattle.dc_core.specs.Step.{settled, settled_core, held, ordered, after_commit, after_answer, after_reply, SpellsNone, Spells, IsUnstored, MayAnswer, MayReply}
use Rattle.dc_core.specs.Transcript.{taken_with}
use Rattle.dc_core.specs.Text.{answer_text}
use Rattle.dc_core.specs.Images.{Machine, IsAt}
use Rattle.dc_core.specs.Run.{fault_in, IsShown, Answered, Turned}
use Rattle.dc_core.specs.Writing.{IsWornFor}
use Rattle.dc_core.proofs.At.{nothing_waits}

-- the reply by its verdict
told_text : (house : Held) (line : OfficeLine) (v : Verdict) → verdict_of house line ≡ v → reply_text house line ≡ text_for v line house.state
unfolding reply_text
told_text house line v is = ap (λ (x : Verdict). text_for x line house.state) is

-- a repeat, what is shown and a refusal are no new command
pub none_done : (v : Verdict) → (v ≡ Repeat) ⊎ ((v ≡ Show) ⊎ ((code : Code) × (v ≡ Refuse code))) → IfDo v (λ change. ⊥)
none_done v is = ⊎_elim
    (λ repeat. rw repeat tt)
    (λ rest. ⊎_elim (λ show. rw show tt) (λ refuse. rw (refuse.1) tt) rest)
    is

-- a commit's fault shows
pub commit_shown : {D : Type 0} (g : Ghosts D) (old new : Machine D) (result : Result ℕ CommitFault) → (IsErrOf result Device → HasRisen (g.failures old.store.disk) (g.failures new.store.disk))
    → (IsErrOf result Worn → IsWornFor (g.sectors old.store.disk) old.store (length old.waiting.bytes)) → (IsErrOf result Worn → new ≡ old)
    → IsShown g old new (fault_in (committed result))
commit_shown g old new (Ok count) device worn unchanged = tt
commit_shown g old new (Err Device) device worn unchanged = device refl
commit_shown {D} g old new (Err Worn) device worn unchanged =
    subst (λ (m : Machine D). IsWornFor (g.sectors m.store.disk) m.store (length m.waiting.bytes)) (sym (unchanged refl)) (worn refl)
commit_shown g old new (Err Stopped) device worn unchanged = tt

-- a commit that is done stops nothing
pub still_running : (core : Core) (pending : List Change) → (settled_core core pending).stopped ≡ core.stopped
still_running core [] = refl
still_running core (change ∷ changes) = refl

module _ {D : Type 0} (g : Ghosts D) (origin : D) where
  abbrev OnlyNow : Machine D → Type 0
  OnlyNow machine = g.keeps origin → (image : Image) → g.images_since machine.store.disk (g.moment machine.store.disk) image → IsImage (g.choices machine.store.disk) image

  none_waits : (machine : Machine D) (core : Core) → IsAt g origin machine core → machine.waiting.count ≡ 0 → core.pending ≡ []
  none_waits machine core at empty = nothing_waits core.pending (sym at.count_is ∙ empty)

  -- the register is what is committed
  house_is_held : (machine : Machine D) (core : Core) → IsAt g origin machine core → machine.waiting.count ≡ 0 → machine.house ≡ held machine.house.budget core
  house_is_held machine core at empty =
      let state : machine.house.state ≡ core.committed = at.house_is ∙ ap (after core.committed) (none_waits machine core at empty) in
      λ i. record { state = state i; budget = machine.house.budget }

  verdict_is : (machine : Machine D) (core : Core) (line : OfficeLine) (v : Verdict) → IsAt g origin machine core → machine.waiting.count ≡ 0 → verdict_of machine.house line ≡ v → verdict_of (held machine.house.budget core) line ≡ v
  verdict_is machine core line v at empty is = subst (λ (h : Held). verdict_of h line ≡ v) (house_is_held machine core at empty) is

  -- nothing is written
  still : (machine : Machine D) (core : Core) → IsAt g origin machine core → machine.waiting.count ≡ 0 → OnlyNow machine
      → g.keeps origin → LeavesOnly g machine.store.disk machine.store.disk (StandsForFront (half_of g machine.store.disk) core.committed [])
  still machine core at empty only h =
      begun g machine.store.disk (StandsForFront (half_of g machine.store.disk) core.committed [])
      (λ image left. subst (λ (p : List Change). StandsForFront (half_of g machine.store.disk) core.committed p image) (none_waits machine core at empty) (at.leaves h image (only h image left)))

  -- no new command
  pub answered_told : (machine : Machine D) (core : Core) (line : OfficeLine) (wrote : List ℕ → Type 0) (v : Verdict) → IsAt g origin machine core → machine.waiting.count ≡ 0 → OnlyNow machine
      → verdict_of machine.house line ≡ v → IfDo v (λ change. ⊥) → wrote (reply_text machine.house line)
      → Answered g origin machine.house.budget core line wrote machine machine
  answered_told machine core line wrote (Do change) at empty only is not_do text = absurd not_do
  answered_told machine core line wrote Repeat at empty only is not_do text = record {
    reply = repeated core.committed.last_number;
    may = (verdict_is machine core line Repeat at empty is, refl);
    text = subst wrote (told_text machine.house line Repeat is ∙ ap (λ (h : Held). done_line h.state.last_number) (house_is_held machine core at empty)) text;
    at = at;
    failed = tt;
    leaves = still machine core at empty only;
  }
  answered_told machine core line wrote Show at empty only is not_do text = record {
    reply = shown (shown_text line core.committed);
    may = (verdict_is machine core line Show at empty is, refl);
    text = subst wrote (told_text machine.house line Show is ∙ ap (λ (h : Held). shown_text line h.state) (house_is_held machine core at empty)) text;
    at = at;
    failed = tt;
    leaves = still machine core at empty only;
  }
  answered_told machine core line wrote (Refuse code) at empty only is not_do text = record {
    reply = refused code;
    may = verdict_is machine core line (Refuse code) at empty is;
    text = subst wrote (told_text machine.house line (Refuse code) is) text;
    at = at;
    failed = tt;
    leaves = still machine core at empty only;
  }

  -- memory is refused, and nothing has changed
  refused_memory : (machine : Machine D) (core : Core) (line : OfficeLine) (wrote : List ℕ → Type 0) → IsAt g origin machine core → machine.waiting.count ≡ 0 → OnlyNow machine
      → MayAnswer machine.house.budget core line out_of_memory → wrote (refusal_line Memory)
      → Answered g origin machine.house.budget core line wrote machine machine
  refused_memory machine core line wrote at empty only may text = record {
    reply = out_of_memory;
    may = may;
    text = text;
    at = at;
    failed = tt;
    leaves = still machine core at empty only;
  }

  -- for what is to be shown
  pub answered_untold : (machine : Machine D) (core : Core) (line : OfficeLine) (wrote : List ℕ → Type 0) → IsAt g origin machine core → machine.waiting.count ≡ 0 → OnlyNow machine
      → TakesMemory line → wrote (refusal_line Memory)
      → Answered g origin machine.house.budget core line wrote machine machine
  answered_untold machine core line wrote at empty only takes text = refused_memory machine core line wrote at empty only (inr takes) text

  -- for a new command
  pub answered_memory : (machine new : Machine D) (core : Core) (line : OfficeLine) (change : Change) (wrote : List ℕ → Type 0) → IsAt g origin machine core → machine.waiting.count ≡ 0 → OnlyNow machine
      → verdict_of machine.house line ≡ Do change → new ≡ machine → wrote (refusal_line Memory)
      → Answered g origin machine.house.budget core line wrote machine new
  answered_memory machine new core line change wrote at empty only is same text =
      let all : Answered g origin machine.house.budget core line wrote machine machine =
      refused_memory machine core line wrote at empty only (inl (change, verdict_is machine core line (Do change) at empty is)) text in
      subst (λ (m : Machine D). Answered g origin machine.house.budget core line wrote machine m) (sym same) all

  -- what a commit of the new command leaves
  since : (machine mid new : Machine D) (core : Core) (change : Change) → mid.store ≡ machine.store
      → (g.keeps origin → LeavesOnly g mid.store.disk new.store.disk (StandsForFront (half_of g mid.store.disk) core.committed (change ∷ [])))
      → g.keeps origin → LeavesOnly g machine.store.disk new.store.disk (StandsForFront (half_of g machine.store.disk) core.committed (change ∷ []))
  since machine mid new core change store left h =
      subst (λ (s : Opened D). LeavesOnly g s.disk new.store.disk (StandsForFront (half_of g s.disk) core.committed (change ∷ []))) store (left h)

  -- a new command is done
  pub answered_obeyed : (machine mid new : Machine D) (core : Core) (line : OfficeLine) (change : Change) (wrote : List ℕ → Type 0) → IsAt g origin machine core → machine.waiting.count ≡ 0
      → verdict_of machine.house line ≡ Do change → mid.store ≡ machine.store → new.house ≡ record machine.house { state = applied change machine.house.state }
      → IsAt g origin new (settled (ordered change core))
      → (g.keeps origin → LeavesOnly g mid.store.disk new.store.disk (StandsForFront (half_of g mid.store.disk) core.committed (change ∷ [])))
      → wrote (reply_text new.house line)
      → Answered g origin machine.house.budget core line wrote machine new
  answered_obeyed machine mid new core line change wrote at empty is store house done left text =
      let now : Held = record machine.house { state = applied change machine.house.state } in
      let told = told_text now line Repeat (repeats machine.house line change is) in
      let number = ap (λ (h : Held). done_line (applied change h.state).last_number) (house_is_held machine core at empty) in
      record {
        reply = obeyed (applied change core.committed).last_number change;
        may = (verdict_is machine core line (Do change) at empty is, refl);
        text = subst wrote (ap (λ (h : Held). reply_text h line) house ∙ told ∙ number) text;
        at = done;
        failed = tt;
        leaves = since machine mid new core change store left;
      }

  -- its commit fails
  pub answered_uncommitted : (machine mid new : Machine D) (core : Core) (line : OfficeLine) (change : Change) (fault : CommitFault) (wrote : List ℕ → Type 0) → IsAt g origin machine core → machine.waiting.count ≡ 0
      → verdict_of machine.house line ≡ Do change → mid.store ≡ machine.store
      → IsUnstored (ordered change core) fault → IsAt g origin new (after_commit (ordered change core) (Err fault))
      → IsShown g mid new (Some fault)
      → (g.keeps origin → LeavesOnly g mid.store.disk new.store.disk (StandsForFront (half_of g mid.store.disk) core.committed (change ∷ [])))
      → wrote (refusal_line Store)
      → Answered g origin machine.house.budget core line wrote machine new
  answered_uncommitted machine mid new core line change fault wrote at empty is store why failed shows left text = record {
    reply = uncommitted change fault;
    may = (verdict_is machine core line (Do change) at empty is, why);
    text = text;
    at = failed;
    failed = shows_since fault shows;
    leaves = since machine mid new core change store left;
  }
    where
      shows_since : (f : CommitFault) → IsShown g mid new (Some f) → IsShown g machine new (Some f)
      shows_since Device s = subst (λ (k : Opened D). HasRisen (g.failures k.disk) (g.failures new.store.disk)) store s
      shows_since Worn s = s
      shows_since Stopped s = tt

  -- ---- the whole line

  -- the text spells no line
  pub turned_unread : (machine : Machine D) (core : Core) (text : List ℕ) (wrote : List ℕ → Type 0) → IsAt g origin machine core → OnlyNow machine
      → SpellsNone text → wrote (refusal_line Syntax)
      → Turned g origin machine.house.budget core (offices text) wrote machine machine
  turned_unread machine core text wrote at only none told =
      let P : Image → Type 0 = StandsForFront (half_of g machine.store.disk) core.committed (core.pending ++ []) in
      record {
        answer = replied unread;
        may = none;
        text = told;
        at = at;
        failed = tt;
        leaves = λ h. begun g machine.store.disk P
            (λ image left. longer_front register (half_of g machine.store.disk) core.committed core.pending [] image (at.leaves h image (only h image left)));
      }

  -- the pending changes aren't committed
  pub turned_unstored : (machine new : Machine D) (core : Core) (text : List ℕ) (line : OfficeLine) (fault : CommitFault) (wrote : List ℕ → Type 0) → Spells text line
      → IsUnstored core fault → IsAt g origin new (after_commit core (Err fault)) → IsShown g machine new (Some fault)
      → (g.keeps origin → LeavesOnly g machine.store.disk new.store.disk (StandsForFront (half_of g machine.store.disk) core.committed core.pending))
      → wrote (refusal_line Store)
      → Turned g origin machine.house.budget core (offices text) wrote machine new
  turned_unstored machine new core text line fault wrote spells why at shows left told =
      let H = half_of g machine.store.disk in
      record {
        answer = replied (unstored fault);
        may = ((line, spells), why);
        text = told;
        at = at;
        failed = shows;
        leaves = λ h. weakened g machine.store.disk new.store.disk (StandsForFront H core.committed core.pending) (StandsForFront H core.committed (core.pending ++ []))
            (left h) (longer_front register H core.committed core.pending []);
      }

  may_is : (budget : ℕ) (core : Core) (text : List ℕ) (line : OfficeLine) (reply : Reply) → Spells text line → core.stopped ≡ false → MayAnswer budget (settled core) line reply → MayReply budget core text reply
  may_is budget core text line unread spells running may = absurd may
  may_is budget core text line (unstored fault) spells running may = absurd may
  may_is budget core text line (repeated number) spells running may = record { line = line; spells = spells; running = running; answer = may }
  may_is budget core text line (refused code) spells running may = record { line = line; spells = spells; running = running; answer = may }
  may_is budget core text line (shown bytes) spells running may = record { line = line; spells = spells; running = running; answer = may }
  may_is budget core text line out_of_memory spells running may = record { line = line; spells = spells; running = running; answer = may }
  may_is budget core text line (obeyed number change) spells running may = record { line = line; spells = spells; running = running; answer = may }
  may_is budget core text line (uncommitted change fault) spells running may = record { line = line; spells = spells; running = running; answer = may }

  after_is : (budget : ℕ) (core : Core) (line : OfficeLine) (reply : Reply) → MayAnswer budget (settled core) line reply → after_answer (settled core) reply ≡ after_reply core reply
  after_is budget core line unread may = absurd may
  after_is budget core line (unstored fault) may = absurd may
  after_is budget core line (repeated number) may = refl
  after_is budget core line (refused code) may = refl
  after_is budget core line (shown bytes) may = refl
  after_is budget core line out_of_memory may = refl
  after_is budget core line (obeyed number change) may = refl
  after_is budget core line (uncommitted change fault) may = refl

  -- what is committed once all pending changes are
  committed_is : (core : Core) (pending : List Change) → core.pending ≡ pending → (settled_core core pending).committed ≡ after core.committed core.pending
  committed_is core [] none = sym (ap (after core.committed) none)
  committed_is core (change ∷ changes) some = refl

  shown_since : (budget : ℕ) (line : OfficeLine) (machine mid new : Machine D) (core : Core) (reply : Reply) → MayAnswer budget core line reply
      → IsShown g mid new (fault_in (replied reply)) → (HasRisen (g.failures mid.store.disk) (g.failures new.store.disk) → HasRisen (g.failures machine.store.disk) (g.failures new.store.disk))
      → IsShown g machine new (fault_in (replied reply))
  shown_since budget line machine mid new core unread may shows risen = absurd may
  shown_since budget line machine mid new core (unstored fault) may shows risen = absurd may
  shown_since budget line machine mid new core (repeated number) may shows risen = tt
  shown_since budget line machine mid new core (refused code) may shows risen = tt
  shown_since budget line machine mid new core (shown bytes) may shows risen = tt
  shown_since budget line machine mid new core out_of_memory may shows risen = tt
  shown_since budget line machine mid new core (obeyed number change) may shows risen = tt
  shown_since budget line machine mid new core (uncommitted change Device) may shows risen = risen shows
  shown_since budget line machine mid new core (uncommitted change Worn) may shows risen = shows
  shown_since budget line machine mid new core (uncommitted change Stopped) may shows risen = tt

  -- the pending changes are committed, and then the line is answered
  pub turned_answered : (machine mid new : Machine D) (core : Core) (text : List ℕ) (line : OfficeLine) (wrote : List ℕ → Type 0) → Spells text line → core.stopped ≡ false
      → mid.house.budget ≡ machine.house.budget → g.sectors mid.store.disk ≡ g.sectors machine.store.disk → g.failures machine.store.disk ≤ g.failures mid.store.disk
      → (g.keeps origin → LeavesOnly g machine.store.disk mid.store.disk (StandsForFront (half_of g machine.store.disk) core.committed core.pending))
      → Answered g origin mid.house.budget (settled core) line wrote mid new
      → Turned g origin machine.house.budget core (offices text) wrote machine new
  turned_answered machine mid new core text line wrote spells running budget count kept left answered =
      let reply = answered.reply in
      let H = half_of g machine.store.disk in
      let more = taken_with reply in
      let all = core.pending ++ more in
      let may = subst (λ (b : ℕ). MayAnswer b (settled core) line reply) budget answered.may in
      let behind : (image : Image) → StandsForFront (half_of g mid.store.disk) (settled core).committed more image → StandsForFront H core.committed all image =
      λ image stands. front_behind register H core.committed core.pending more image
      (subst (λ (s : State). StandsForFront H s more image) (committed_is core core.pending refl) (subst (λ (n : ℕ). StandsForFront (half_len_of n) (settled core).committed more image) count stands)) in
      record {
        answer = replied reply;
        may = may_is machine.house.budget core text line reply spells running may;
        text = answered.text;
        at = subst (λ (c : Core). IsAt g origin new c) (after_is machine.house.budget core line reply may) answered.at;
        failed = shown_since machine.house.budget line machine mid new (settled core) reply may answered.failed (λ risen. has_risen-after (g.failures machine.store.disk) (g.failures mid.store.disk) (g.failures new.store.disk) kept risen);
        leaves = λ h. followed g machine.store.disk mid.store.disk new.store.disk (StandsForFront H core.committed core.pending) (StandsForFront (half_of g mid.store.disk) (settled core).committed more) (StandsForFront H core.committed all)
            (left h) (answered.leaves h) (longer_front register H core.committed core.pending more) behind;
      }

  -- the same text, as another result states it
  pub turned_by : (machine new : Machine D) (core : Core) (event : Event) (wrote other : List ℕ → Type 0) → ((text : List ℕ) → wrote text → other text)
      → Turned g origin machine.house.budget core event wrote machine new
      → Turned g origin machine.house.budget core event other machine new
  turned_by machine new core event wrote other same turned = record {
    answer = turned.answer;
    may = turned.may;
    text = same (answer_text turned.answer) turned.text;
    at = turned.at;
    failed = turned.failed;
    leaves = turned.leaves;
  }
