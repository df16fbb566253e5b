-- In which state a concentrator is after each call.
use Rattle.std.proofs.Common.{◌≡◌, ◌≢◌, true, ◌+◌, ℕ, false, Option, Some, Ok, List, [], ◌∷◌, ◌++◌, length, refl, ap, sym, subst, arith, ◌∙◌, length-append}
use Rattle.std.proofs.lemmas.List.{flat_map_more}
use Rattle.std.proofs.lemmas.List.Elements.{All-append, All-push}
use Rattle.dc_sectors.specs.Disk.{Image, IsImage}
use Rattle.dc_sectors.specs.declared.device.Disk.{Ghosts}
use Rattle.mbdc_change.specs.State.{Held}
use Rattle.mbdc_change.specs.declared.change.Change.{Change}
use Rattle.mbdc_change.specs.Apply.{applied}
use Rattle.mbdc_change.specs.Accepts.{Accepts}
use Rattle.mbdc_change.specs.History.{AcceptsAll}
use Rattle.mbdc_change.proofs.History.{after_of_push, accepts_all_of_append}
use Rattle.mbdc_change.specs.Encoding.{change_bytes}
use Rattle.mbdc_change.specs.Spelled.{SpellsChanges}
use Rattle.mbdc_change.specs.Valid.{IsChange}
use Rattle.dc_readout.specs.Summary.{Summary, Verdict, verdict_by}
use Rattle.mbdc_log.specs.Halves.{half_of}
use Rattle.dc_core.specs.PendingImages.{StandsForFront, Keeps}
use Rattle.mbdc_log.proofs.Fronts.{longer_front}
use Rattle.dc_meters.specs.Language.{register}
use Rattle.mbdc_log.proofs.Life.{kept_stands}
use Rattle.dc_core.specs.declared.line_heard.LineHeard.{LineHeard}
use Rattle.dc_core.specs.Waiting.{Waiting}
use Rattle.dc_core.specs.Lines.{on_line, put_on, settled_lines, no_sessions}
use Rattle.dc_core.specs.Core.{Core, present, with_session, opened}
use Rattle.dc_core.specs.Step.{session_after, and_pending, judged, after_hear, settled_core, removed_by, lines_after, ordered}
use Rattle.dc_core.specs.Taking.{IsTaken}
use Rattle.dc_core.specs.Images.{Machine, IsAt}

-- the spelling of one change more
pub spells_push : (bytes : List ℕ) (changes : List Change) (change : Change) → SpellsChanges bytes changes → IsChange change → SpellsChanges (bytes ++ change_bytes change) (changes ++ change ∷ [])
spells_push bytes changes change spells is = record {
  spelled = ap (λ (bs : List ℕ). bs ++ change_bytes change) spells.spelled ∙ flat_map_more change_bytes [] changes change;
  are_changes = All-append IsChange changes (change ∷ []) spells.are_changes (All-push IsChange [] change (λ k d lt. absurd (omega (arith, lt))) is);
}

pub settled_is : (core : Core) (pending : List Change) → length pending ≢ 0 → settled_core core pending ≡ record core { committed = present core; pending = []; lines = settled_lines core.lines }
settled_is core [] some = absurd (some refl)
settled_is core (change ∷ changes) some = refl

pub nothing_waits : (pending : List Change) → length pending ≡ 0 → pending ≡ []
nothing_waits [] none = refl
nothing_waits (change ∷ changes) none = absurd (omega (arith, none))

module _ {D : Type 0} (g : Ghosts D) (origin : D) where
  -- a line changes
  pub at_line : (machine new : Machine D) (core : Core) (line : ℕ) (session : Option Summary) → IsAt g origin machine core
      → new.store ≡ machine.store → new.house ≡ machine.house → new.waiting ≡ machine.waiting → new.lines ≡ put_on line session machine.lines
      → IsAt g origin new (with_session line session core)
  at_line machine new core line session at store house waiting lines =
      let b : Machine D = record machine { lines = put_on line session machine.lines } in
      let e : new ≡ b = λ i. record { store = store i; house = house i; waiting = waiting i; lines = lines i } in
      let all : IsAt g origin b (with_session line session core) = record {
        house_is = at.house_is;
        spells = at.spells;
        count_is = at.count_is;
        accepted = at.accepted;
        lines_are = ap (put_on line session) at.lines_are;
        stopped_is = at.stopped_is;
        keeps = at.keeps;
        stands = at.stands;
        leaves = at.leaves;
      } in
      subst (λ (x : Machine D). IsAt g origin x (with_session line session core)) (sym e) all

  -- an answer that adds no change
  pub at_heard : (machine new : Machine D) (core : Core) (line moment : ℕ) (bytes : List ℕ) (s : Summary) (verdict : Verdict) (heard : LineHeard) → IsAt g origin machine core
      → on_line line machine.lines ≡ Some s → verdict_by s bytes ≡ verdict → and_pending moment core.pending verdict ≡ core.pending
      → new.store ≡ machine.store → new.house ≡ machine.house → new.waiting ≡ machine.waiting → new.lines ≡ put_on line (session_after s verdict) machine.lines
      → IsAt g origin new (after_hear core line moment bytes (Ok heard))
  at_heard machine new core line moment bytes s verdict heard at who is none store house waiting lines =
      let there : on_line line core.lines ≡ Some s = ap (on_line line) (sym at.lines_are) ∙ who in
      let same : judged core line moment s verdict ≡ with_session line (session_after s verdict) core = λ i. record (with_session line (session_after s verdict) core) { pending = none i } in
      rw (there, is, same) (at_line machine new core line (session_after s verdict) at store house waiting lines)

  -- a telegram
  pub at_taken : (machine new : Machine D) (core : Core) (line moment : ℕ) (bytes : List ℕ) (s : Summary) (verdict : Verdict) (change : Change) (heard : LineHeard) → IsAt g origin machine core
      → on_line line machine.lines ≡ Some s → verdict_by s bytes ≡ verdict → and_pending moment core.pending verdict ≡ core.pending ++ change ∷ []
      → new.store ≡ machine.store → IsTaken machine.house new.house machine.waiting new.waiting change → new.lines ≡ put_on line (session_after s verdict) machine.lines
      → IsAt g origin new (after_hear core line moment bytes (Ok heard))
  at_taken machine new core line moment bytes s verdict change heard at who is one store taken lines =
      let there : on_line line core.lines ≡ Some s = ap (on_line line) (sym at.lines_are) ∙ who in
      let pending = core.pending ++ change ∷ [] in
      let to : Core = record (with_session line (session_after s verdict) core) { pending = pending } in
      let same : judged core line moment s verdict ≡ to = λ i. record (with_session line (session_after s verdict) core) { pending = one i } in
      let b : Machine D = record { store = machine.store; house = record machine.house { state = applied change machine.house.state }; waiting = record { bytes = machine.waiting.bytes ++ change_bytes change; count = machine.waiting.count + 1 }; lines = put_on line (session_after s verdict) machine.lines } in
      let e : new ≡ b = λ i. record { store = store i; house = taken.house_is i; waiting = taken.waits i; lines = lines i } in
      let count = length-append core.pending (change ∷ []) in
      let was = at.count_is in
      let all : IsAt g origin b to = record {
        house_is = ap (applied change) at.house_is ∙ sym (after_of_push core.committed core.pending change);
        spells = spells_push machine.waiting.bytes core.pending change at.spells taken.is_change;
        count_is = omega (arith, count, was);
        accepted = accepts_all_of_append machine.house.budget core.committed core.pending (change ∷ []) at.accepted (subst (Accepts machine.house.budget change) at.house_is taken.accepted, tt);
        lines_are = ap (put_on line (session_after s verdict)) at.lines_are;
        stopped_is = at.stopped_is;
        keeps = at.keeps;
        stands = at.stands;
        leaves = λ h image is_image. longer_front register (half_of g machine.store.disk) core.committed core.pending (change ∷ []) image (at.leaves h image is_image);
      } in
      rw (there, is, same) (subst (λ (x : Machine D). IsAt g origin x to) (sym e) all)

  -- a command, where nothing waited
  pub at_ordered : (machine new : Machine D) (core : Core) (change : Change) → IsAt g origin machine core → machine.waiting.count ≡ 0 → IsChange change → Accepts machine.house.budget change machine.house.state
      → new.store ≡ machine.store → new.house ≡ record machine.house { state = applied change machine.house.state }
      → new.waiting ≡ record { bytes = machine.waiting.bytes ++ change_bytes change; count = machine.waiting.count + 1 } → new.lines ≡ lines_after (removed_by change) machine.lines
      → IsAt g origin new (ordered change core)
  at_ordered machine new core change at empty is_change accepted store house waiting lines =
      let pending = core.pending ++ change ∷ [] in
      let none = nothing_waits core.pending (sym at.count_is ∙ empty) in
      let to : Core = record core { pending = pending; lines = lines_after (removed_by change) core.lines } in
      let same : to ≡ ordered change core = λ i. record core { pending = ap (λ (p : List Change). p ++ change ∷ []) none i; lines = lines_after (removed_by change) core.lines } in
      let b : Machine D = record { store = machine.store; house = record machine.house { state = applied change machine.house.state }; waiting = record { bytes = machine.waiting.bytes ++ change_bytes change; count = machine.waiting.count + 1 }; lines = lines_after (removed_by change) machine.lines } in
      let e : new ≡ b = λ i. record { store = store i; house = house i; waiting = waiting i; lines = lines i } in
      let count = length-append core.pending (change ∷ []) in
      let was = at.count_is in
      let all : IsAt g origin b to = record {
        house_is = ap (applied change) at.house_is ∙ sym (after_of_push core.committed core.pending change);
        spells = spells_push machine.waiting.bytes core.pending change at.spells is_change;
        count_is = omega (arith, count, was);
        accepted = accepts_all_of_append machine.house.budget core.committed core.pending (change ∷ []) at.accepted (subst (Accepts machine.house.budget change) at.house_is accepted, tt);
        lines_are = ap (lines_after (removed_by change)) at.lines_are;
        stopped_is = at.stopped_is;
        keeps = at.keeps;
        stands = at.stands;
        leaves = λ h image is_image. longer_front register (half_of g machine.store.disk) core.committed core.pending (change ∷ []) image (at.leaves h image is_image);
      } in
      subst (λ (c : Core). IsAt g origin new c) same (subst (λ (x : Machine D). IsAt g origin x to) (sym e) all)

  -- a commit that is done
  pub at_committed : (machine new : Machine D) (core : Core) → IsAt g origin machine core → machine.waiting.count ≢ 0 → machine.store.is_stopped ≡ false
      → new.store.is_stopped ≡ false → (g.keeps origin → Keeps g new.store (present core)) → new.house ≡ machine.house → new.waiting ≡ record { bytes = []; count = 0 } → new.lines ≡ settled_lines machine.lines
      → IsAt g origin new (settled_core core core.pending)
  at_committed machine new core at some runs running kept house waiting lines =
      let to : Core = record core { committed = present core; pending = []; lines = settled_lines core.lines } in
      let all : IsAt g origin new to = record {
        house_is = ap (λ (h : Held). h.state) house ∙ at.house_is;
        spells = record { spelled = ap (λ (w : Waiting). w.bytes) waiting; are_changes = λ k d lt. absurd (omega (arith, lt)) };
        count_is = ap (λ (w : Waiting). w.count) waiting;
        accepted = tt;
        lines_are = lines ∙ ap settled_lines at.lines_are;
        stopped_is = running ∙ sym runs ∙ at.stopped_is;
        keeps = λ h still. kept h;
        stands = λ h still image is. kept_stands register g new.store (present core) image (kept h) is;
        leaves = λ h image is. record { count = 0; within = omega arith; stands = kept_stands register g new.store (present core) image (kept h) is };
      } in
      subst (λ (c : Core). IsAt g origin new c) (sym (settled_is core core.pending (λ e. some (at.count_is ∙ e)))) all

  -- a commit in which the disk failed
  pub at_device : (machine new : Machine D) (core : Core) → IsAt g origin machine core → new.store.is_stopped ≡ true
      → (g.keeps origin → (image : Image) → IsImage (g.choices new.store.disk) image → StandsForFront (half_of g new.store.disk) core.committed core.pending image)
      → new.house ≡ machine.house → new.waiting ≡ machine.waiting → new.lines ≡ machine.lines → IsAt g origin new (record core { stopped = true })
  at_device machine new core at stopped left house waiting lines = record {
    house_is = ap (λ (h : Held). h.state) house ∙ at.house_is;
    spells = subst (λ (w : Waiting). SpellsChanges w.bytes core.pending) (sym waiting) at.spells;
    count_is = ap (λ (w : Waiting). w.count) waiting ∙ at.count_is;
    accepted = subst (λ (h : Held). AcceptsAll h.budget core.committed core.pending) (sym house) at.accepted;
    lines_are = lines ∙ at.lines_are;
    stopped_is = stopped;
    keeps = λ h running. absurd (cc running);
    stands = λ h running. absurd (cc running);
    leaves = left;
  }

  -- an image that was opened
  pub at_opened : (new : Machine D) → new.store.is_stopped ≡ false → (g.keeps origin → Keeps g new.store new.house.state) → new.waiting ≡ record { bytes = []; count = 0 } → new.lines ≡ no_sessions
      → IsAt g origin new (opened new.house.state)
  at_opened new running kept waiting lines = record {
    house_is = refl;
    spells = record { spelled = ap (λ (w : Waiting). w.bytes) waiting; are_changes = λ k d lt. absurd (omega (arith, lt)) };
    count_is = ap (λ (w : Waiting). w.count) waiting;
    accepted = tt;
    lines_are = lines;
    stopped_is = running;
    keeps = λ h still. kept h;
    stands = λ h still image is. kept_stands register g new.store new.house.state image (kept h) is;
    leaves = λ h image is. record { count = 0; within = omega arith; stands = kept_stands register g new.store new.house.state image (kept h) is };
  }
