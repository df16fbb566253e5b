-- Where the turns of a run say that all is committed, nothing is pending.
use Rattle.std.proofs.Common.{◌≡◌, ◌⊎◌, ⊎_elim, sym, ℕ, Bool, true, false, not, List, [], ◌∷◌, length, Option, Some, None, Result, Ok, Err, inl, inr, refl, ap, ◌∙◌, if◌then◌else◌}
use Rattle.std.specs.Prelude.{is_some}
use Rattle.mbdc_change.specs.declared.change.Change.{Change}
use Rattle.dc_readout.specs.Summary.{Summary, Verdict, again, ready, new, failed, asked_by, verdict_by}
use Rattle.dc_records.specs.Body.{continues}
use Rattle.dc_core.specs.Lines.{is_line}
use Rattle.dc_core.specs.Taking.{change_of, refuses}
use Rattle.dc_core.specs.declared.pending.fault.TakeFault.{TakeFault}
use Rattle.dc_core.specs.Core.{Core, session_of, present}
use Rattle.dc_core.specs.Event.{Event, Answer, Reply, starts, asks, hears, commits, offices, started, asked, heard, committed, replied, unread, unstored, repeated, refused, shown, out_of_memory, obeyed, uncommitted}
use Rattle.dc_core.specs.Step.{May, MayHear, next, unless_refused, verdict_answer, answer_on, hear_answer, and_pending, heard_on, after_hear, settled_core, after_reply}
use Rattle.dc_core.specs.Transcript.{Turn, leads, IsChain}
use Rattle.dc_core.specs.declared.fault.HearFault.{HearFault}
use Rattle.dc_core.specs.declared.fault.HearFault.TheVariants.{NoLine, Idle, Stopped}
use Rattle.dc_core.specs.declared.line_heard.LineHeard.{LineHeard}
use Rattle.dc_core.specs.declared.line_heard.LineHeard.TheVariants.{Again, Ready, Accepted, Failed}
use Rattle.mbdc_poll.specs.Keeping.{Store, all_kept, behind_answer, is_accepted, some_wait, store_behind}

-- ---- an answer that isn't accepted adds nothing

by_refusal : (refusal : Option TakeFault) (number : ℕ) (more : Bool) (answer : LineHeard) → Ok answer ≡ unless_refused refusal (Accepted number more) → is_accepted (Ok answer) ≡ true
by_refusal None number more answer is = ap is_accepted is
by_refusal (Some fault) number more answer is = absurd cc

by_verdict : (budget : ℕ) (core : Core) (moment : ℕ) (verdict : Verdict) (answer : LineHeard) → Ok answer ≡ verdict_answer budget core moment verdict → is_accepted (Ok answer) ≡ false → and_pending moment core.pending verdict ≡ core.pending
by_verdict budget core moment again answer is none = refl
by_verdict budget core moment ready answer is none = refl
by_verdict budget core moment (new number telegram) answer is none =
    absurd (let yes = by_refusal (refuses budget (length core.pending) (change_of moment number telegram) (present core)) number (continues telegram.ending) answer is in cc)
by_verdict budget core moment (failed why) answer is none = refl

by_asked : (asks_one : Bool) (budget : ℕ) (core : Core) (moment : ℕ) (verdict : Verdict) (answer : LineHeard) → Ok answer ≡ (if asks_one then verdict_answer budget core moment verdict else Err Idle) → is_accepted (Ok answer) ≡ false → and_pending moment core.pending verdict ≡ core.pending
by_asked true budget core moment verdict answer is none = by_verdict budget core moment verdict answer is none
by_asked false budget core moment verdict answer is none = absurd cc

by_session : (session : Option Summary) (budget : ℕ) (core : Core) (line moment : ℕ) (bytes : List ℕ) (answer : LineHeard) → Ok answer ≡ answer_on budget core moment bytes session → is_accepted (Ok answer) ≡ false → (heard_on core line moment bytes session).pending ≡ core.pending
by_session None budget core line moment bytes answer is none = refl
by_session (Some s) budget core line moment bytes answer is none = by_asked (is_some (asked_by s)) budget core moment (verdict_by s bytes) answer is none

by_line : (on stopped : Bool) (right : Result LineHeard HearFault) (answer : LineHeard) → Ok answer ≡ (if not on then Err NoLine else if stopped then Err Stopped else right) → Ok answer ≡ right
by_line true false right answer is = is
by_line true true right answer is = absurd cc
by_line false stopped right answer is = absurd cc

by_memory : (right : Result LineHeard HearFault) (answer : LineHeard) → MayHear right (Ok answer) → Ok answer ≡ right
by_memory right answer (inl is) = is
by_memory right answer (inr none) = absurd (let no = none.0 in cc)

pub same_waits : (budget : ℕ) (core : Core) (line moment : ℕ) (bytes : List ℕ) (answer : LineHeard) → MayHear (hear_answer budget core line moment bytes) (Ok answer) → is_accepted (Ok answer) ≡ false → (after_hear core line moment bytes (Ok answer)).pending ≡ core.pending
same_waits budget core line moment bytes answer may none =
    by_session (session_of core line) budget core line moment bytes answer (by_line (is_line line) core.stopped (answer_on budget core moment bytes (session_of core line)) answer (by_memory (hear_answer budget core line moment bytes) answer may)) none

-- ---- each step

hear_step : (budget : ℕ) (core : Core) (line moment : ℕ) (bytes : List ℕ) (told : Result LineHeard HearFault) (store : Store) → MayHear (hear_answer budget core line moment bytes) told → (store ≡ all_kept → core.pending ≡ []) → behind_answer store (heard told) ≡ all_kept
    → (after_hear core line moment bytes told).pending ≡ []
hear_step budget core line moment bytes (Ok Again) store may was is = same_waits budget core line moment bytes Again may refl ∙ was is
hear_step budget core line moment bytes (Ok Ready) store may was is = same_waits budget core line moment bytes Ready may refl ∙ was is
hear_step budget core line moment bytes (Ok (Accepted number more)) store may was is = absurd cc
hear_step budget core line moment bytes (Ok (Failed why)) store may was is = same_waits budget core line moment bytes (Failed why) may refl ∙ was is
hear_step budget core line moment bytes (Err fault) store may was is = was is

pub settled_none : (core : Core) (changes : List Change) → core.pending ≡ changes → (settled_core core changes).pending ≡ []
settled_none core [] is = is
settled_none core (change ∷ changes) is = refl

reply_step : (core : Core) (reply : Reply) (store : Store) → (store ≡ all_kept → core.pending ≡ []) → behind_answer store (replied reply) ≡ all_kept → (after_reply core reply).pending ≡ []
reply_step core unread store was is = was is
reply_step core (unstored fault) store was is = absurd cc
reply_step core (repeated number) store was is = settled_none core core.pending refl
reply_step core (refused code) store was is = settled_none core core.pending refl
reply_step core (shown text) store was is = settled_none core core.pending refl
reply_step core out_of_memory store was is = settled_none core core.pending refl
reply_step core (obeyed number change) store was is = refl
reply_step core (uncommitted change fault) store was is = absurd cc

means_step : (budget : ℕ) (core : Core) (event : Event) (answer : Answer) (store : Store) → May budget core event answer → (store ≡ all_kept → core.pending ≡ []) → behind_answer store answer ≡ all_kept → (next core event answer).pending ≡ []
means_step budget core (starts line meter) (started (Ok done)) store may was is = was is
means_step budget core (starts line meter) (started (Err fault)) store may was is = was is
means_step budget core (starts line meter) (asked request) store may was is = absurd may
means_step budget core (starts line meter) (heard told) store may was is = absurd may
means_step budget core (starts line meter) (committed stored) store may was is = absurd may
means_step budget core (starts line meter) (replied reply) store may was is = absurd may
means_step budget core (asks line) (started told) store may was is = absurd may
means_step budget core (asks line) (asked request) store may was is = was is
means_step budget core (asks line) (heard told) store may was is = absurd may
means_step budget core (asks line) (committed stored) store may was is = absurd may
means_step budget core (asks line) (replied reply) store may was is = absurd may
means_step budget core (hears line moment bytes) (started told) store may was is = absurd may
means_step budget core (hears line moment bytes) (asked request) store may was is = absurd may
means_step budget core (hears line moment bytes) (heard told) store may was is = hear_step budget core line moment bytes told store may was is
means_step budget core (hears line moment bytes) (committed stored) store may was is = absurd may
means_step budget core (hears line moment bytes) (replied reply) store may was is = absurd may
means_step budget core commits (started told) store may was is = absurd may
means_step budget core commits (asked request) store may was is = absurd may
means_step budget core commits (heard told) store may was is = absurd may
means_step budget core commits (committed (Ok count)) store may was is = settled_none core core.pending refl
means_step budget core commits (committed (Err fault)) store may was is = absurd cc
means_step budget core commits (replied reply) store may was is = absurd may
means_step budget core (offices text) (started told) store may was is = absurd may
means_step budget core (offices text) (asked request) store may was is = absurd may
means_step budget core (offices text) (heard told) store may was is = absurd may
means_step budget core (offices text) (committed stored) store may was is = absurd may
means_step budget core (offices text) (replied reply) store may was is = reply_step core reply store was is

-- ---- a run

means_all : (budget : ℕ) (core : Core) (turns : List Turn) (store : Store) → IsChain budget core turns → (store ≡ all_kept → core.pending ≡ []) → store_behind store turns ≡ all_kept → (leads core turns).pending ≡ []
means_all budget core [] store chain was is = was is
means_all budget core (turn ∷ turns) store chain was is =
    means_all budget (next core turn.0 turn.1) turns (behind_answer store turn.1) chain.1 (λ e. means_step budget core turn.0 turn.1 store chain.0 was e) is

pub none_waits : (budget : ℕ) (core : Core) (turns : List Turn) → core.pending ≡ [] → IsChain budget core turns → store_behind all_kept turns ≡ all_kept → (leads core turns).pending ≡ []
none_waits budget core turns empty chain is = means_all budget core turns all_kept chain (λ e. empty) is

-- ---- from whatever was known before

-- an answer leaves what is known of the store, or says it anew
abbrev IsSaying : Answer → Type 0
IsSaying answer = ((store : Store) → behind_answer store answer ≡ store) ⊎ ((one other : Store) → behind_answer one answer ≡ behind_answer other answer)

says : (answer : Answer) → IsSaying answer
says (started done) = inl (λ store. refl)
says (asked request) = inl (λ store. refl)
says (heard (Ok Again)) = inl (λ store. refl)
says (heard (Ok Ready)) = inl (λ store. refl)
says (heard (Ok (Accepted number more))) = inr (λ one other. refl)
says (heard (Ok (Failed why))) = inl (λ store. refl)
says (heard (Err fault)) = inl (λ store. refl)
says (committed (Ok count)) = inr (λ one other. refl)
says (committed (Err fault)) = inr (λ one other. refl)
says (replied unread) = inl (λ store. refl)
says (replied (unstored fault)) = inr (λ one other. refl)
says (replied (repeated number)) = inr (λ one other. refl)
says (replied (refused code)) = inr (λ one other. refl)
says (replied (shown text)) = inr (λ one other. refl)
says (replied out_of_memory) = inr (λ one other. refl)
says (replied (obeyed number change)) = inr (λ one other. refl)
says (replied (uncommitted change fault)) = inr (λ one other. refl)

-- all is kept, whatever was before
kept_from : (turns : List Turn) (store : Store) → store_behind some_wait turns ≡ all_kept → store_behind store turns ≡ all_kept
kept_from [] store is = absurd cc
kept_from (turn ∷ turns) store is = ⊎_elim
    (λ (same : (s : Store) → behind_answer s turn.1 ≡ s).
    ap (λ (s : Store). store_behind s turns) (same store) ∙ kept_from turns store (ap (λ (s : Store). store_behind s turns) (sym (same some_wait)) ∙ is))
    (λ (anew : (one other : Store) → behind_answer one turn.1 ≡ behind_answer other turn.1). ap (λ (s : Store). store_behind s turns) (anew store some_wait) ∙ is)
    (says turn.1)

-- where all is kept after some turns, nothing is pending
pub none_pends : (budget : ℕ) (core : Core) (turns : List Turn) → core.pending ≡ [] → IsChain budget core turns → store_behind some_wait turns ≡ all_kept → (leads core turns).pending ≡ []
none_pends budget core turns empty chain is = none_waits budget core turns empty chain (kept_from turns all_kept is)
