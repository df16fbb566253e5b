-- The effect of each event on a concentrator, and its answer (this product). Each answer is a
-- function of the state, unless memory runs out, the disk fails, or a counter of the store is
-- exhausted.
use Rattle.std.specs.Prelude.{◌≡◌, ◌≢◌, ◌⊎◌, ℕ, Bool, true, false, not, ◌||◌, ◌==◌, Option, None}
use Rattle.std.specs.Prelude.{Some, is_some, option_map, Result, Ok, Err, List, [], ◌∷◌, ◌++◌}
use Rattle.std.specs.Prelude.{length, if◌then◌else◌}
use Rattle.dc_linkframe.specs.Frame.{spelling}
use Rattle.dc_address.specs.declared.identity.Identity.{Identity}
use Rattle.dc_records.specs.Body.{continues}
use Rattle.dc_readout.specs.Summary.{Summary, Verdict, again, ready, new, failed, asked_by}
use Rattle.dc_readout.specs.Summary.{verdict_by, heard_by, begun}
use Rattle.mbdc_change.specs.Apply.{applied}
use Rattle.mbdc_change.specs.declared.change.Change.{Change}
use Rattle.mbdc_change.specs.declared.change.Change.TheVariants.{Telegram, Command as Numbered}
use Rattle.mbdc_change.specs.Command.{meter_removed}
use Rattle.mbdc_change.specs.State.{Held, MeterRow, row_of}
use Rattle.dc_upload.specs.declared.line.OfficeLine.{OfficeLine}
use Rattle.dc_upload.specs.declared.verdict.Verdict.TheVariants.{Repeat, Do, Show, Refuse}
use Rattle.dc_upload.specs.Line.{IsOfficeLine, office_text}
use Rattle.dc_upload.specs.Verdict.{verdict_of}
use Rattle.dc_upload.specs.Reply.{shown_text, TakesMemory}
use Rattle.dc_core.specs.declared.pending.fault.TakeFault.{TakeFault}
use Rattle.dc_core.specs.Lines.{is_line, settled_lines, lines_without}
use Rattle.dc_core.specs.Taking.{change_of, refuses}
use Rattle.dc_core.specs.declared.fault.StartFault.{StartFault}
use Rattle.dc_core.specs.declared.fault.StartFault.TheVariants.{NoLine as StartNoLine, Unknown}
use Rattle.dc_core.specs.declared.fault.StartFault.TheVariants.{Busy, Stopped as StartStopped}
use Rattle.dc_core.specs.declared.line_heard.LineHeard.{LineHeard}
use Rattle.dc_core.specs.declared.line_heard.LineHeard.TheVariants.{Again, Ready, Accepted, Failed}
use Rattle.dc_core.specs.declared.fault.HearFault.{HearFault}
use Rattle.dc_core.specs.declared.fault.HearFault.TheVariants.{NoLine, Idle, NoMemory, Stopped}
use Rattle.dc_core.specs.declared.fault.CommitFault.{CommitFault}
use Rattle.dc_core.specs.declared.fault.CommitFault.TheVariants.{Device, Worn}
use Rattle.dc_core.specs.declared.fault.CommitFault.TheVariants.{Stopped as CommitStopped}
use Rattle.dc_core.specs.Fault.{hear_fault}
use Rattle.dc_core.specs.Core.{Core, present, session_of, with_session}
use Rattle.dc_core.specs.Event.{Event, Answer, starts, asks, hears, commits, offices, started}
use Rattle.dc_core.specs.Event.{asked, heard, committed, replied}
use Rattle.dc_core.specs.Event.{Reply, unread, unstored, repeated, refused, shown, out_of_memory}
use Rattle.dc_core.specs.Event.{obeyed, uncommitted}

-- ---- a readout begins

-- the meter is registered on this bus line
abbrev pub is_on : ℕ → Option MeterRow → Bool
is_on line None = false
is_on line (Some row) = row.line == line

-- the primary address in the meter's row, if it has one
abbrev pub address_in : Option MeterRow → Option ℕ
address_in None = None
address_in (Some row) = row.address

-- A readout starts if the line exists, the concentrator runs, the meter is registered on that line
-- and the line has no session.
abbrev pub start_answer : Core → ℕ → Identity → Result (Unit {0}) StartFault
start_answer core line meter =
    if not (is_line line) then Err StartNoLine
    else if core.stopped then Err StartStopped
    else if not (is_on line (row_of meter (present core))) then Err Unknown
    else if is_some (session_of core line) then Err Busy
    else Ok tt

-- the concentrator after a start: the meter's session is on the line, by the address of the register
abbrev pub after_start : Core → ℕ → Identity → Result (Unit {0}) StartFault → Core
after_start core line meter (Ok done) =
    with_session line (Some (begun meter (address_in (row_of meter (present core))))) core
after_start core line meter (Err fault) = core

-- ---- a request is asked for

-- the bytes of the session's next request, if one is to be sent
abbrev pub asked_on : Option Summary → Option (List ℕ)
asked_on None = None
asked_on (Some s) = option_map spelling (asked_by s)

-- the bytes of the longest request: a selection
abbrev pub longest_request : ℕ
longest_request = 17

-- the bytes of the line's next request; none where the line doesn't exist or the concentrator has stopped
abbrev pub ask_answer : Core → ℕ → Option (List ℕ)
ask_answer core line = if not (is_line line) || core.stopped then None
    else asked_on (session_of core line)

-- ---- an answer is received

-- this answer, unless the telegram's change is refused
abbrev pub unless_refused : Option TakeFault → LineHeard → Result LineHeard HearFault
unless_refused None accepted = Ok accepted
unless_refused (Some fault) accepted = Err (hear_fault fault)

-- a telegram is accepted unless a fault applies to its change
abbrev pub take_answer : ℕ → Core → Change → LineHeard → Result LineHeard HearFault
take_answer budget core change accepted =
    unless_refused (refuses budget (length core.pending) change (present core)) accepted

-- the answer by the session's verdict: try again, acknowledged, a telegram that is accepted or refused, or failed
abbrev pub verdict_answer : ℕ → Core → ℕ → Verdict → Result LineHeard HearFault
verdict_answer budget core moment again = Ok Again
verdict_answer budget core moment ready = Ok Ready
verdict_answer budget core moment (new part telegram) =
    take_answer budget core (change_of moment part telegram)
    (Accepted part (continues telegram.ending))
verdict_answer budget core moment (failed why) = Ok (Failed why)

-- the answer on a line with this session; without an open request the line is idle
abbrev pub answer_on : ℕ → Core → ℕ → List ℕ → Option Summary → Result LineHeard HearFault
answer_on budget core moment bytes None = Err Idle
answer_on budget core moment bytes (Some s) =
    if is_some (asked_by s) then verdict_answer budget core moment (verdict_by s bytes)
    else Err Idle

-- the answer if memory is available
abbrev pub hear_answer : ℕ → Core → ℕ → ℕ → List ℕ → Result LineHeard HearFault
hear_answer budget core line moment bytes =
    if not (is_line line) then Err NoLine
    else if core.stopped then Err Stopped
    else answer_on budget core moment bytes (session_of core line)

-- the session on a line after a verdict; one that failed leaves the line
abbrev pub session_after : Summary → Verdict → Option Summary
session_after s again = Some (heard_by s again)
session_after s ready = Some (heard_by s ready)
session_after s (new part telegram) = Some (heard_by s (new part telegram))
session_after s (failed why) = None

-- a telegram adds its change to the pending changes
abbrev pub and_pending : ℕ → List Change → Verdict → List Change
and_pending moment pending again = pending
and_pending moment pending ready = pending
and_pending moment pending (new part telegram) = pending ++ change_of moment part telegram ∷ []
and_pending moment pending (failed why) = pending

-- the concentrator after a verdict: the session goes on or ends, and a telegram is pending
abbrev pub judged : Core → ℕ → ℕ → Summary → Verdict → Core
judged core line moment s verdict =
    record (with_session line (session_after s verdict) core) {
      pending = and_pending moment core.pending verdict;
    }

-- the concentrator after an answer on a line with this session; nothing changes without a session
abbrev pub heard_on : Core → ℕ → ℕ → List ℕ → Option Summary → Core
heard_on core line moment bytes None = core
heard_on core line moment bytes (Some s) = judged core line moment s (verdict_by s bytes)

-- the concentrator after an answer on a line; after a fault the request stays open
abbrev pub after_hear : Core → ℕ → ℕ → List ℕ → Result LineHeard HearFault → Core
after_hear core line moment bytes (Ok answer) =
    heard_on core line moment bytes (session_of core line)
after_hear core line moment bytes (Err fault) = core

-- the answer reports an accepted telegram: its part number, and whether more parts follow
abbrev pub IsAccepted : Result LineHeard HearFault → Type 0
IsAccepted answer = (part : ℕ) × (more : Bool) × (answer ≡ Ok (Accepted part more))

-- out of memory replaces only the answer of an accepted telegram
abbrev pub MayHear : Result LineHeard HearFault → Result LineHeard HearFault → Type 0
MayHear right answer = (answer ≡ right) ⊎ ((answer ≡ Err NoMemory) × IsAccepted right)

-- ---- the pending changes are committed

-- All pending changes are committed, and each line acknowledges its telegram; if nothing is
-- pending, nothing changes.
abbrev pub settled_core : Core → List Change → Core
settled_core core [] = core
settled_core core (change ∷ changes) =
    record core { committed = present core; pending = []; lines = settled_lines core.lines }

-- A commit that succeeds leaves nothing pending. A failure of the disk stops the concentrator; any other fault changes
-- nothing.
abbrev pub after_commit : Core → Result ℕ CommitFault → Core
after_commit core (Ok count) = settled_core core core.pending
after_commit core (Err Device) = record core { stopped = true }
after_commit core (Err Worn) = core
after_commit core (Err CommitStopped) = core

-- If nothing is pending, the answer is 0. Otherwise the disk may fail or a counter be exhausted,
-- and a stopped concentrator stays stopped.
abbrev pub MayCommit : Core → Result ℕ CommitFault → Type 0
MayCommit core (Ok count) = (count ≡ length core.pending)
    × ((core.pending ≡ []) ⊎ (core.stopped ≡ false))
MayCommit core (Err Device) = (core.pending ≢ []) × (core.stopped ≡ false)
MayCommit core (Err Worn) = (core.pending ≢ []) × (core.stopped ≡ false)
MayCommit core (Err CommitStopped) = (core.pending ≢ []) × (core.stopped ≡ true)

-- ---- a line of the office comes

-- all pending changes are committed before the line is judged
abbrev pub settled : Core → Core
settled core = settled_core core core.pending

-- the state on which a line is judged
abbrev pub held : ℕ → Core → Held
held budget core = record { state = core.committed; budget = budget }

-- the meter that a change removes
abbrev pub removed_by : Change → Option Identity
removed_by (Telegram part moment body) = None
removed_by (Numbered number command) = meter_removed command

-- the sessions after a change; that of a removed meter ends
abbrev pub lines_after : Option Identity → List (Option Summary) → List (Option Summary)
lines_after None lines = lines
lines_after (Some meter) lines = lines_without meter lines

-- The command is the only pending change, and no session reads a meter that it removes.
abbrev pub ordered : Change → Core → Core
ordered change core = record core {
  pending = change ∷ [];
  lines = lines_after (removed_by change) core.lines;
}

-- the concentrator after a reply, where nothing was pending
abbrev pub after_answer : Core → Reply → Core
after_answer core (obeyed number change) = settled (ordered change core)
after_answer core (uncommitted change fault) = after_commit (ordered change core) (Err fault)
after_answer core reply = core

-- A text that is no line changes nothing. If the pending changes couldn't be committed, the state is as after a failed
-- commit. Before any other reply they were committed.
abbrev pub after_reply : Core → Reply → Core
after_reply core unread = core
after_reply core (unstored fault) = after_commit core (Err fault)
after_reply core reply = after_answer (settled core) reply

-- the text spells no line
abbrev pub SpellsNone : List ℕ → Type 0
SpellsNone text = (line : OfficeLine) → IsOfficeLine line → text ≢ office_text line

-- the line is valid, and the text is its spelling
pub record Spells (text : List ℕ) (line : OfficeLine) : Type 0 where
  pub is_line : IsOfficeLine line
  pub text_is : text ≡ office_text line

-- why the pending changes aren't committed: as of a commit, but what has stopped takes no line at all
abbrev pub IsUnstored : Core → CommitFault → Type 0
IsUnstored core Device = (core.pending ≢ []) × (core.stopped ≡ false)
IsUnstored core Worn = (core.pending ≢ []) × (core.stopped ≡ false)
IsUnstored core CommitStopped = core.stopped ≡ true

-- By the verdict on what is committed. A command is done under its number, which is then the last
-- one. A new command and the table of a REPORT need memory.
abbrev pub MayAnswer : ℕ → Core → OfficeLine → Reply → Type 0
MayAnswer budget core line unread = ⊥
MayAnswer budget core line (unstored fault) = ⊥
MayAnswer budget core line (repeated number) =
    (verdict_of (held budget core) line ≡ Repeat) × (number ≡ core.committed.last_number)
MayAnswer budget core line (refused code) = verdict_of (held budget core) line ≡ Refuse code
MayAnswer budget core line (shown text) =
    (verdict_of (held budget core) line ≡ Show) × (text ≡ shown_text line core.committed)
MayAnswer budget core line out_of_memory =
    ((change : Change) × (verdict_of (held budget core) line ≡ Do change)) ⊎ TakesMemory line
MayAnswer budget core line (obeyed number change) =
    (verdict_of (held budget core) line ≡ Do change)
    × (number ≡ (applied change core.committed).last_number)
MayAnswer budget core line (uncommitted change fault) =
    (verdict_of (held budget core) line ≡ Do change) × IsUnstored (ordered change core) fault

-- the line is judged once all pending changes are committed
pub record IsJudged (budget : ℕ) (core : Core) (text : List ℕ) (reply : Reply) : Type 0 where
  pub line : OfficeLine
  pub spells : Spells text line
  pub running : core.stopped ≡ false
  pub answer : MayAnswer budget (settled core) line reply

-- Which replies a text may have: that it is no line, that the pending changes couldn't be committed, or the reply by
-- the verdict on the line that it spells.
abbrev pub MayReply : ℕ → Core → List ℕ → Reply → Type 0
MayReply budget core text unread = SpellsNone text
MayReply budget core text (unstored fault) =
    ((line : OfficeLine) × Spells text line) × IsUnstored core fault
MayReply budget core text reply = IsJudged budget core text reply

-- ---- THE STEP

-- which answers an event may have
abbrev pub May : ℕ → Core → Event → Answer → Type 0
May budget core (starts line meter) (started answer) = answer ≡ start_answer core line meter
May budget core (asks line) (asked answer) = answer ≡ ask_answer core line
May budget core (hears line moment bytes) (heard answer) =
    MayHear (hear_answer budget core line moment bytes) answer
May budget core commits (committed answer) = MayCommit core answer
May budget core (offices text) (replied reply) = MayReply budget core text reply
May budget core event answer = ⊥

-- the concentrator after an event and its answer
abbrev pub next : Core → Event → Answer → Core
next core (starts line meter) (started answer) = after_start core line meter answer
next core (hears line moment bytes) (heard answer) = after_hear core line moment bytes answer
next core commits (committed answer) = after_commit core answer
next core (offices text) (replied reply) = after_reply core reply
next core event answer = core
