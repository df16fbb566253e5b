-- Every house that may be reached holds what is said of its sessions and readings.
use Rattle.std.proofs.Common.{◌≡◌, ◌≢◌, ℕ, ◌+◌, ◌-◌, ◌<◌, ◌≤◌, ◌⊎◌, ⊎_elim, inl, inr, Bool, true, false, not, List, [], ◌∷◌, ◌++◌, length, get_or, Option, Some, None, Result, Ok, Err, arith, refl, sym, ◌∙◌, ap, subst, take, get_or-set_other, get_or-set_same}
use Rattle.std.specs.Prelude.{slice_get, is_some, option_map, nat_lt, filter, ◌||◌, if◌then◌else◌}
use Rattle.std.specs.List.{AllByRecursion}
use Rattle.std.specs.BTreeMap.{insert_entry}
use Rattle.std.proofs.Math.ListN.{set}
use Rattle.std.proofs.lemmas.List.{append-nil, length-set, length-map}
use Rattle.std.proofs.lemmas.Bool.{cases_eq, eq-eqb, ne_eqb, eqb-true}
use Rattle.std.proofs.lemmas.Bool.Decides.{nat_tests}
use Rattle.dc_linkframe.specs.Frame.{FrameSeen, spelling}
use Rattle.dc_linkframe.specs.Reading.{frame_of}
use Rattle.dc_linkframe.proofs.Spellings.{frame_of-spelling}
use Rattle.dc_address.specs.declared.identity.Identity.{Identity}
use Rattle.dc_address.specs.Identity.{identity_cmp}
use Rattle.dc_address.proofs.Order.{same_from_tie}
use Rattle.dc_records.specs.Body.{continues}
use Rattle.dc_records.specs.Telegram.{Parsed, telegram_at}
use Rattle.dc_readout.specs.Answer.{is_meter}
use Rattle.dc_readout.specs.Summary.{Summary, Verdict, again, ready, new, failed, asked_by, verdict_by, heard_by, begun}
use Rattle.dc_readout.proofs.Taken.{taken}
use Rattle.dc_readout.specs.declared.stage.Stage.{Stage}
use Rattle.dc_readout.specs.declared.stage.Stage.TheVariants.{Resets, Selects, Requests, Pending, Ended}
use Rattle.dc_readout.specs.Summary.{link_address, reset_of, selection_of, request_of, asked_at}
use Rattle.dc_readout.specs.Meter.{hears_at, gone_on, moved_by}
use Rattle.dc_readout.specs.Standing.{Standing}
use Rattle.dc_readout.specs.World.{more_in}
use Rattle.dc_readout.specs.InStep.{bit_after}
use Rattle.dc_readout.proofs.Moves.{moved_by-request}
use Rattle.dc_readout.proofs.Worlds.{cond_place, reset_stays, selection_stays, not_gone_on}
use Rattle.mbdc_change.specs.State.{State, MeterRow, PartRow, ReadingRow, row_of}
use Rattle.mbdc_change.specs.Apply.{applied, commanded, moved, swapped, heard as told_at}
use Rattle.mbdc_change.specs.Accepts.{Accepts, is_known}
use Rattle.mbdc_change.specs.History.{after}
use Rattle.mbdc_change.proofs.History.{after_of_append, after_of_push}
use Rattle.mbdc_change.specs.declared.change.Change.{Change}
use Rattle.mbdc_change.specs.declared.change.Change.TheVariants.{Command as Numbered}
use Rattle.mbdc_change.specs.declared.command.Command.{Command}
use Rattle.mbdc_change.specs.declared.command.Command.TheVariants.{Fit, Move, Out, Confirm, Swap}
use Rattle.dc_upload.proofs.Verdicts.{IsOrder, order_of}
use Rattle.dc_core.specs.Lines.{is_line, settled_on}
use Rattle.dc_core.specs.Core.{Core, present, session_of, with_session, opened}
use Rattle.dc_core.specs.Event.{Event, Answer, starts, asks, hears, commits, offices, started, asked, heard, committed, replied}
use Rattle.dc_core.specs.Event.{Reply, unread, unstored, obeyed, uncommitted}
use Rattle.dc_core.specs.declared.fault.StartFault.{StartFault}
use Rattle.dc_core.specs.declared.fault.HearFault.{HearFault}
use Rattle.dc_core.specs.declared.fault.HearFault.TheVariants.{NoLine, Idle, Stopped}
use Rattle.dc_core.specs.declared.fault.CommitFault.{CommitFault}
use Rattle.dc_core.specs.declared.fault.CommitFault.TheVariants.{Device, Worn, Stopped as CommitStopped}
use Rattle.dc_core.specs.declared.line_heard.LineHeard.{LineHeard}
use Rattle.dc_core.specs.Taking.{change_of}
use Rattle.dc_core.specs.Step.{May, next, is_on, address_in, answer_on, hear_answer, judged, heard_on, and_pending, asked_on, settled_core, settled, held, removed_by, ordered, after_commit}
use Rattle.dc_core.specs.Transcript.{Turn, leads, IsChain, accepted_by, taken_from}
use Rattle.dc_core.specs.Headline.{IsPrefix, accepted}
use Rattle.dc_core.proofs.Fronts.{promised_is_committed}
use Rattle.dc_core.proofs.Going.{accepted_push, chain_push, leads_push}
use Rattle.dc_core.proofs.Registered.{row_of_same, row_of_other}
use Rattle.dc_core.proofs.Ordered.{at_meter, insert_other, remove_other, apart_from_new, left_on, get_left, other_meter, accepted_new}
use Rattle.dc_core.proofs.Followed.{start_split, asks_split, get_settled, get_nobody, nothing_left, length-lines_after}
use Rattle.mbdc_theorems.specs.House.{Sends, Bus, Buses, House, formatted, goes_on, opens_again, time_passes, meters_change, HaveBodies, AreRenewed, IsOnBuses, IsSent, put_bus, quiet, IsWholeReading, AreWhole, SpeakForThemselves, HasOpen, GoesOnFromCommitted, EachReadingIsWhole, MetersGoOnFromCommitted}
use Rattle.mbdc_theorems.proofs.Sessions.{AreInStep, exchanged_bodies, Agrees, AgreesOn, IsSameRow, held_at, renewed_on, row_kept, begun_agrees, sent_agrees, again_agrees, ready_agrees, given, joined_all, told_agrees, told_whole, told_beside, settled_agrees}

-- ---- the lines of a house

-- each bus line agrees with its session; places in the list of sessions count from 0, and bus lines from 1
abbrev pub Each : Sends → List (Option Summary) → State → State → Buses → Type 0
Each sends lines base state buses =
    (place : ℕ) → AgreesOn sends (place + 1) (buses (place + 1)) base state (get_or lines place None)

-- WHAT HOLDS OF A HOUSE at any moment
pub record Keeps (sends : Sends) (core : Core) (buses : Buses) : Type 0 where
  pub eight : length core.lines ≡ 8
  pub each : Each sends core.lines core.committed (present core) buses
  pub whole : AreWhole sends (present core)
  pub bodies : (line : ℕ) → HaveBodies sends (buses line).meters

pub put_there : (line other : ℕ) (bus : Bus) (buses : Buses) → other ≡ line → put_bus line bus buses other ≡ bus
put_there line other bus buses e = rw (eq-eqb other line e) refl

pub put_elsewhere : (line other : ℕ) (bus : Bus) (buses : Buses) → other ≢ line → put_bus line bus buses other ≡ buses other
put_elsewhere line other bus buses ne = rw (ne_eqb other line ne) refl

put_bodies : (sends : Sends) (line : ℕ) (bus : Bus) (buses : Buses) → HaveBodies sends bus.meters → ((other : ℕ) → HaveBodies sends (buses other).meters) → (other : ℕ) → HaveBodies sends (put_bus line bus buses other).meters
put_bodies sends line bus buses here others other = ⊎_elim
    (λ (e : other ≡ line). subst (λ (b : Bus). HaveBodies sends b.meters) (sym (put_there line other bus buses e)) here)
    (λ (ne : other ≢ line). subst (λ (b : Bus). HaveBodies sends b.meters) (sym (put_elsewhere line other bus buses ne)) (others other))
    (cases_eq other line)

-- one line changes, and the others agree as before
put_each : (sends : Sends) (line : ℕ) (bus : Bus) (buses : Buses) (lines : List (Option Summary)) (base state : State) → is_line line ≡ true
    → AgreesOn sends line bus base state (get_or lines (line - 1) None)
    → ((place : ℕ) → place ≢ line - 1 → AgreesOn sends (place + 1) (buses (place + 1)) base state (get_or lines place None))
    → Each sends lines base state (put_bus line bus buses)
put_each sends line bus buses lines base state is here others place =
    let there : line - 1 + 1 ≡ line = grind (arith, nat_tests) in
    ⊎_elim
    (λ (e : place ≡ line - 1).
    let same : place + 1 ≡ line = omega (arith, e, there) in
    subst (λ b. AgreesOn sends (place + 1) b base state (get_or lines place None)) (sym (put_there line (place + 1) bus buses same))
    (subst (λ l. AgreesOn sends l bus base state (get_or lines place None)) (sym same)
    (subst (λ k. AgreesOn sends line bus base state (get_or lines k None)) (sym e) here)))
    (λ (ne : place ≢ line - 1).
    subst (λ b. AgreesOn sends (place + 1) b base state (get_or lines place None))
    (sym (put_elsewhere line (place + 1) bus buses (λ same. ne (omega (arith, same, there))))) (others place ne))
    (cases_eq place (line - 1))

-- a session comes or goes
set_each : (sends : Sends) (line : ℕ) (bus : Bus) (buses : Buses) (lines : List (Option Summary)) (session : Option Summary) (base state : State) → is_line line ≡ true → length lines ≡ 8
    → AgreesOn sends line bus base state session
    → ((place : ℕ) → place ≢ line - 1 → AgreesOn sends (place + 1) (buses (place + 1)) base state (get_or lines place None))
    → Each sends (set lines (line - 1) session) base state (put_bus line bus buses)
set_each sends line bus buses lines session base state is eight here others =
    let low : line - 1 < 8 = grind (arith, nat_tests) in
    put_each sends line bus buses (set lines (line - 1) session) base state is
    (subst (λ x. AgreesOn sends line bus base state x) (sym (get_or-set_same lines (line - 1) session None (omega (arith, eight, low)))) here)
    (λ place ne. subst (λ x. AgreesOn sends (place + 1) (buses (place + 1)) base state x) (sym (get_or-set_other lines (line - 1) place session None ne)) (others place ne))

-- who is on a bus line
on_bus : (sends : Sends) (core : Core) (buses : Buses) (line : ℕ) → is_line line ≡ true → Keeps sends core buses → AgreesOn sends line (buses line) core.committed (present core) (session_of core line)
on_bus sends core buses line is keeps =
    let place : line - 1 + 1 ≡ line = grind (arith, nat_tests) in
    subst (λ l. AgreesOn sends l (buses l) core.committed (present core) (session_of core line)) place (keeps.each (line - 1))

-- ---- one turn

-- at most one change is accepted
abbrev pub AreFew : List Change → Type 0
AreFew [] = Unit {0}
AreFew (change ∷ []) = Unit {0}
AreFew (change ∷ other ∷ more) = ⊥

pub record Goes (sends : Sends) (core : Core) (event : Event) (answer : Answer) (buses : Buses) : Type 0 where
  pub keeps : Keeps sends (next core event answer) buses
  pub few : AreFew (accepted_by core event answer)

abbrev OneTurn : Sends → Event → Answer → Type 0
OneTurn sends event answer =
    (budget : ℕ) (core : Core) (old buses : Buses) → SpeakForThemselves sends → Keeps sends core old → May budget core event answer → IsOnBuses event answer old buses → Goes sends core event answer buses

stays : (sends : Sends) (core : Core) (old buses : Buses) → Keeps sends core old → buses ≡ old → Keeps sends core buses
stays sends core old buses keeps e = subst (λ b. Keeps sends core b) (sym e) keeps

-- ---- start

on_row : (line : ℕ) (found : Option MeterRow) → is_on line found ≡ true → (row : MeterRow) × (found ≡ Some row) × (row.line ≡ line)
on_row line None e = absurd cc
on_row line (Some row) e = (row, refl, eqb-true row.line line e)

turn_start : (sends : Sends) (line : ℕ) (meter : Identity) (answer : Result (Unit {0}) StartFault) → OneTurn sends (starts line meter) (started answer)
turn_start sends line meter (Err fault) budget core old buses sound keeps may on = record { keeps = stays sends core old buses keeps on; few = tt }
turn_start sends line meter (Ok done) budget core old buses sound keeps may on =
    let found = row_of meter (present core) in
    let ok = start_split (is_line line) core.stopped (is_on line found) (is_some (session_of core line)) done may in
    let row = on_row line found ok.1 in
    let session : Option Summary = Some (begun meter (address_in found)) in
    record {
      keeps = subst (λ b. Keeps sends (with_session line session core) b) (sym on) (record {
        eight = length-set core.lines (line - 1) session ∙ keeps.eight;
        each = set_each sends line (quiet (old line)) old core.lines session core.committed (present core) ok.0 keeps.eight
            (begun_agrees sends line (old line) core.committed (present core) meter (address_in found) row.0 row.1 row.2) (λ place ne. keeps.each place);
        whole = keeps.whole;
        bodies = put_bodies sends line (quiet (old line)) old (keeps.bodies line) keeps.bodies;
      });
      few = tt;
    }

-- ---- ask

record IsAsked (core : Core) (line : ℕ) (request : List ℕ) : Type 0 where
  session : Summary
  frame : FrameSeen
  on_line : session_of core line ≡ Some session
  asks_it : asked_by session ≡ Some frame
  is : request ≡ spelling frame

asked_frame : (s : Summary) (asked : Option FrameSeen) (request : List ℕ) → asked_by s ≡ asked → ◌≡◌ {A = Option (List ℕ)} (Some request) (option_map spelling asked) → (frame : FrameSeen) × (asked_by s ≡ Some frame) × (request ≡ spelling frame)
asked_frame s None request e is = absurd cc
asked_frame s (Some frame) request e is = (frame, e, cc)

asked_session : (core : Core) (line : ℕ) (request : List ℕ) (session : Option Summary) → session_of core line ≡ session → ◌≡◌ {A = Option (List ℕ)} (Some request) (asked_on session) → IsAsked core line request
asked_session core line request None on e = absurd cc
asked_session core line request (Some s) on e =
    let x = asked_frame s (asked_by s) request refl e in
    record { session = s; frame = x.0; on_line = on; asks_it = x.1; is = x.2 }

ask_split : (a b : Bool) (rest : Option (List ℕ)) (request : List ℕ) → ◌≡◌ {A = Option (List ℕ)} (Some request) (if not a || b then None else rest) → (a ≡ true) × (Some request ≡ rest)
ask_split false b rest request e = absurd cc
ask_split true true rest request e = absurd cc
ask_split true false rest request e = (refl, e)

turn_ask : (sends : Sends) (line : ℕ) (answer : Option (List ℕ)) → OneTurn sends (asks line) (asked answer)
turn_ask sends line None budget core old buses sound keeps may on = record { keeps = stays sends core old buses keeps on; few = tt }
turn_ask sends line (Some request) budget core old buses sound keeps may on =
    let ok = ask_split (is_line line) core.stopped (asked_on (session_of core line)) request may in
    let x = asked_session core line request (session_of core line) refl ok.1 in
    let bus = on.0 in
    let sent : IsSent request (old line) bus = on.1 in
    let frames : Some sent.request ≡ Some x.frame = sym sent.frame_is ∙ ap frame_of x.is ∙ frame_of-spelling x.frame in
    let asks_it : asked_by x.session ≡ Some sent.request = x.asks_it ∙ sym frames in
    let agrees = subst (λ o. AgreesOn sends line (old line) core.committed (present core) o) x.on_line (on_bus sends core old line ok.0 keeps) in
    let after_it = sent_agrees sends line (old line) bus core.committed (present core) x.session sent.request sound (keeps.bodies line) asks_it sent.exchanged agrees in
    record {
      keeps = subst (λ b. Keeps sends core b) (sym on.2) (record {
        eight = keeps.eight;
        each = put_each sends line bus old core.lines core.committed (present core) ok.0
            (subst (λ o. AgreesOn sends line bus core.committed (present core) o) (sym x.on_line) after_it)
            (λ place ne. keeps.each place);
        whole = keeps.whole;
        bodies = put_bodies sends line bus old (exchanged_bodies sends sent.request (old line) bus sent.exchanged (keeps.bodies line)) keeps.bodies;
      });
      few = tt;
    }

-- ---- hear

-- the session changes, and nothing is accepted
hear_quiet : (sends : Sends) (core : Core) (old : Buses) (line : ℕ) (session : Option Summary) → is_line line ≡ true → Keeps sends core old → AgreesOn sends line (quiet (old line)) core.committed (present core) session
    → Keeps sends (with_session line session core) (put_bus line (quiet (old line)) old)
hear_quiet sends core old line session is keeps agrees = record {
  eight = length-set core.lines (line - 1) session ∙ keeps.eight;
  each = set_each sends line (quiet (old line)) old core.lines session core.committed (present core) is keeps.eight agrees (λ place ne. keeps.each place);
  whole = keeps.whole;
  bodies = put_bodies sends line (quiet (old line)) old (keeps.bodies line) keeps.bodies;
}

with_telegram : (sends : Sends) (core : Core) (old : Buses) (line moment part : ℕ) (bytes : List ℕ) (t : Parsed) (s : Summary) → SpeakForThemselves sends → is_line line ≡ true → Keeps sends core old
    → (old line).answer ≡ Some bytes → verdict_by s bytes ≡ new part t → Agrees sends line (old line) core.committed (present core) s
    → Keeps sends (record (with_session line (Some (heard_by s (new part t))) core) { pending = core.pending ++ change_of moment part t ∷ [] }) (put_bus line (quiet (old line)) old)
with_telegram sends core old line moment part bytes t s sound is keeps received v a =
    let state = present core in
    let at = taken s bytes part t v in
    let more = continues t.ending in
    let piece : PartRow = record { moment = moment; body = t.body } in
    let g = given sends line (old line) core.committed state s bytes part t received v a in
    let m = joined_all sends line (old line) core.committed state s part t piece a at g refl in
    let says : more_after_is t ≡ more = ap more_in at.whole in
    let found : row_of t.header.identity state ≡ Some a.row = ap (λ (i : Identity). row_of i state) at.own ∙ a.found in
    let told : after core.committed (core.pending ++ change_of moment part t ∷ []) ≡ told_at s.meter more part piece (Some a.row) state =
    after_of_push core.committed core.pending (change_of moment part t)
    ∙ ap (λ (o : Option MeterRow). told_at t.header.identity more part piece o state) found
    ∙ ap (λ (i : Identity). told_at i more part piece (Some a.row) state) at.own in
    let session : Option Summary = Some (heard_by s (new part t)) in
    let there : line - 1 + 1 ≡ line = grind (arith, nat_tests) in
    record {
      eight = length-set core.lines (line - 1) session ∙ keeps.eight;
      each = subst (λ x. Each sends (set core.lines (line - 1) session) core.committed x (put_bus line (quiet (old line)) old)) (sym told)
          (set_each sends line (quiet (old line)) old core.lines session core.committed (told_at s.meter more part piece (Some a.row) state) is keeps.eight
          (told_agrees sends line (old line) core.committed state s part t piece more a refl says g m)
          (λ place ne. told_beside sends line (place + 1) (old (place + 1)) core.committed state s.meter a.row more part piece (get_or core.lines place None) a.found a.on_line
          (λ same. ne (omega (arith, same, there))) (keeps.each place)));
      whole = subst (AreWhole sends) (sym told) (told_whole sends line (old line) core.committed state s part t piece more a says m keeps.whole);
      bodies = put_bodies sends line (quiet (old line)) old (keeps.bodies line) keeps.bodies;
    }
  where
    more_after_is : Parsed → Bool
    more_after_is x = more_in (telegram_at x.body)

hear_verdict : (sends : Sends) (budget : ℕ) (core : Core) (old : Buses) (line moment : ℕ) (bytes : List ℕ) (s : Summary) → SpeakForThemselves sends → is_line line ≡ true → Keeps sends core old
    → (old line).answer ≡ Some bytes → Agrees sends line (old line) core.committed (present core) s
    → (v : Verdict) → verdict_by s bytes ≡ v → Keeps sends (judged core line moment s v) (put_bus line (quiet (old line)) old)
hear_verdict sends budget core old line moment bytes s sound is keeps received a again v =
    hear_quiet sends core old line (Some (heard_by s again)) is keeps (again_agrees sends line (old line) core.committed (present core) s a)
hear_verdict sends budget core old line moment bytes s sound is keeps received a ready v =
    hear_quiet sends core old line (Some (heard_by s ready)) is keeps (ready_agrees sends line (old line) core.committed (present core) s bytes received v a)
hear_verdict sends budget core old line moment bytes s sound is keeps received a (failed why) v =
    hear_quiet sends core old line None is keeps tt
hear_verdict sends budget core old line moment bytes s sound is keeps received a (new part t) v =
    with_telegram sends core old line moment part bytes t s sound is keeps received v a

hear_session : (sends : Sends) (budget : ℕ) (core : Core) (old : Buses) (line moment : ℕ) (bytes : List ℕ) (answer : LineHeard) → SpeakForThemselves sends → is_line line ≡ true → Keeps sends core old
    → (old line).answer ≡ Some bytes → (session : Option Summary) → AgreesOn sends line (old line) core.committed (present core) session
    → ◌≡◌ {A = Result LineHeard HearFault} (Ok answer) (answer_on budget core moment bytes session) → Keeps sends (heard_on core line moment bytes session) (put_bus line (quiet (old line)) old)
hear_session sends budget core old line moment bytes answer sound is keeps received None a e = absurd (cc e)
hear_session sends budget core old line moment bytes answer sound is keeps received (Some s) a e =
    hear_verdict sends budget core old line moment bytes s sound is keeps received a (verdict_by s bytes) refl

few_pending : (moment : ℕ) (v : Verdict) → AreFew (and_pending moment [] v)
few_pending moment again = tt
few_pending moment ready = tt
few_pending moment (new part t) = tt
few_pending moment (failed why) = tt

few_taken : (moment : ℕ) (bytes : List ℕ) (session : Option Summary) → AreFew (taken_from moment bytes session)
few_taken moment bytes None = tt
few_taken moment bytes (Some s) = few_pending moment (verdict_by s bytes)

turn_hear : (sends : Sends) (line moment : ℕ) (bytes : List ℕ) (answer : Result LineHeard HearFault) → OneTurn sends (hears line moment bytes) (heard answer)
turn_hear sends line moment bytes (Err fault) budget core old buses sound keeps may on = record { keeps = stays sends core old buses keeps on; few = tt }
turn_hear sends line moment bytes (Ok answer) budget core old buses sound keeps may on =
    let right : Ok answer ≡ hear_answer budget core line moment bytes = ⊎_elim (λ e. e) (λ bad. absurd (cc bad.0)) may in
    let ok = asks_split (is_line line) core.stopped true NoLine Stopped Idle (Ok answer) (answer_on budget core moment bytes (session_of core line)) (λ bad. cc bad) (λ bad. cc bad) right in
    record {
      keeps = subst (λ b. Keeps sends (heard_on core line moment bytes (session_of core line)) b) (sym on.1)
          (hear_session sends budget core old line moment bytes answer sound ok.0 keeps on.0 (session_of core line) (on_bus sends core old line ok.0 keeps) ok.1);
      few = few_taken moment bytes (session_of core line);
    }

-- ---- commit

settled_keeps : (sends : Sends) (core : Core) (pending : List Change) (buses : Buses) → Keeps sends core buses → Keeps sends (settled_core core pending) buses
settled_keeps sends core [] buses keeps = keeps
settled_keeps sends core (change ∷ changes) buses keeps = record {
  eight = length-map core.lines settled_on ∙ keeps.eight;
  each = λ place. subst (λ x. AgreesOn sends (place + 1) (buses (place + 1)) (present core) (present core) x) (sym (get_settled core.lines place))
      (settled_agrees sends (place + 1) (buses (place + 1)) core.committed (present core) (get_or core.lines place None) (keeps.each place));
  whole = keeps.whole;
  bodies = keeps.bodies;
}

failed_keeps : (sends : Sends) (core : Core) (fault : CommitFault) (buses : Buses) → Keeps sends core buses → Keeps sends (after_commit core (Err fault)) buses
failed_keeps sends core Device buses keeps = record { eight = keeps.eight; each = keeps.each; whole = keeps.whole; bodies = keeps.bodies }
failed_keeps sends core Worn buses keeps = keeps
failed_keeps sends core CommitStopped buses keeps = keeps

turn_commit : (sends : Sends) (answer : Result ℕ CommitFault) → OneTurn sends commits (committed answer)
turn_commit sends (Ok count) budget core old buses sound keeps may on =
    record { keeps = stays sends _ old buses (settled_keeps sends core core.pending old keeps) on; few = tt }
turn_commit sends (Err fault) budget core old buses sound keeps may on =
    record { keeps = stays sends _ old buses (failed_keeps sends core fault old keeps) on; few = tt }

-- ---- a line of the office

same_row : (m : Identity) (row : MeterRow) (s later : State) → row_of m s ≡ Some row → row_of m later ≡ row_of m s → IsSameRow m row later
same_row m row s later found same = record { now = row; found = same ∙ found; line = refl; parts = refl }

moved_row : (m meter : Identity) (flat : List ℕ) (row : MeterRow) (s : State) (found : Option MeterRow) → row_of m s ≡ Some row → row_of meter s ≡ found → IsSameRow m row (moved meter flat found s)
moved_row m meter flat row s None is e = same_row m row s s is refl
moved_row m meter flat row s (Some old) is e = by (at_meter m meter) refl
  where
    by : (b : Bool) → at_meter m meter ≡ b → IsSameRow m row (moved meter flat (Some old) s)
    by false at = same_row m row s _ is (row_of_other m meter (record old { flat = flat }) s at)
    by true at =
        let same : m ≡ meter = same_from_tie m meter at in
        let rows : Some row ≡ Some old = sym is ∙ ap (λ (x : Identity). row_of x s) same ∙ e in
        let row_is : row ≡ old = cc rows in
        record {
          now = record old { flat = flat };
          found = ap (λ (x : Identity). row_of x (moved meter flat (Some old) s)) same ∙ row_of_same meter old (record old { flat = flat }) s e;
          line = ap (λ (r : MeterRow). r.line) (sym row_is);
          parts = ap (λ (r : MeterRow). r.parts) (sym row_is);
        }

-- the meter isn't removed
abbrev Stays : Option Identity → Identity → Type 0
Stays None m = Unit {0}
Stays (Some meter) m = at_meter m meter ≡ false

swapped_row : (m old other : Identity) (address : Option ℕ) (row : MeterRow) (s : State) (found : Option MeterRow) → row_of m s ≡ Some row → at_meter m old ≡ false → at_meter m other ≡ false → IsSameRow m row (swapped old other address found s)
swapped_row m old other address row s None is gone come = same_row m row s s is refl
swapped_row m old other address row s (Some before) is gone come =
    let new_row : MeterRow = record { line = before.line; address = address; flat = before.flat; parts = [] } in
    same_row m row s _ is (remove_other m old (insert_entry identity_cmp s.meters other new_row) gone ∙ insert_other m other new_row s.meters come)

command_row : (m : Identity) (number : ℕ) (command : Command) (row : MeterRow) (s : State) → is_known command s ≡ false → Stays (removed_by (Numbered number command)) m → row_of m s ≡ Some row → IsSameRow m row (commanded command s)
command_row m number (Fit meter at address flat) row s free there is =
    let new_row : MeterRow = record { line = at; address = address; flat = flat; parts = [] } in
    same_row m row s _ is (insert_other m meter new_row s.meters (apart_from_new m meter row s is free))
command_row m number (Move meter flat) row s free there is = moved_row m meter flat row s (row_of meter s) is refl
command_row m number (Out meter) row s free there is = same_row m row s _ is (remove_other m meter s.meters there)
command_row m number (Confirm serial) row s free there is = same_row m row s _ is refl
command_row m number (Swap old other address) row s free there is =
    swapped_row m old other address row s (row_of old s) is there (apart_from_new m other row s is free)

filter_whole : (sends : Sends) (test : ReadingRow → Bool) (readings : List ReadingRow) → AllByRecursion (IsWholeReading sends) readings → AllByRecursion (IsWholeReading sends) (filter test readings)
filter_whole sends test [] whole = tt
filter_whole sends test (r ∷ readings) whole = by (filter_whole sends test readings whole.1) (test r) refl
  where
    by : AllByRecursion (IsWholeReading sends) (filter test readings) → (b : Bool) → test r ≡ b → AllByRecursion (IsWholeReading sends) (filter test (r ∷ readings))
    by rest true e = rw e (whole.0, rest)
    by rest false e = rw e rest

moved_whole : (sends : Sends) (meter : Identity) (flat : List ℕ) (found : Option MeterRow) (s : State) → AreWhole sends s → AreWhole sends (moved meter flat found s)
moved_whole sends meter flat None s whole = whole
moved_whole sends meter flat (Some row) s whole = whole

swapped_whole : (sends : Sends) (old other : Identity) (address : Option ℕ) (found : Option MeterRow) (s : State) → AreWhole sends s → AreWhole sends (swapped old other address found s)
swapped_whole sends old other address None s whole = whole
swapped_whole sends old other address (Some row) s whole = whole

command_whole : (sends : Sends) (number : ℕ) (command : Command) (s : State) → AreWhole sends s → AreWhole sends (applied (Numbered number command) s)
command_whole sends number (Fit meter at address flat) s whole = whole
command_whole sends number (Move meter flat) s whole = moved_whole sends meter flat (row_of meter s) s whole
command_whole sends number (Out meter) s whole = whole
command_whole sends number (Confirm serial) s whole = filter_whole sends (λ r. nat_lt serial r.serial) s.readings whole
command_whole sends number (Swap old other address) s whole = swapped_whole sends old other address (row_of old s) s whole

module _ (sends : Sends) (line number : ℕ) (bus : Bus) (base : State) (command : Command) (s : State) (free : is_known command s ≡ false) where
  abbrev this : Change
  this = Numbered number command

  session_stays : (x : Summary) → Stays (removed_by this) x.meter → Agrees sends line bus base s x → Agrees sends line bus base (applied this s) x
  session_stays x there a =
      let same = command_row x.meter number command a.row s free there a.found in
      row_kept sends line bus base s (applied this s) x a (record { now = same.now; found = same.found; line = same.line; parts = same.parts })

  left_agrees : (removed : Option Identity) → removed_by this ≡ removed → (session : Option Summary) → AgreesOn sends line bus base s session → AgreesOn sends line bus base (applied this s) (left_on removed session)
  left_agrees None e None a = tt
  left_agrees None e (Some x) a = session_stays x (subst (λ (r : Option Identity). Stays r x.meter) (sym e) tt) a
  left_agrees (Some meter) e None a = tt
  left_agrees (Some meter) e (Some x) a = by (is_meter meter x.meter) refl
    where
      by : (b : Bool) → is_meter meter x.meter ≡ b → AgreesOn sends line bus base (applied this s) (left_on (Some meter) (Some x))
      by true at = rw at tt
      by false at = rw at (session_stays x (subst (λ (r : Option Identity). Stays r x.meter) (sym e) (other_meter meter x.meter at)) a)

ordered_keeps : (sends : Sends) (budget : ℕ) (core : Core) (change : Change) (buses : Buses) → core.pending ≡ [] → IsOrder (held budget core) change → Keeps sends core buses → Keeps sends (ordered change core) buses
ordered_keeps sends budget core change buses none order keeps =
    let removed = removed_by change in
    let number = order.ordered.number in
    let command = order.ordered.command in
    let now : present core ≡ core.committed = ap (after core.committed) none in
    let free = accepted_new budget number command core.committed (subst (λ (c : Change). Accepts budget c core.committed) order.change_is order.accepted) in
    record {
      eight = length-lines_after removed core.lines ∙ keeps.eight;
      each = λ place.
          let was = subst (λ x. AgreesOn sends (place + 1) (buses (place + 1)) core.committed x (get_or core.lines place None)) now (keeps.each place) in
          let left = left_agrees sends (place + 1) number (buses (place + 1)) core.committed command core.committed free (removed_by (Numbered number command)) refl (get_or core.lines place None) was in
          subst (λ x. AgreesOn sends (place + 1) (buses (place + 1)) core.committed (applied change core.committed) x) (sym (get_left removed core.lines place))
          (subst (λ (c : Change). AgreesOn sends (place + 1) (buses (place + 1)) core.committed (applied c core.committed) (left_on (removed_by c) (get_or core.lines place None))) (sym order.change_is) left);
      whole = subst (λ (c : Change). AreWhole sends (applied c core.committed)) (sym order.change_is)
          (command_whole sends number command core.committed (subst (AreWhole sends) now keeps.whole));
      bodies = keeps.bodies;
    }

turn_office : (sends : Sends) (text : List ℕ) (reply : Reply) → OneTurn sends (offices text) (replied reply)
turn_office sends text unread budget core old buses sound keeps may on = record { keeps = stays sends core old buses keeps on; few = tt }
turn_office sends text (unstored fault) budget core old buses sound keeps may on =
    record { keeps = stays sends _ old buses (failed_keeps sends core fault old keeps) on; few = tt }
turn_office sends text (obeyed number change) budget core old buses sound keeps may on =
    let order = order_of (held budget (settled core)) may.line change may.answer.0 in
    let none = nothing_left core core.pending refl in
    record {
      keeps = stays sends _ old buses (settled_keeps sends (ordered change (settled core)) (change ∷ []) old
          (ordered_keeps sends budget (settled core) change old none order (settled_keeps sends core core.pending old keeps))) on;
      few = tt;
    }
turn_office sends text (uncommitted change fault) budget core old buses sound keeps may on =
    let order = order_of (held budget (settled core)) may.line change may.answer.0 in
    let none = nothing_left core core.pending refl in
    record {
      keeps = stays sends _ old buses (failed_keeps sends (ordered change (settled core)) fault old
          (ordered_keeps sends budget (settled core) change old none order (settled_keeps sends core core.pending old keeps))) on;
      few = tt;
    }
turn_office sends text reply budget core old buses sound keeps may on =
    record { keeps = stays sends _ old buses (settled_keeps sends core core.pending old keeps) on; few = tt }

-- ---- any turn

pub turn : (sends : Sends) (event : Event) (answer : Answer) → OneTurn sends event answer
turn sends (starts line meter) (started answer) = turn_start sends line meter answer
turn sends (asks line) (asked answer) = turn_ask sends line answer
turn sends (hears line moment bytes) (heard answer) = turn_hear sends line moment bytes answer
turn sends commits (committed answer) = turn_commit sends answer
turn sends (offices text) (replied reply) = turn_office sends text reply
turn sends event answer = λ budget core old buses sound keeps may on. absurd may

-- ---- a life

-- a prefix of one change more is one of those before, or all
one_more : (prefix changes : List Change) (change : Change) → IsPrefix prefix (changes ++ change ∷ []) → IsPrefix prefix changes ⊎ (prefix ≡ changes ++ change ∷ [])
one_more [] changes change is = inl (changes, refl)
one_more (p ∷ []) [] change is = let e = is.1 in inr cc
one_more (p ∷ q ∷ prefix) [] change is = let e = is.1 in absurd cc
one_more (p ∷ prefix) (c ∷ changes) change is =
    let e = is.1 in
    let same : c ≡ p = cc in
    let rest : changes ++ change ∷ [] ≡ prefix ++ is.0 = cc in
    ⊎_elim
    (λ (within : IsPrefix prefix changes). inl (within.0, let w = within.1 in ap (λ x. x ∷ changes) same ∙ ap (λ xs. p ∷ xs) w))
    (λ (all : prefix ≡ changes ++ change ∷ []). inr (ap (λ x. x ∷ prefix) (sym same) ∙ ap (λ xs. c ∷ xs) all))
    (one_more prefix changes change (is.0, rest))

few_more : (prefix changes more : List Change) → AreFew more → IsPrefix prefix (changes ++ more) → IsPrefix prefix changes ⊎ (prefix ≡ changes ++ more)
few_more prefix changes [] few is = inl (is.0, sym (append-nil changes) ∙ is.1)
few_more prefix changes (change ∷ []) few is = one_more prefix changes change is
few_more prefix changes (change ∷ other ∷ more) few is = absurd few

-- WHAT HOLDS along all lives
pub record Holds (budget : ℕ) (sends : Sends) (state : State) (turns : List Turn) (buses : Buses) : Type 0 where
  pub keeps : Keeps sends (leads (opened state) turns) buses
  pub chain : IsChain budget (opened state) turns
  pub whole : (prefix : List Change) → IsPrefix prefix (accepted state turns) → AreWhole sends (after state prefix)

opened_keeps : (sends : Sends) (state : State) (buses : Buses) → AreWhole sends state → ((line : ℕ) → HaveBodies sends (buses line).meters) → Keeps sends (opened state) buses
opened_keeps sends state buses whole bodies = record {
  eight = refl;
  each = λ place. subst (λ x. AgreesOn sends (place + 1) (buses (place + 1)) state state x) (sym (get_nobody 8 place)) tt;
  whole = whole;
  bodies = bodies;
}

opened_holds : (budget : ℕ) (sends : Sends) (state : State) (buses : Buses) → AreWhole sends state → ((line : ℕ) → HaveBodies sends (buses line).meters) → Holds budget sends state [] buses
opened_holds budget sends state buses whole bodies = record {
  keeps = opened_keeps sends state buses whole bodies;
  chain = tt;
  whole = λ prefix is. by prefix is.0 is.1;
}
  where
    by : (prefix rest : List Change) → [] ≡ prefix ++ rest → AreWhole sends (after state prefix)
    by [] rest e = whole
    by (p ∷ prefix) rest e = absurd cc

-- the register with what is pending is that after all that was accepted
chain_now : (budget : ℕ) (state : State) (turns : List Turn) → IsChain budget (opened state) turns → present (leads (opened state) turns) ≡ after state (accepted state turns)
chain_now budget state turns chain =
    let holds = promised_is_committed budget state turns chain in
    let pending = (leads (opened state) turns).pending in
    ap (λ (s : State). after s pending) holds.committed ∙ sym (after_of_append state (take holds.count (accepted state turns)) pending) ∙ ap (after state) (sym holds.pending)

goes_holds : (sends : Sends) (budget : ℕ) (state : State) (turns : List Turn) (old buses : Buses) (event : Event) (answer : Answer) → SpeakForThemselves sends → Holds budget sends state turns old
    → May budget (leads (opened state) turns) event answer → IsOnBuses event answer old buses → Holds budget sends state (turns ++ (event, answer) ∷ []) buses
goes_holds sends budget state turns old buses event answer sound holds may on =
    let core = leads (opened state) turns in
    let g = turn sends event answer budget core old buses sound holds.keeps may on in
    let keeps = subst (λ c. Keeps sends c buses) (sym (leads_push (opened state) turns (event, answer))) g.keeps in
    let chain = chain_push budget (opened state) turns (event, answer) holds.chain may in
    let taken_in = accepted_push (opened state) turns (event, answer) in
    record {
      keeps = keeps;
      chain = chain;
      whole = λ prefix is. ⊎_elim
          (λ (within : IsPrefix prefix (accepted state turns)). holds.whole prefix within)
          (λ (all : prefix ≡ accepted state turns ++ accepted_by core event answer).
          subst (λ p. AreWhole sends (after state p)) (taken_in ∙ sym all) (subst (AreWhole sends) (chain_now budget state (turns ++ (event, answer) ∷ []) chain) keeps.whole))
          (few_more prefix (accepted state turns) (accepted_by core event answer) g.few (is.0, sym taken_in ∙ is.1));
    }

-- the meters of a line are others, or have other bodies
with_meters : (sends : Sends) (core : Core) (old : Buses) (line : ℕ) (meters : List Standing) → Keeps sends core old → HaveBodies sends meters
    → ((place : ℕ) → place + 1 ≡ line → AgreesOn sends line (record (old line) { meters = meters }) core.committed (present core) (get_or core.lines place None))
    → Keeps sends core (put_bus line (record (old line) { meters = meters }) old)
with_meters sends core old line meters keeps have there =
    let bus : Bus = record (old line) { meters = meters } in
    record {
      eight = keeps.eight;
      each = λ place. ⊎_elim
          (λ (e : place + 1 ≡ line). subst (λ b. AgreesOn sends (place + 1) b core.committed (present core) (get_or core.lines place None)) (sym (put_there line (place + 1) bus old e))
          (subst (λ l. AgreesOn sends l bus core.committed (present core) (get_or core.lines place None)) (sym e) (there place e)))
          (λ (ne : place + 1 ≢ line). subst (λ b. AgreesOn sends (place + 1) b core.committed (present core) (get_or core.lines place None)) (sym (put_elsewhere line (place + 1) bus old ne)) (keeps.each place))
          (cases_eq (place + 1) line);
      whole = keeps.whole;
      bodies = put_bodies sends line bus old have keeps.bodies;
    }

renewed_keeps : (sends : Sends) (core : Core) (old : Buses) (line : ℕ) (meters : List Standing) → Keeps sends core old → AreRenewed (old line).meters meters → HaveBodies sends meters
    → Keeps sends core (put_bus line (record (old line) { meters = meters }) old)
renewed_keeps sends core old line meters keeps renewed have =
    with_meters sends core old line meters keeps have
    (λ place e. renewed_on sends line (old line) meters core.committed (present core) (get_or core.lines place None) renewed
    (subst (λ l. AgreesOn sends l (old l) core.committed (present core) (get_or core.lines place None)) e (keeps.each place)))

changed_keeps : (sends : Sends) (core : Core) (old : Buses) (line : ℕ) (meters : List Standing) → Keeps sends core old → session_of core line ≡ None → HaveBodies sends meters
    → Keeps sends core (put_bus line (record (old line) { meters = meters }) old)
changed_keeps sends core old line meters keeps nobody have =
    with_meters sends core old line meters keeps have
    (λ place e.
    let at : place ≡ line - 1 = omega (arith, e) in
    subst (λ x. AgreesOn sends line (record (old line) { meters = meters }) core.committed (present core) x) (sym (ap (λ k. get_or core.lines k None) at ∙ nobody)) tt)

pub every_house : (budget : ℕ) (sends : Sends) (state : State) (turns : List Turn) (buses : Buses) → SpeakForThemselves sends → House budget sends state turns buses → Holds budget sends state turns buses
every_house budget sends state turns buses sound (formatted first none have) =
    subst (λ ts. Holds budget sends state ts buses) (sym none) (opened_holds budget sends state buses (subst (AreWhole sends) (sym first) tt) have)
every_house budget sends state turns buses sound (goes_on {turns = before} {old = old} event answer house may on all) =
    subst (λ ts. Holds budget sends state ts buses) (sym all)
    (goes_holds sends budget state before old buses event answer sound (every_house budget sends state before old sound house) may on)
every_house budget sends state turns buses sound (opens_again {state = first} {turns = before} prefix house is found none) =
    let holds = every_house budget sends first before buses sound house in
    subst (λ ts. Holds budget sends state ts buses) (sym none)
    (opened_holds budget sends state buses (subst (AreWhole sends) (sym found) (holds.whole prefix is)) holds.keeps.bodies)
every_house budget sends state turns buses sound (time_passes {old = old} line meters house renewed have is) =
    let holds = every_house budget sends state turns old sound house in
    record { keeps = subst (Keeps sends (leads (opened state) turns)) (sym is) (renewed_keeps sends (leads (opened state) turns) old line meters holds.keeps renewed have); chain = holds.chain; whole = holds.whole }
every_house budget sends state turns buses sound (meters_change {old = old} line meters house nobody have is) =
    let holds = every_house budget sends state turns old sound house in
    record { keeps = subst (Keeps sends (leads (opened state) turns)) (sym is) (changed_keeps sends (leads (opened state) turns) old line meters holds.keeps nobody have); chain = holds.chain; whole = holds.whole }

pub each_reading_is_whole : EachReadingIsWhole
each_reading_is_whole budget sends state turns buses prefix sound house is = (every_house budget sends state turns buses sound house).whole prefix is

-- ---- a meter goes on from what is committed

goes_from : (sends : Sends) (meters : List Standing) (stage : Stage) (identity : Identity) (address : Option ℕ) (n i : ℕ) (request : FrameSeen) (x : Standing)
    → asked_at stage identity address n ≡ Some request → AreInStep meters stage identity address n → slice_get meters i ≡ Some x → x.meter.identity ≡ identity
    → (moved_by request x.meter x.position).place ≡ x.position.place + 1 → (stage ≡ Requests) × (x.position.place ≡ n)
goes_from sends meters Resets identity address n i request x due steps at own e =
    let same : reset_of address ≡ request = cc in
    absurd (reset_stays address x.meter x.position (ap (λ f. (moved_by f x.meter x.position).place) same ∙ e))
goes_from sends meters Selects identity address n i request x due steps at own e =
    let same : selection_of identity ≡ request = cc in
    absurd (selection_stays identity x.meter x.position (ap (λ f. (moved_by f x.meter x.position).place) same ∙ e))
goes_from sends meters Requests identity address n i request x due steps at own e =
    let same : request_of address n ≡ request = cc in
    let moves : (moved_by (request_of address n) x.meter x.position).place ≡ x.position.place + 1 = ap (λ f. (moved_by f x.meter x.position).place) same ∙ e in
    let went = cond_place (hears_at x.meter.address (link_address address) x.position) (gone_on (Some (bit_after n)) x.position) x.position
    (ap (λ q. q.place) (sym (moved_by-request n (link_address address) x.meter x.position)) ∙ moves) in
    (refl, (not_gone_on n x.position went.1 (steps i x at own went.0)).0)
goes_from sends meters (Pending more) identity address n i request x due steps at own e = absurd cc
goes_from sends meters Ended identity address n i request x due steps at own e = absurd cc

keeps_goes : (sends : Sends) (core : Core) (buses : Buses) → Keeps sends core buses → GoesOnFromCommitted sends core buses
keeps_goes sends core buses keeps line i s request x is on due at own e some =
    let a = subst (λ o. AgreesOn sends line (buses line) core.committed (present core) o) on (on_bus sends core buses line is keeps) in
    let g = goes_from sends (buses line).meters s.stage s.meter s.address s.settled i request x due a.steps at own e in
    let held : held_at s.stage s.settled ≡ x.position.place = ap (λ k. held_at k s.settled) g.0 ∙ sym g.1 in
    subst (λ k. HasOpen sends s.meter k core.committed) held (a.kept (subst (λ k. 1 ≤ k) (sym held) some))

pub meters_go_on_from_committed : MetersGoOnFromCommitted
meters_go_on_from_committed budget sends state turns buses sound house =
    keeps_goes sends (leads (opened state) turns) buses (every_house budget sends state turns buses sound house).keeps
