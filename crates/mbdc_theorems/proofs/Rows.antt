-- Each session is on the line of its meter's row, so no meter is read on two lines (for the theorem of specs/Beside).
use Rattle.std.proofs.Common.{◌≡◌, ◌≢◌, ⊎_elim, ℕ, not, ◌+◌, ◌-◌, Bool, true, false, Option, Some, None, Result, Ok, Err, List, [], ◌∷◌, length, get_or, arith, refl, sym, ◌∙◌, ap, subst, get_or-set_same, get_or-set_other, ◌≤◌, ◌++◌, append_assoc, inl, inr}
use Rattle.std.specs.Prelude.{is_some, if◌then◌else◌, ◌==◌}
use Rattle.std.specs.List.{AllByRecursion}
use Rattle.std.proofs.Math.ListN.{set}
use Rattle.std.proofs.lemmas.List.{length-map, length-set}
use Rattle.std.proofs.lemmas.Bool.{cases_eq, eqb-true, eq-eqb}
use Rattle.std.proofs.lemmas.Bool.Decides.{nat_tests}
use Rattle.dc_address.specs.declared.identity.Identity.{Identity}
use Rattle.dc_readout.specs.Summary.{Summary, Verdict, begun, verdict_by}
use Rattle.mbdc_change.specs.declared.change.Change.{Change}
use Rattle.mbdc_change.specs.State.{State, MeterRow, row_of, ReadingRow}
use Rattle.dc_core.specs.Lines.{is_line, line_count, settled_on}
use Rattle.dc_core.specs.declared.fault.StartFault.{StartFault}
use Rattle.dc_core.specs.declared.fault.HearFault.{HearFault}
use Rattle.dc_core.specs.declared.fault.HearFault.TheVariants.{Stopped, Full, Idle, NoLine, NoMemory, PendingFull}
use Rattle.dc_core.specs.declared.fault.StartFault.TheVariants.{NoLine as StartNoLine, Unknown, Busy, Stopped as StartStopped}
use Rattle.dc_core.specs.declared.fault.CommitFault.{CommitFault}
use Rattle.dc_core.specs.declared.fault.CommitFault.TheVariants.{Device, Worn, Stopped as CommitStopped}
use Rattle.dc_core.specs.declared.line_heard.LineHeard.{LineHeard}
use Rattle.dc_core.specs.Core.{Core, present, session_of, with_session, opened}
use Rattle.dc_core.specs.Event.{Event, Answer, starts, asks, hears, commits, offices, started, asked, heard, committed}
use Rattle.dc_core.specs.Step.{May, next, is_on, address_in, start_answer, answer_on, session_after, judged, heard_on, settled_core, after_commit, and_pending, MayHear}
use Rattle.dc_core.specs.Transcript.{Turn, leads, IsChain}
use Rattle.dc_core.proofs.Followed.{get_nobody, get_settled}
use Rattle.dc_core.proofs.Going.{leads_append}
use Rattle.dc_core.proofs.Told.{chain_parts}
use Rattle.dc_records.specs.Telegram.{Parsed}
use Rattle.mbdc_change.specs.Apply.{applied}
use Rattle.dc_core.specs.Taking.{change_of}
use Rattle.mbdc_poll.specs.Queue.{Lacks, AreApart}
use Rattle.mbdc_change.specs.History.{after}
use Rattle.mbdc_theorems.specs.Beside.{IsOnlyOn, IsOfLines, GoesBeside, ReadoutsOfARunEnd, IsElsewhere, IsTakenUnlessFull, readings_of}
use Rattle.mbdc_theorems.specs.Readout.{CanBegin, Scene}
use Rattle.mbdc_theorems.proofs.Beside.{readouts_end_beside_others}
use Rattle.mbdc_theorems.proofs.Rounds.{lines_are_kept}
use Rattle.mbdc_theorems.proofs.Others.{start_parts, heard_line, low_place, settled_meter, session_meter, judged_leaves, HasRow, row_leaves, Keeps, judged_keeps, places_differ}
use Rattle.mbdc_theorems.proofs.Facts.{all_left, all_right, IsSupplied, WasRead}
use Rattle.mbdc_theorems.specs.Carried.{Wire}
use Rattle.mbdc_theorems.specs.Every.{IsRead}

-- this meter is registered on this line
abbrev pub IsRegisteredOn : ℕ → Identity → State → Type 0
IsRegisteredOn line meter s = HasRow (λ (row : MeterRow). row.line ≡ line) meter s

pub record AreOnTheirRows (core : Core) : Type 0 where
  pub eight : length core.lines ≡ line_count
  pub each : (k : ℕ) (s : Summary) → get_or core.lines k None ≡ Some s → IsRegisteredOn (k + 1) s.meter (present core)

-- ---- one turn

place_of : (line : ℕ) → is_line line ≡ true → line - 1 + 1 ≡ line
place_of line is = grind (arith, nat_tests)

with_one : (core : Core) (line : ℕ) (session : Option Summary) → is_line line ≡ true → AreOnTheirRows core → ((s : Summary) → session ≡ Some s → IsRegisteredOn line s.meter (present core)) → AreOnTheirRows (with_session line session core)
with_one core line session is old fresh = record {
  eight = length-set core.lines (line - 1) session ∙ old.eight;
  each = λ k s there. ⊎_elim
      (λ (e : k ≡ line - 1).
      let here : get_or (set core.lines (line - 1) session) k None ≡ session =
      ap (λ (j : ℕ). get_or (set core.lines (line - 1) session) j None) e ∙ get_or-set_same core.lines (line - 1) session None (low_place line core.lines is old.eight) in
      let same : line ≡ k + 1 = sym (place_of line is) ∙ ap (λ (j : ℕ). j + 1) (sym e) in
      subst (λ (n : ℕ). IsRegisteredOn n s.meter (present core)) same (fresh s (sym here ∙ there)))
      (λ (apart : k ≢ line - 1). old.each k s (sym (get_or-set_other core.lines (line - 1) k session None apart) ∙ there))
      (cases_eq k (line - 1));
}

registered_by : (line : ℕ) (meter : Identity) (s : State) (row : Option MeterRow) → row_of meter s ≡ row → is_on line row ≡ true → IsRegisteredOn line meter s
registered_by line meter s None found on = absurd cc
registered_by line meter s (Some row) found on = record { row = row; found = found; is = eqb-true row.line line on }

starts_rows : (budget : ℕ) (core : Core) (line : ℕ) (meter : Identity) (answer : Result (Unit {0}) StartFault) → May budget core (starts line meter) (started answer) → AreOnTheirRows core → AreOnTheirRows (next core (starts line meter) (started answer))
starts_rows budget core line meter (Err fault) may old = old
starts_rows budget core line meter (Ok done) may old =
    let b = start_parts (is_line line) core.stopped (is_on line (row_of meter (present core))) (is_some (session_of core line)) done may in
    let session : Summary = begun meter (address_in (row_of meter (present core))) in
    with_one core line (Some session) b.0 old (λ s e.
    let same : session ≡ s = cc in
    subst (λ (x : Summary). IsRegisteredOn line x.meter (present core)) same (registered_by line meter (present core) (row_of meter (present core)) refl b.2))

module _ (core : Core) (line moment : ℕ) (bytes : List ℕ) (is : is_line line ≡ true) (old : AreOnTheirRows core) where
  judged_on : (s : Summary) (v : Verdict) → IsRegisteredOn line s.meter (present core) → AreOnTheirRows (judged core line moment s v)
  judged_on s v r =
      let one = with_one core line (session_after s v) is old (λ x there. subst (λ (m : Identity). IsRegisteredOn line m (present core)) (sym (session_meter s x v there)) r) in
      record {
        eight = one.eight;
        each = λ k x there.
            judged_leaves (IsRegisteredOn (k + 1) x.meter) (row_leaves (λ (row : MeterRow). row.line ≡ k + 1) (λ row parts on. on) x.meter) core line moment s v (one.each k x there);
      }

  heard_by_line : (session : Option Summary) → session_of core line ≡ session → AreOnTheirRows (heard_on core line moment bytes session)
  heard_by_line None on = old
  heard_by_line (Some s) on = judged_on s (verdict_by s bytes) (subst (λ (n : ℕ). IsRegisteredOn n s.meter (present core)) (place_of line is) (old.each (line - 1) s on))

hears_rows : (budget : ℕ) (core : Core) (line moment : ℕ) (bytes : List ℕ) (answer : Result LineHeard HearFault) → May budget core (hears line moment bytes) (heard answer) → AreOnTheirRows core → AreOnTheirRows (next core (hears line moment bytes) (heard answer))
hears_rows budget core line moment bytes (Err fault) may old = old
hears_rows budget core line moment bytes (Ok good) may old =
    heard_by_line core line moment bytes
    (heard_line (is_line line) (if core.stopped then Err Stopped else answer_on budget core moment bytes (session_of core line)) good may) old (session_of core line) refl

settled_stay : (core : Core) (pending : List Change) → AreOnTheirRows core → AreOnTheirRows (settled_core core pending)
settled_stay core [] old = old
settled_stay core (change ∷ changes) old = record {
  eight = length-map core.lines settled_on ∙ old.eight;
  each = λ k s there.
      let was = settled_meter (get_or core.lines k None) s (sym (get_settled core.lines k) ∙ there) in
      subst (λ (m : Identity). IsRegisteredOn (k + 1) m (present core)) was.2 (old.each k was.0 was.1);
}

commits_rows : (core : Core) (answer : Result ℕ CommitFault) → AreOnTheirRows core → AreOnTheirRows (after_commit core answer)
commits_rows core (Ok count) old = settled_stay core core.pending old
commits_rows core (Err Device) old = record { eight = old.eight; each = old.each }
commits_rows core (Err Worn) old = old
commits_rows core (Err CommitStopped) old = old

pub turn_stays : (budget : ℕ) (core : Core) (event : Event) (answer : Answer) → IsOfLines (event, answer) → May budget core event answer → AreOnTheirRows core → AreOnTheirRows (next core event answer)
turn_stays budget core (starts line meter) (started answer) of may old = starts_rows budget core line meter answer may old
turn_stays budget core (hears line moment bytes) (heard answer) of may old = hears_rows budget core line moment bytes answer may old
turn_stays budget core commits (committed answer) of may old = commits_rows core answer old
turn_stays budget core (offices text) answer of may old = absurd of
turn_stays budget core (asks line) (asked answer) of may old = old
turn_stays budget core event answer of may old = absurd may

turns_stay : (budget : ℕ) (core : Core) (turns : List Turn) → AllByRecursion IsOfLines turns → IsChain budget core turns → AreOnTheirRows core → AreOnTheirRows (leads core turns)
turns_stay budget core [] of chain old = old
turns_stay budget core (turn ∷ turns) of chain old = turns_stay budget (next core turn.0 turn.1) turns of.1 chain.1 (turn_stays budget core turn.0 turn.1 of.0 chain.0 old)

pub on_their_rows : (budget : ℕ) (state : State) (turns : List Turn) → AllByRecursion IsOfLines turns → IsChain budget (opened state) turns → AreOnTheirRows (leads (opened state) turns)
on_their_rows budget state turns of chain = turns_stay budget (opened state) turns of chain (record { eight = refl; each = λ k s e. absurd (let bad : None ≡ Some s = sym (get_nobody line_count k) ∙ e in cc) })

-- ---- so a meter whose readout may start is on no other line

only_on : (core : Core) (line : ℕ) (meter : Identity) → AreOnTheirRows core → start_answer core line meter ≡ Ok tt → session_of core line ≡ None → IsOnlyOn line meter core
only_on core line meter rows may free other s ne there same =
    let b = start_parts (is_line line) core.stopped (is_on line (row_of meter (present core))) (is_some (session_of core line)) tt (sym may) in
    let own = registered_by line meter (present core) (row_of meter (present core)) refl b.2 in
    let found = rows.each (other - 1) s there in
    let both : Some found.row ≡ Some own.row = sym found.found ∙ ap (λ (m : Identity). row_of m (present core)) same ∙ own.found in
    let one : found.row ≡ own.row = cc in
    let lines : other - 1 + 1 ≡ line = sym found.is ∙ ap (λ (r : MeterRow). r.line) one ∙ own.is in
    let place : other - 1 ≡ line - 1 = omega (arith, lines) in
    let bad : Some s ≡ None = sym there ∙ ap (λ (k : ℕ). get_or core.lines k None) place ∙ free in
    cc

nobody : (o : Option Summary) → is_some o ≡ false → o ≡ None
nobody None e = refl
nobody (Some s) e = absurd cc

start_free : (a b c d : Bool) → ◌≡◌ {A = Result (Unit {0}) StartFault} (if not a then Err StartNoLine else if b then Err StartStopped else if not c then Err Unknown else if d then Err Busy else Ok tt) (Ok tt) → d ≡ false
start_free false b c d e = absurd (cc e)
start_free true true c d e = absurd (cc e)
start_free true false false d e = absurd (cc e)
start_free true false true true e = absurd (cc e)
start_free true false true false e = refl

pub readouts_of_a_run_end : ReadoutsOfARunEnd
readouts_of_a_run_end budget state before line meters positions place meter row parts turns last of chain there registered address serves =
    let core : Core = leads (opened state) before in
    let scene : Scene = record { core = core; positions = positions } in
    let cut = chain_parts budget (opened state) before ((starts line meter.identity, started (Ok tt)) ∷ turns) chain in
    let may : start_answer core line meter.identity ≡ Ok tt = (let is = cut.1.0 in cc) in
    let free : session_of core line ≡ None =
    nobody (session_of core line) (start_free (is_line line) core.stopped (is_on line (row_of meter.identity (present core))) (is_some (session_of core line)) may) in
    let rows = on_their_rows budget state before of cut.0 in
    let begins : CanBegin line meters scene place meter row parts =
    record { there = there; lines = lines_are_kept budget state before cut.0; may_start = may; registered = registered; address = address } in
    let ends = readouts_end_beside_others budget line meters scene place meter row parts turns last begins (only_on core line meter.identity rows may free) cut.1.1 serves in
    subst (λ (now : Core). GoesBeside budget line meters meter row parts core now turns last) (sym (leads_append (opened state) before ((starts line meter.identity, started (Ok tt)) ∷ turns))) ends

-- What the turns of lines leave as it is: the place of a meter, and, while it isn't read itself, its row and its readings.

-- ---- what each telegram leaves

module _ (P : State → Type 0) (leaves : (moment part : ℕ) (t : Parsed) (s : State) → P s → P (applied (change_of moment part t) s)) where
  heard_leaves : (core : Core) (line moment : ℕ) (bytes : List ℕ) (session : Option Summary) → P (present core) → P (present (heard_on core line moment bytes session))
  heard_leaves core line moment bytes None p = p
  heard_leaves core line moment bytes (Some s) p = judged_leaves P leaves core line moment s (verdict_by s bytes) p

  settled_leaves : (core : Core) (pending : List Change) → P (present core) → P (present (settled_core core pending))
  settled_leaves core [] p = p
  settled_leaves core (change ∷ changes) p = p

  turn_leaves : (core : Core) (event : Event) (answer : Answer) → IsOfLines (event, answer) → P (present core) → P (present (next core event answer))
  turn_leaves core (starts line meter) (started (Ok done)) of p = p
  turn_leaves core (starts line meter) (started (Err fault)) of p = p
  turn_leaves core (hears line moment bytes) (heard (Ok answer)) of p = heard_leaves core line moment bytes (session_of core line) p
  turn_leaves core (hears line moment bytes) (heard (Err fault)) of p = p
  turn_leaves core commits (committed (Ok count)) of p = settled_leaves core core.pending p
  turn_leaves core commits (committed (Err Device)) of p = p
  turn_leaves core commits (committed (Err Worn)) of p = p
  turn_leaves core commits (committed (Err CommitStopped)) of p = p
  turn_leaves core (offices text) answer of p = absurd of
  turn_leaves core event answer of p = p

  pub turns_leave : (core : Core) (turns : List Turn) → AllByRecursion IsOfLines turns → P (present core) → P (present (leads core turns))
  turns_leave core [] of p = p
  turns_leave core (turn ∷ turns) of p = turns_leave (next core turn.0 turn.1) turns of.1 (turn_leaves core turn.0 turn.1 of.0 p)

-- ---- the place of a meter

-- a meter's row, apart from its open parts
abbrev pub IsPlaced : Identity → MeterRow → State → Type 0
IsPlaced m row s = HasRow (λ (now : MeterRow). (now.line ≡ row.line) × (now.address ≡ row.address)) m s

placed_leaves : (m : Identity) (r : MeterRow) (moment part : ℕ) (t : Parsed) (s : State) → IsPlaced m r s → IsPlaced m r (applied (change_of moment part t) s)
placed_leaves m r = row_leaves (λ (now : MeterRow). (now.line ≡ r.line) × (now.address ≡ r.address)) (λ row parts is. is) m

pub stays_placed : (m : Identity) (r : MeterRow) (core : Core) (turns : List Turn) → AllByRecursion IsOfLines turns → IsPlaced m r (present core) → IsPlaced m r (present (leads core turns))
stays_placed m r = turns_leave (IsPlaced m r) (placed_leaves m r)

-- ---- which meters are started on a line

abbrev pub starts_by : ℕ → Event → List Identity
starts_by line (starts other meter) = if other == line then meter ∷ [] else []
starts_by line (asks other) = []
starts_by line (hears other moment bytes) = []
starts_by line commits = []
starts_by line (offices text) = []

abbrev pub starts_on : ℕ → List Turn → List Identity
starts_on line [] = []
starts_on line (turn ∷ turns) = starts_by line turn.0 ++ starts_on line turns

pub starts_append : (line : ℕ) (front back : List Turn) → starts_on line (front ++ back) ≡ starts_on line front ++ starts_on line back
starts_append line [] back = refl
starts_append line (turn ∷ front) back =
    ap (λ (xs : List Identity). starts_by line turn.0 ++ xs) (starts_append line front back) ∙ sym (append_assoc (starts_by line turn.0) (starts_on line front) (starts_on line back))

-- ---- while it isn't read itself

-- it isn't read on its line
abbrev pub IsAway : ℕ → Identity → Core → Type 0
IsAway line m core = (s : Summary) → session_of core line ≡ Some s → s.meter ≢ m

module _ (budget line : ℕ) (m : Identity) (row : MeterRow) (is : is_line line ≡ true) (on : row.line ≡ line) where
  record Stays (old fresh : Core) : Type 0 where
    keeps : Keeps m (present old) (present fresh)
    away : IsAway line m fresh

  same_keeps : (s : State) → Keeps m s s
  same_keeps s = record { rows = λ r found. found; readings = refl }

  same_place : (other : ℕ) → is_line other ≡ true → line - 1 ≡ other - 1 → other ≡ line
  same_place other are e =
      let one : 1 ≤ line = grind (arith, nat_tests) in
      let two : 1 ≤ other = grind (arith, nat_tests) in
      omega (arith, e, one, two)

  -- another session is on a line, and it isn't the meter's if that is its own line
  with_away : (core : Core) (other : ℕ) (session : Option Summary) (pending : List Change) → is_line other ≡ true → AreOnTheirRows core → IsAway line m core
      → (other ≡ line → (s : Summary) → session ≡ Some s → s.meter ≢ m) → IsAway line m (record (with_session other session core) { pending = pending })
  with_away core other session pending are rows away fresh s there = ⊎_elim
      (λ (e : line - 1 ≡ other - 1).
      let here : get_or (set core.lines (other - 1) session) (line - 1) None ≡ session =
      ap (λ (j : ℕ). get_or (set core.lines (other - 1) session) j None) e ∙ get_or-set_same core.lines (other - 1) session None (low_place other core.lines are rows.eight) in
      fresh (same_place other are e) s (sym here ∙ there))
      (λ (apart : line - 1 ≢ other - 1). away s (sym (get_or-set_other core.lines (other - 1) (line - 1) session None apart) ∙ there))
      (cases_eq (line - 1) (other - 1))

  module _ (core : Core) (rows : AreOnTheirRows core) (placed : IsPlaced m row (present core)) (away : IsAway line m core) where
    nothing : Stays core core
    nothing = record { keeps = same_keeps (present core); away = away }

    lacks_it : (other : ℕ) (meter : Identity) → Lacks m (starts_by line (starts other meter)) → other ≡ line → meter ≢ m
    lacks_it other meter lacks e = (subst (λ (b : Bool). Lacks m (if b then meter ∷ [] else [])) (eq-eqb other line e) lacks).0

    start_stays : (other : ℕ) (meter : Identity) (answer : Result (Unit {0}) StartFault) → May budget core (starts other meter) (started answer) → Lacks m (starts_by line (starts other meter)) → Stays core (next core (starts other meter) (started answer))
    start_stays other meter (Err fault) may lacks = nothing
    start_stays other meter (Ok done) may lacks =
        let b = start_parts (is_line other) core.stopped (is_on other (row_of meter (present core))) (is_some (session_of core other)) done may in
        let session : Summary = begun meter (address_in (row_of meter (present core))) in
        record {
          keeps = same_keeps (present core);
          away = with_away core other (Some session) core.pending b.0 rows away (λ e s there.
              let i : session ≡ s = cc in
              subst (λ (x : Summary). x.meter ≢ m) i (lacks_it other meter lacks e));
        }

    -- a session on whatever line reads another meter
    apart : (other : ℕ) (s : Summary) → is_line other ≡ true → session_of core other ≡ Some s → s.meter ≢ m
    apart other s are there same =
        let found = rows.each (other - 1) s there in
        let both : Some found.row ≡ Some placed.row = sym found.found ∙ ap (λ (x : Identity). row_of x (present core)) same ∙ placed.found in
        let one : found.row ≡ placed.row = cc in
        let lines : other - 1 + 1 ≡ line = sym found.is ∙ ap (λ (r : MeterRow). r.line) one ∙ (placed.is.0 ∙ on) in
        let place : line - 1 ≡ other - 1 = omega (arith, lines) in
        let here : session_of core line ≡ session_of core other = ap (λ (k : ℕ). get_or core.lines k None) place in
        away s (here ∙ there) same

    module _ (other moment : ℕ) (bytes : List ℕ) (are : is_line other ≡ true) where
      judged_stays : (s : Summary) (v : Verdict) → session_of core other ≡ Some s → verdict_by s bytes ≡ v → Stays core (judged core other moment s v)
      judged_stays s v there e = record {
        keeps = judged_keeps m core other moment bytes s v (apart other s are there) e;
        away = with_away core other (session_after s v) (and_pending moment core.pending v) are rows away
            (λ at x same. subst (λ (i : Identity). i ≢ m) (sym (session_meter s x v same)) (apart other s are there));
      }

      heard_stays : (session : Option Summary) → session_of core other ≡ session → Stays core (heard_on core other moment bytes session)
      heard_stays None there = nothing
      heard_stays (Some s) there = judged_stays s (verdict_by s bytes) there refl

    hears_stay : (other moment : ℕ) (bytes : List ℕ) (answer : Result LineHeard HearFault) → May budget core (hears other moment bytes) (heard answer) → Stays core (next core (hears other moment bytes) (heard answer))
    hears_stay other moment bytes (Err fault) may = nothing
    hears_stay other moment bytes (Ok good) may =
        heard_stays other moment bytes (heard_line (is_line other) (if core.stopped then Err Stopped else answer_on budget core moment bytes (session_of core other)) good may) (session_of core other) refl

    settled_stays : (pending : List Change) → Stays core (settled_core core pending)
    settled_stays [] = nothing
    settled_stays (change ∷ changes) = record {
      keeps = same_keeps (present core);
      away = λ s there.
          let old = settled_meter (session_of core line) s (sym (get_settled core.lines (line - 1)) ∙ there) in
          subst (λ (x : Identity). x ≢ m) old.2 (away old.0 old.1);
    }

    commits_stay : (answer : Result ℕ CommitFault) → Stays core (after_commit core answer)
    commits_stay (Ok count) = settled_stays core.pending
    commits_stay (Err Device) = record { keeps = same_keeps (present core); away = away }
    commits_stay (Err Worn) = nothing
    commits_stay (Err CommitStopped) = nothing

    one_stays : (event : Event) (answer : Answer) → IsOfLines (event, answer) → May budget core event answer → Lacks m (starts_by line event) → Stays core (next core event answer)
    one_stays (starts other meter) (started answer) of may lacks = start_stays other meter answer may lacks
    one_stays (hears other moment bytes) (heard answer) of may lacks = hears_stay other moment bytes answer may
    one_stays commits (committed answer) of may lacks = commits_stay answer
    one_stays (offices text) answer of may lacks = absurd of
    one_stays event answer of may lacks = nothing

  pub all_stay : (core : Core) (turns : List Turn) → AllByRecursion IsOfLines turns → IsChain budget core turns → AreOnTheirRows core → IsPlaced m row (present core) → IsAway line m core → Lacks m (starts_on line turns) → Keeps m (present core) (present (leads core turns))
  all_stay core [] of chain rows placed away lacks = same_keeps (present core)
  all_stay core (turn ∷ turns) of chain rows placed away lacks =
      let one = one_stays core rows placed away turn.0 turn.1 of.0 chain.0 (all_left (λ (other : Identity). other ≢ m) (starts_by line turn.0) (starts_on line turns) lacks) in
      let rest = all_stay (next core turn.0 turn.1) turns of.1 chain.1 (turn_stays budget core turn.0 turn.1 of.0 chain.0 rows)
      (turn_leaves (IsPlaced m row) (placed_leaves m row) core turn.0 turn.1 of.0 placed) one.away (all_right (λ (other : Identity). other ≢ m) (starts_by line turn.0) (starts_on line turns) lacks) in
      record { rows = λ r found. rest.rows r (one.keeps.rows r found); readings = rest.readings ∙ one.keeps.readings }

-- A line on which no readout goes on: it stays so while other lines go on, and a start on it isn't refused.

pub free_at_first : (line : ℕ) (state : State) → session_of (opened state) line ≡ None
free_at_first line state = get_nobody line_count (line - 1)

-- ---- turns of other lines, and commits

module _ (budget line : ℕ) (is : is_line line ≡ true) where
  heard_free : (core : Core) (other moment : ℕ) (bytes : List ℕ) (session : Option Summary) → is_line other ≡ true → (IsElsewhere line (hears other moment bytes)) → session_of core line ≡ None → session_of (heard_on core other moment bytes session) line ≡ None
  heard_free core other moment bytes None are away free = free
  heard_free core other moment bytes (Some s) are away free =
      get_or-set_other core.lines (other - 1) (line - 1) (session_after s (verdict_by s bytes)) None (places_differ line other is are away) ∙ free

  one_free : (core : Core) (event : Event) (answer : Answer) → IsElsewhere line event → May budget core event answer → session_of core line ≡ None → session_of (next core event answer) line ≡ None
  one_free core (starts other m) (started (Ok done)) away may free =
      let b = start_parts (is_line other) core.stopped (is_on other (row_of m (present core))) (is_some (session_of core other)) done may in
      get_or-set_other core.lines (other - 1) (line - 1) (Some (begun m (address_in (row_of m (present core))))) None (places_differ line other is b.0 away) ∙ free
  one_free core (starts other m) (started (Err fault)) away may free = free
  one_free core (hears other moment bytes) (heard (Ok good)) away may free =
      heard_free core other moment bytes (session_of core other)
      (heard_line (is_line other) (if core.stopped then Err Stopped else answer_on budget core moment bytes (session_of core other)) good may) away free
  one_free core (hears other moment bytes) (heard (Err fault)) away may free = free
  one_free core commits answer away may free = absurd away
  one_free core (offices text) answer away may free = absurd away
  one_free core event answer away may free = free

  pub all_free : (core : Core) (turns : List Turn) → AllByRecursion (λ (turn : Turn). IsElsewhere line turn.0) turns → IsChain budget core turns → session_of core line ≡ None → session_of (leads core turns) line ≡ None
  all_free core [] away chain free = free
  all_free core (turn ∷ turns) away chain free = all_free (next core turn.0 turn.1) turns away.1 chain.1 (one_free core turn.0 turn.1 away.0 chain.0 free)

settled_free : (core : Core) (line : ℕ) (pending : List Change) → session_of core line ≡ None → session_of (settled_core core pending) line ≡ None
settled_free core line [] free = free
settled_free core line (change ∷ changes) free = get_settled core.lines (line - 1) ∙ ap settled_on free

pub commit_free : (core : Core) (line count : ℕ) → session_of core line ≡ None → session_of (next core commits (committed (Ok count))) line ≡ None
commit_free core line count free = settled_free core line core.pending free

-- ---- a start isn't refused

pub start_ok : (a b c d : Bool) → a ≡ true → b ≡ false → c ≡ true → d ≡ false → ◌≡◌ {A = Result (Unit {0}) StartFault} (if not a then Err StartNoLine else if b then Err StartStopped else if not c then Err Unknown else if d then Err Busy else Ok tt) (Ok tt)
start_ok true false true false e f g h = refl
start_ok false b c d e f g h = absurd cc
start_ok true true c d e f g h = absurd cc
start_ok true false false d e f g h = absurd cc
start_ok true false true true e f g h = absurd cc

-- ---- nor is an answer

not_refused : (fault : HearFault) → IsTakenUnlessFull (Err fault) → IsSupplied (heard (Err fault)) → fault ≡ Full
not_refused NoLine taken supplied = absurd taken
not_refused Idle taken supplied = absurd taken
not_refused Full taken supplied = refl
not_refused NoMemory taken supplied = absurd taken
not_refused PendingFull taken supplied = absurd supplied
not_refused Stopped taken supplied = absurd taken

memory_wanting : (fault : HearFault) → ◌≡◌ {A = Result LineHeard HearFault} (Err fault) (Err NoMemory) → IsSupplied (heard (Err fault)) → ⊥
memory_wanting NoLine e supplied = absurd cc
memory_wanting Idle e supplied = absurd cc
memory_wanting Full e supplied = absurd cc
memory_wanting NoMemory e supplied = supplied
memory_wanting PendingFull e supplied = absurd cc
memory_wanting Stopped e supplied = absurd cc

-- but for want of room
pub heard_full : (right : Result LineHeard HearFault) (fault : HearFault) → IsTakenUnlessFull right → MayHear right (Err fault) → IsSupplied (heard (Err fault)) → fault ≡ Full
heard_full right fault taken (inl e) supplied = not_refused fault (subst IsTakenUnlessFull (sym e) taken) supplied
heard_full right fault taken (inr none) supplied = absurd (memory_wanting fault none.0 supplied)

-- a line without a readout stays so by an answer
pub hears_free : (core : Core) (line moment : ℕ) (bytes : List ℕ) (answer : Result LineHeard HearFault) → session_of core line ≡ None → session_of (next core (hears line moment bytes) (heard answer)) line ≡ None
hears_free core line moment bytes (Ok good) free = subst (λ (session : Option Summary). session_of (heard_on core line moment bytes session) line ≡ None) (sym free) free
hears_free core line moment bytes (Err fault) free = free

-- A meter that was read in a poll has one reading more after it than before (for the theorem of specs/Every).

-- ---- started once

apart_middle : (y : Identity) (xs ys : List Identity) → AreApart (xs ++ y ∷ ys) → Lacks y xs × Lacks y ys
apart_middle y [] ys a = (tt, a.0)
apart_middle y (x ∷ xs) ys a =
    let rest = apart_middle y xs ys a.1 in
    let other = (all_right (λ (other : Identity). other ≢ x) xs (y ∷ ys) a.0).0 in
    (((λ e. other (sym e)), rest.0), rest.1)

started_here : (line : ℕ) (x : Identity) → (if line == line then x ∷ [] else []) ≡ x ∷ []
started_here line x = ap (λ (b : Bool). if b then x ∷ [] else []) (eq-eqb line line refl)

-- where nothing is pending, what is present is committed
pub present_is : (core : Core) → core.pending ≡ [] → present core ≡ core.committed
present_is core none = ap (λ (changes : List Change). after core.committed changes) none

-- ---- one reading more

module _ (budget line : ℕ) (state : State) (wire : Wire) (all : List Turn) (chain : IsChain budget (opened state) all) (of_all : AllByRecursion IsOfLines all) (apart : AreApart (starts_on line all)) (x : Identity) (w : WasRead line state wire all x) where
  abbrev chunk : List Turn
  chunk = w.front ++ (starts line x, started (Ok tt)) ∷ w.since

  abbrev at_start : Core
  at_start = leads (opened state) w.front

  abbrev at_end : Core
  at_end = leads (opened state) chunk

  abbrev last : Core
  last = leads at_end w.back

  chain_all : IsChain budget (opened state) (chunk ++ w.back)
  chain_all = subst (IsChain budget (opened state)) w.all_are chain

  of_both : AllByRecursion IsOfLines (chunk ++ w.back)
  of_both = subst (AllByRecursion IsOfLines) w.all_are of_all

  chain_chunk : IsChain budget (opened state) chunk
  chain_chunk = (chain_parts budget (opened state) chunk w.back chain_all).0

  chain_back : IsChain budget at_end w.back
  chain_back = (chain_parts budget (opened state) chunk w.back chain_all).1

  chain_front : IsChain budget (opened state) w.front × IsChain budget at_start ((starts line x, started (Ok tt)) ∷ w.since)
  chain_front = chain_parts budget (opened state) w.front ((starts line x, started (Ok tt)) ∷ w.since) chain_chunk

  of_chunk : AllByRecursion IsOfLines chunk
  of_chunk = all_left IsOfLines chunk w.back of_both

  of_front : AllByRecursion IsOfLines w.front
  of_front = all_left IsOfLines w.front ((starts line x, started (Ok tt)) ∷ w.since) of_chunk

  -- it is registered on the line
  begins : (is_line line ≡ true) × (at_start.stopped ≡ false) × (is_on line (row_of x (present at_start)) ≡ true)
  begins = start_parts (is_line line) at_start.stopped (is_on line (row_of x (present at_start))) (is_some (session_of at_start line)) tt chain_front.1.0

  placed : (turns : List Turn) → AllByRecursion IsOfLines turns → IsPlaced x w.wired.wired.row (present (leads (opened state) turns))
  placed turns of = stays_placed x w.wired.wired.row (opened state) turns of (record { row = w.wired.wired.row; found = w.wired.wired.registered; is = (refl, refl) })

  on : w.wired.wired.row.line ≡ line
  on = w.wired.on_line

  -- it is started nowhere else
  starts_are : starts_on line all ≡ starts_on line w.front ++ (x ∷ (starts_on line w.since ++ starts_on line w.back))
  starts_are =
      ap (starts_on line) w.all_are ∙ starts_append line chunk w.back
      ∙ ap (λ (xs : List Identity). xs ++ starts_on line w.back) (starts_append line w.front ((starts line x, started (Ok tt)) ∷ w.since) ∙ ap (λ (xs : List Identity). starts_on line w.front ++ (xs ++ starts_on line w.since)) (started_here line x))
      ∙ append_assoc (starts_on line w.front) (x ∷ starts_on line w.since) (starts_on line w.back)

  others : Lacks x (starts_on line w.front) × Lacks x (starts_on line w.since ++ starts_on line w.back)
  others = apart_middle x (starts_on line w.front) (starts_on line w.since ++ starts_on line w.back) (subst AreApart starts_are apart)

  away_at_first : IsAway line x (opened state)
  away_at_first s there = absurd (let bad : None ≡ Some s = sym (get_nobody line_count (line - 1)) ∙ there in cc)

  away_at_end : IsAway line x at_end
  away_at_end s there = absurd (let bad = sym w.free ∙ there in cc)

  pub keeps_front : Keeps x state (present at_start)
  keeps_front = all_stay budget line x w.wired.wired.row begins.0 on (opened state) w.front of_front chain_front.0 (on_their_rows budget state [] tt tt) (placed [] tt) away_at_first others.0

  pub keeps_back : Keeps x (present at_end) (present last)
  keeps_back = all_stay budget line x w.wired.wired.row begins.0 on at_end w.back (all_right IsOfLines chunk w.back of_both) chain_back (on_their_rows budget state chunk of_chunk chain_chunk) (placed chunk of_chunk) away_at_end
      (all_right (λ (other : Identity). other ≢ x) (starts_on line w.since) (starts_on line w.back) others.1)

  pub row_is : w.row ≡ w.wired.wired.row
  row_is =
      let both : Some w.row ≡ Some w.wired.wired.row = sym w.registered ∙ keeps_front.rows w.wired.wired.row w.wired.wired.registered in
      cc

  abbrev reading_in : MeterRow → ReadingRow
  reading_in row = record { serial = w.read.serial; meter = x; flat = row.flat; parts = w.read.read }

  pub last_is : leads (opened state) all ≡ last
  last_is = ap (leads (opened state)) w.all_are ∙ leads_append (opened state) chunk w.back

  abbrev pub is_read : (leads (opened state) all).pending ≡ [] → IsRead state (leads (opened state) all).committed wire x
  is_read none =
      let final : Core = leads (opened state) all in
      let behind : present last ≡ final.committed = ap present (sym last_is) ∙ present_is final none in
      let here : present at_end ≡ at_end.committed = present_is at_end w.settled in
      record {
        wired = w.wired.wired;
        read = record {
          serial = w.read.serial;
          read = w.read.read;
          bodies_are = w.read.bodies_are;
          one_more =
              ap (readings_of x) (sym behind) ∙ keeps_back.readings ∙ ap (readings_of x) here ∙ w.read.one_more
              ∙ ap (λ (rs : List ReadingRow). rs ++ reading_in w.row ∷ []) keeps_front.readings
              ∙ ap (λ (r : MeterRow). readings_of x state ++ reading_in r ∷ []) row_is;
          none_open =
              ap (row_of x) (sym behind)
              ∙ keeps_back.rows (record w.row { parts = [] }) (ap (row_of x) here ∙ w.read.none_open)
              ∙ ap (λ (r : MeterRow). Some (record r { parts = [] })) row_is;
        };
      }
