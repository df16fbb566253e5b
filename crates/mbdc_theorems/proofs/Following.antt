-- A queue whose line is served: nothing fails, and each of its meters was read (for the theorem of specs/Every).
use Rattle.std.proofs.Common.{◌≡◌, ℕ, Bool, true, false, ◌+◌, ◌≤◌, Option, Some, Result, Ok, Err, List, [], ◌∷◌, arith, refl, sym, subst, ◌++◌, drop, if◌then◌else◌}
use Rattle.std.specs.List.{AllByRecursion}
use Rattle.std.specs.Prelude.{◌==◌}
use Rattle.std.proofs.lemmas.Bool.{eqb-true, ne_eqb}
use Rattle.dc_address.specs.declared.identity.Identity.{Identity}
use Rattle.dc_core.specs.declared.line_heard.LineHeard.{LineHeard}
use Rattle.dc_core.specs.declared.line_heard.LineHeard.TheVariants.{Again, Ready, Accepted, Failed as HasFailed}
use Rattle.dc_core.specs.declared.fault.CommitFault.{CommitFault}
use Rattle.dc_core.specs.declared.fault.HearFault.{HearFault}
use Rattle.dc_core.specs.declared.fault.HearFault.TheVariants.{Full, Idle, NoLine, NoMemory, PendingFull, Stopped}
use Rattle.dc_core.specs.Event.{hears, commits, heard, committed, Event, Answer, starts, asks, offices, started, asked, replied}
use Rattle.mbdc_poll.specs.Happening.{Happening, does, tells, is_on, happened_on, happened_turns}
use Rattle.mbdc_poll.specs.declared.event.Event.{Event as Told}
use Rattle.mbdc_poll.specs.declared.event.Event.TheVariants.{Read as told_read, Failed as has_failed, Refused as was_refused, Lost as is_lost, Late as came_late, End as has_ended}
use Rattle.mbdc_poll.specs.declared.end.End.{End}
use Rattle.mbdc_poll.specs.declared.end.End.TheVariants.{Read, Failed, Refused}
use Rattle.mbdc_poll.specs.declared.phase.Phase.{Phase}
use Rattle.mbdc_poll.specs.declared.phase.Phase.TheVariants.{Free, Busy, Pending, Over}
use Rattle.mbdc_poll.specs.Queue.{Part, part, Goes, GoesWell, IsWellTold, IsToldAs, IsGoingOn, most_asks, stays, passes_on, starts_it, is_refused, asks_it, has_no_request, is_given_up, goes_on, is_accepted, is_put_off, fails_at_last, is_faulty, is_stored, is_unstored, stands_by, is_told, loses_it}
use Rattle.dc_core.specs.Core.{Core}
use Rattle.dc_core.specs.Step.{next}
use Rattle.dc_core.specs.Transcript.{Turn}
use Rattle.mbdc_poll.specs.Round.{IsCommitTurn}
use Rattle.mbdc_theorems.proofs.Facts.{Facts, HearFact, IsToldNew, most_requests, IsRoomy, IsRoomyIn, IsSuppliedIn, AreOfLines, is_away, CutBy, PartAt, PartsIn, cut, part_away}
use Rattle.mbdc_theorems.specs.Beside.{IsElsewhere, IsOfLines}
use Rattle.mbdc_theorems.specs.Carried.{Wire}

abbrev pub failed_of : Part → List Identity
failed_of (part left failed pass phase) = failed

abbrev pub IsAtEnd : Part → Type 0
IsAtEnd (part left failed pass phase) = (left ≡ []) × (phase ≡ Free)

told_well : (meter : Identity) (told : Told) → IsToldAs (Read meter) told → IsWellTold told
told_well meter told is = subst IsWellTold (sym is.3) tt

module _ (was_read : Identity → Type 0) (new : Identity → ℕ → Type 0) where
  -- what is known at a phase: of a readout that goes on, its meter and its requests
  pub record Any (on : List Happening) : Type 0 where
    pub meter : Option Identity
    pub asks_before : ℕ
    pub facts : Facts was_read new meter asks_before true on

  -- of one that is over, its meter
  pub record Past (x : Identity) (on : List Happening) : Type 0 where
    pub asks_before : ℕ
    pub facts : Facts was_read new (Some x) asks_before true on

  pub record Present (meter : Identity) (n : ℕ) (on : List Happening) : Type 0 where
    pub asks_before : ℕ
    pub count : asks_before + n ≡ most_asks
    pub few : asks_before ≤ most_requests
    pub idle : Bool
    pub facts : Facts was_read new (Some meter) asks_before idle on

  abbrev pub Running : List Identity → ℕ → List Happening → Type 0
  Running [] n on = ⊥
  Running (meter ∷ left) n on = Present meter n on

  abbrev pub Ending : End → List Happening → Type 0
  Ending (Read meter) on = Past meter on
  Ending (Failed meter why) on = ⊥
  Ending (Refused meter refusal) on = ⊥

  abbrev pub At : List Identity → Phase → List Happening → Type 0
  At left Free on = Any on
  At left (Busy n) on = Running left n on
  At left (Pending n) on = Running left n on
  At left (Over end) on = Ending end on

  abbrev pub AtPart : Part → List Happening → Type 0
  AtPart (part left failed pass phase) on = At left phase on

  -- what is told of a reading is of a new one
  abbrev pub IsNew : Happening → Type 0
  IsNew (does turn) = Unit {0}
  IsNew (tells line (told_read meter serial parts last)) = new meter serial
  IsNew (tells line told) = Unit {0}

  -- and what follows
  pub record Done (left : List Identity) (on : List Happening) : Type 0 where
    pub well : AllByRecursion GoesWell on
    pub told : AllByRecursion IsNew on
    pub reads : AllByRecursion was_read left

  abbrev pub DonePart : Part → List Happening → Type 0
  DonePart (part left failed pass phase) on = Done left on

  at_end : (last : Part) → IsAtEnd last → DonePart last []
  at_end (part left failed pass phase) end = record { well = tt; told = tt; reads = subst (AllByRecursion was_read) (sym end.0) tt }

  -- what happens on the line and isn't of the readout
  pub past : (left : List Identity) (phase : Phase) (h : Happening) (on : List Happening) → ((m : Option Identity) (n : ℕ) (idle : Bool) → Facts was_read new m n idle (h ∷ on) → Facts was_read new m n idle on) → At left phase (h ∷ on) → At left phase on
  past left Free h on step at = record { meter = at.meter; asks_before = at.asks_before; facts = step at.meter at.asks_before true at.facts }
  past [] (Busy n) h on step at = absurd at
  past (m ∷ left) (Busy n) h on step at = record { asks_before = at.asks_before; count = at.count; few = at.few; idle = at.idle; facts = step (Some m) at.asks_before at.idle at.facts }
  past [] (Pending n) h on step at = absurd at
  past (m ∷ left) (Pending n) h on step at = record { asks_before = at.asks_before; count = at.count; few = at.few; idle = at.idle; facts = step (Some m) at.asks_before at.idle at.facts }
  past left (Over (Read m)) h on step at = record { asks_before = at.asks_before; facts = step (Some m) at.asks_before true at.facts }
  past left (Over (Failed m why)) h on step at = absurd at
  past left (Over (Refused m refusal)) h on step at = absurd at

  pub tells_past : (line : ℕ) (old : Part) (told : Told) (on : List Happening) → AtPart old (tells line told ∷ on) → AtPart old on
  tells_past line (part left failed pass phase) told on at = past left phase (tells line told) on (λ m n idle facts. facts.1) at

  lost_done : (line : ℕ) (old : Part) (on : List Happening) → DonePart old on → DonePart old (tells line (is_lost line) ∷ on)
  lost_done line (part left failed pass phase) on rest = record { well = (tt, rest.well); told = (tt, rest.told); reads = rest.reads }

  ends_well : (end : End) (told : Told) (on : List Happening) → IsToldAs end told → Ending end on → IsWellTold told
  ends_well (Read meter) told on says at = told_well meter told says
  ends_well (Failed meter why) told on says at = absurd at
  ends_well (Refused meter refusal) told on says at = absurd at

  told_new : (meter : Identity) (told : Told) (line : ℕ) → IsToldAs (Read meter) told → IsToldNew new meter told → IsNew (tells line told)
  told_new meter (told_read x serial parts last) line is fact =
      let same : told_read x serial parts last ≡ told_read meter is.0 is.1 is.2 = is.3 in
      let meters : x ≡ meter = cc in
      subst (λ (m : Identity). new m serial) (sym meters) (fact meters)
  told_new meter (has_failed at x why brought) line is fact = tt
  told_new meter (was_refused x refusal) line is fact = tt
  told_new meter (is_lost lost) line is fact = tt
  told_new meter (came_late late answers) line is fact = tt
  told_new meter (has_ended read failed) line is fact = tt

  ends_new : (end : End) (line : ℕ) (told : Told) (on : List Happening) → IsToldAs end told → Ending end (tells line told ∷ on) → IsNew (tells line told)
  ends_new (Read meter) line told on says at = told_new meter told line says at.facts.0
  ends_new (Failed meter why) line told on says at = absurd at
  ends_new (Refused meter refusal) line told on says at = absurd at

  pub ends_any : (end : End) (line : ℕ) (told : Told) (on : List Happening) → Ending end (tells line told ∷ on) → Any on
  ends_any (Read meter) line told on at = record { meter = Some meter; asks_before = at.asks_before; facts = at.facts.1 }
  ends_any (Failed meter why) line told on at = absurd at
  ends_any (Refused meter refusal) line told on at = absurd at

  going_well : (line moment : ℕ) (bytes : List ℕ) (answer : LineHeard) → IsGoingOn answer → GoesWell (does (hears line moment bytes, heard (Ok answer)))
  going_well line moment bytes Again on = tt
  going_well line moment bytes Ready on = tt
  going_well line moment bytes (Accepted number more) on = absurd on
  going_well line moment bytes (HasFailed why) on = absurd on

  stored_well : (stored : Result ℕ CommitFault) → IsSuppliedIn (does (commits, committed stored)) → GoesWell (does (commits, committed stored))
  stored_well (Ok count) well = tt
  stored_well (Err fault) well = absurd well

  -- nothing is wanting
  abbrev pub IsFine : Happening → Type 0
  IsFine h = IsSuppliedIn h × IsRoomyIn h

  faultless : (x : Identity) (fault : HearFault) → HearFact (Some x) (Err fault) → IsRoomy (heard (Err fault)) → ⊥
  faultless x Full fact roomy = roomy
  faultless x NoLine fact roomy = fact
  faultless x Idle fact roomy = fact
  faultless x NoMemory fact roomy = fact
  faultless x PendingFull fact roomy = fact
  faultless x Stopped fact roomy = fact

  pub follow : {tries line : ℕ} {old last : Part} {on : List Happening} → Goes tries line old on last → IsAtEnd last → failed_of old ≡ [] → AllByRecursion IsFine on → AtPart old on → DonePart old on
  follow {last = l} stays end none well at = at_end l end
  follow (passes_on less goes) end none well at = absurd cc
  follow (starts_it {meter = m} few goes) end none well at =
      let rest = follow goes end none well.1 (record { asks_before = 0; count = refl; few = omega arith; idle = false; facts = at.facts.1 }) in
      record { well = (tt, rest.well); told = (tt, rest.told); reads = rest.reads }
  follow (is_refused few goes) end none well at = absurd at.facts.0
  follow (asks_it {meter = m} {n = n} {more = more} goes) end none well at =
      let one = at.facts.0 in
      let count = at.count in
      let rest = follow goes end none well.1 (record { asks_before = at.asks_before + 1; count = omega (arith, count); few = omega (arith, one); idle = false; facts = at.facts.1 }) in
      record { well = (tt, rest.well); told = (tt, rest.told); reads = rest.reads }
  follow (has_no_request {meter = m} {n = n} {more = more} goes) end none well at =
      let rest = follow goes end none well.1 (record { asks_before = at.asks_before; facts = at.facts.1 }) in
      record { well = (tt, rest.well); told = (tt, rest.told); reads = (at.facts.0, rest.reads) }
  follow (is_given_up goes) end none well at =
      let count = at.count in
      let few = at.few in
      absurd (omega (arith, count, few))
  follow {line = l} (goes_on {moment = moment} {bytes = bytes} {answer = answer} on goes) end none well at =
      let rest = follow goes end none well.1 (record { asks_before = at.asks_before; count = at.count; few = at.few; idle = false; facts = at.facts.1 }) in
      record { well = (going_well l moment bytes answer on, rest.well); told = (tt, rest.told); reads = rest.reads }
  follow (is_accepted goes) end none well at =
      let rest = follow goes end none well.1 (record { asks_before = at.asks_before; count = at.count; few = at.few; idle = false; facts = at.facts.1 }) in
      record { well = (tt, rest.well); told = (tt, rest.told); reads = rest.reads }
  follow (is_put_off less goes) end none well at = absurd at.facts.0
  follow (fails_at_last most goes) end none well at = absurd at.facts.0
  follow (is_faulty {meter = m} {fault = fault} goes) end none well at = absurd (faultless m fault at.facts.0 well.0.1)
  follow (is_stored goes) end none well at =
      let rest = follow goes end none well.1 (record { asks_before = at.asks_before; count = at.count; few = at.few; idle = at.idle; facts = at.facts.1 }) in
      record { well = (tt, rest.well); told = (tt, rest.told); reads = rest.reads }
  follow (is_unstored goes) end none well at = absurd well.0.0
  follow (stands_by {left = left} {phase = phase} {stored = stored} {more = more} not goes) end none well at =
      let rest = follow goes end none well.1 (past left phase (does (commits, committed stored)) more (λ m n idle facts. facts.1) at) in
      record { well = (stored_well stored well.0.0, rest.well); told = (tt, rest.told); reads = rest.reads }
  follow {line = l} (is_told {end = e} {told = said} {more = more} says goes) end none well at =
      let rest = follow goes end none well.1 (ends_any e l said more at) in
      record { well = (ends_well e said (tells l said ∷ more) says at, rest.well); told = (ends_new e l said more says at, rest.told); reads = rest.reads }
  follow {line = l} {old = o} (loses_it {more = more} goes) end none well at = lost_done l o more (follow goes end none well.1 (tells_past l o (is_lost l) more at))

-- The meters of a queue are started in order, each once, until a telegram is refused (for the theorem of specs/Every).

-- ---- on a line

-- the meters that are to be started yet
abbrev pub todo_at : List Identity → Phase → List Identity
todo_at left Free = left
todo_at left (Busy n) = drop 1 left
todo_at left (Pending n) = drop 1 left
todo_at left (Over end) = left

abbrev pub todo_of : Part → List Identity
todo_of (part left failed pass phase) = todo_at left phase

abbrev pub StartsIt : Event → Answer → List Identity → Type 0
StartsIt (starts line x) (started (Ok done)) (y ∷ todo) = x ≡ y
StartsIt (starts line x) answer todo = ⊥
StartsIt event answer todo = Unit {0}

abbrev pub todo_then : Event → List Identity → List Identity
todo_then (starts line x) todo = drop 1 todo
todo_then event todo = todo

abbrev pub UntilFull : Event → Answer → Type 0 → Type 0
UntilFull (hears line moment bytes) (heard (Err Full)) rest = Unit {0}
UntilFull event answer rest = rest

abbrev pub InOrder : List Identity → List Happening → Type 0
InOrder todo [] = Unit {0}
InOrder todo (does turn ∷ on) = StartsIt turn.0 turn.1 todo × UntilFull turn.0 turn.1 (InOrder (todo_then turn.0 todo) on)
InOrder todo (tells line told ∷ on) = InOrder todo on

module _ (was_read : Identity → Type 0) (new : Identity → ℕ → Type 0) where
  fault_order : (line moment : ℕ) (bytes : List ℕ) (x : Identity) (todo : List Identity) (fault : HearFault) (on : List Happening) → HearFact (Some x) (Err fault) → InOrder todo (does (hears line moment bytes, heard (Err fault)) ∷ on)
  fault_order line moment bytes x todo Full on fact = (tt, tt)
  fault_order line moment bytes x todo NoLine on fact = absurd fact
  fault_order line moment bytes x todo Idle on fact = absurd fact
  fault_order line moment bytes x todo NoMemory on fact = absurd fact
  fault_order line moment bytes x todo PendingFull on fact = absurd fact
  fault_order line moment bytes x todo Stopped on fact = absurd fact

  pub orders : {tries line : ℕ} {old last : Part} {on : List Happening} → Goes tries line old on last → failed_of old ≡ [] → AllByRecursion IsSuppliedIn on → AtPart was_read new old on → InOrder (todo_of old) on
  orders stays none well at = tt
  orders (passes_on less goes) none well at = absurd cc
  orders (starts_it {meter = m} few goes) none well at = (refl, orders goes none well.1 (record { asks_before = 0; count = refl; few = omega arith; idle = false; facts = at.facts.1 }))
  orders (is_refused few goes) none well at = absurd at.facts.0
  orders (asks_it {meter = m} {n = n} {more = more} goes) none well at =
      let one = at.facts.0 in
      let count = at.count in
      (tt, orders goes none well.1 (record { asks_before = at.asks_before + 1; count = omega (arith, count); few = omega (arith, one); idle = false; facts = at.facts.1 }))
  orders (has_no_request {meter = m} {n = n} {more = more} goes) none well at = (tt, orders goes none well.1 (record { asks_before = at.asks_before; facts = at.facts.1 }))
  orders (is_given_up goes) none well at =
      let count = at.count in
      let few = at.few in
      absurd (omega (arith, count, few))
  orders (goes_on on goes) none well at = (tt, orders goes none well.1 (record { asks_before = at.asks_before; count = at.count; few = at.few; idle = false; facts = at.facts.1 }))
  orders (is_accepted goes) none well at = (tt, orders goes none well.1 (record { asks_before = at.asks_before; count = at.count; few = at.few; idle = false; facts = at.facts.1 }))
  orders (is_put_off less goes) none well at = absurd at.facts.0
  orders (fails_at_last most goes) none well at = absurd at.facts.0
  orders {line = l} (is_faulty {meter = m} {left = left} {moment = moment} {bytes = bytes} {fault = fault} {more = more} goes) none well at = fault_order l moment bytes m left fault more at.facts.0
  orders (is_stored goes) none well at = (tt, orders goes none well.1 (record { asks_before = at.asks_before; count = at.count; few = at.few; idle = at.idle; facts = at.facts.1 }))
  orders (is_unstored goes) none well at = absurd well.0
  orders (stands_by {left = left} {phase = phase} {stored = stored} {more = more} not goes) none well at =
      (tt, orders goes none well.1 (past was_read new left phase (does (commits, committed stored)) more (λ m n idle facts. facts.1) at))
  orders {line = l} (is_told {end = e} {told = said} {more = more} says goes) none well at = orders goes none well.1 (ends_any was_read new e l said more at)
  orders {line = l} {old = o} (loses_it {more = more} goes) none well at = orders goes none well.1 (tells_past was_read new l o (is_lost l) more at)

-- ---- among all turns

until_as : (event : Event) (answer : Answer) (P Q : Type 0) → (P → Q) → UntilFull event answer P → UntilFull event answer Q
until_as (hears line moment bytes) (heard (Err Full)) P Q f u = tt
until_as event answer P Q f u = f u

module _ (line : ℕ) where
  abbrev pub StartsOn : Event → Answer → List Identity → Type 0
  StartsOn (starts other x) answer todo = other ≡ line → StartsIt (starts other x) answer todo
  StartsOn event answer todo = Unit {0}

  abbrev pub todo_on : Event → List Identity → List Identity
  todo_on (starts other x) todo = if other == line then drop 1 todo else todo
  todo_on event todo = todo

  abbrev pub OrderOn : List Identity → List Turn → Type 0
  OrderOn todo [] = Unit {0}
  OrderOn todo (turn ∷ turns) = StartsOn turn.0 turn.1 todo × CutBy line turn.0 turn.1 (OrderOn (todo_on turn.0 todo) turns)

  order_here : (event : Event) (answer : Answer) (todo : List Identity) (P : List Identity → Type 0) → is_on line event ≡ true → StartsIt event answer todo → UntilFull event answer (P (todo_then event todo)) → StartsOn event answer todo × CutBy line event answer (P (todo_on event todo))
  order_here (starts other x) (started (Ok done)) todo P on s u = ((λ e. s), subst (λ (b : Bool). P (if b then drop 1 todo else todo)) (sym on) u)
  order_here (starts other x) (started (Err fault)) todo P on s u = absurd s
  order_here (starts other x) (asked request) todo P on s u = absurd s
  order_here (starts other x) (heard told) todo P on s u = absurd s
  order_here (starts other x) (committed stored) todo P on s u = absurd s
  order_here (starts other x) (replied reply) todo P on s u = absurd s
  order_here (asks other) answer todo P on s u = (tt, u)
  order_here (hears other moment bytes) (heard (Err Full)) todo P on s u = (tt, λ ne. absurd (ne (eqb-true other line on)))
  order_here (hears other moment bytes) answer todo P on s u = (tt, u)
  order_here commits answer todo P on s u = (tt, u)
  order_here (offices text) answer todo P on s u = (tt, u)

  order_away : (event : Event) (answer : Answer) (todo : List Identity) (P : List Identity → Type 0) → IsElsewhere line event → P todo → StartsOn event answer todo × CutBy line event answer (P (todo_on event todo))
  order_away (starts other x) answer todo P ne p =
      ((λ e. absurd (ne e)), cut line (starts other x) answer (P (todo_on (starts other x) todo)) (subst (λ (b : Bool). P (if b then drop 1 todo else todo)) (sym (ne_eqb other line ne)) p))
  order_away (asks other) answer todo P ne p = (tt, p)
  order_away (hears other moment bytes) answer todo P ne p = (tt, cut line (hears other moment bytes) answer (P todo) p)
  order_away commits answer todo P ne p = (tt, p)
  order_away (offices text) answer todo P ne p = (tt, p)

  pub orders_on : (todo : List Identity) (happened : List Happening) → AreOfLines happened → InOrder todo (happened_on line happened) → OrderOn todo (happened_turns happened)
  orders_on todo [] of order = tt
  orders_on todo (does turn ∷ happened) of order = by (is_on line turn.0) refl (λ xs a. orders_on xs happened of.1 a) order
    where
      by : (b : Bool) → is_on line turn.0 ≡ b → ((xs : List Identity) → InOrder xs (happened_on line happened) → OrderOn xs (happened_turns happened)) → InOrder todo ((if b then does turn ∷ [] else []) ++ happened_on line happened) → OrderOn todo (turn ∷ happened_turns happened)
      by true on again a = order_here turn.0 turn.1 todo (λ (xs : List Identity). OrderOn xs (happened_turns happened)) on a.0 (until_as turn.0 turn.1 _ _ (again (todo_then turn.0 todo)) a.1)
      by false off again a = order_away turn.0 turn.1 todo (λ (xs : List Identity). OrderOn xs (happened_turns happened)) (is_away line turn of.0 off) (again todo a)
  orders_on todo (tells other told ∷ happened) of order = by (other == line) (λ a. orders_on todo happened of a) order
    where
      by : (b : Bool) → (InOrder todo (happened_on line happened) → OrderOn todo (happened_turns happened)) → InOrder todo ((if b then tells other told ∷ [] else []) ++ happened_on line happened) → OrderOn todo (happened_turns happened)
      by true again a = again a
      by false again a = again a

-- a line with commits alone starts nothing, and takes nothing
module _ (line : ℕ) (wire : Wire) where
  abbrev Both : Core → List Turn → Type 0
  Both core turns = OrderOn line [] turns × PartsIn line wire core turns

  alone_event : (core : Core) (event : Event) (answer : Answer) (turns : List Turn) → StartsOn line event answer [] × (todo_on line event [] ≡ []) × PartAt line wire core event → Both (next core event answer) turns → Both core ((event, answer) ∷ turns)
  alone_event core event answer turns here more = (
    (here.0, cut line event answer (OrderOn line (todo_on line event []) turns) (subst (λ (xs : List Identity). OrderOn line xs turns) (sym here.1) more.0)),
    (here.2, cut line event answer (PartsIn line wire (next core event answer) turns) more.1),
  )

  none_left : (b : Bool) → ◌≡◌ {A = List Identity} (if b then drop 1 [] else []) []
  none_left true = refl
  none_left false = refl

  none_todo : (event : Event) (answer : Answer) → IsElsewhere line event → StartsOn line event answer [] × (todo_on line event [] ≡ [])
  none_todo (starts other x) answer ne = ((λ e. absurd (ne e)), none_left (other == line))
  none_todo (asks other) answer ne = (tt, refl)
  none_todo (hears other moment bytes) answer ne = (tt, refl)
  none_todo commits answer ne = (tt, refl)
  none_todo (offices text) answer ne = (tt, refl)

  alone_turn : (core : Core) (turn : Turn) (happened : List Happening) → IsOfLines turn → (b : Bool) → is_on line turn.0 ≡ b → (AllByRecursion IsCommitTurn (happened_on line happened) → Both (next core turn.0 turn.1) (happened_turns happened))
      → AllByRecursion IsCommitTurn ((if b then does turn ∷ [] else []) ++ happened_on line happened) → Both core (turn ∷ happened_turns happened)
  alone_turn core turn happened of true on again a =
      alone_event core turn.0 turn.1 (happened_turns happened) (subst (λ (x : Event). StartsOn line x turn.1 [] × (todo_on line x [] ≡ []) × PartAt line wire core x) (sym a.0) (tt, refl, tt)) (again a.1)
  alone_turn core turn happened of false off again a =
      let away = is_away line turn of off in
      let none = none_todo turn.0 turn.1 away in
      alone_event core turn.0 turn.1 (happened_turns happened) (none.0, none.1, part_away line wire core turn.0 away) (again a)

  alone_told : (core : Core) (line_is : Bool) (other : ℕ) (told : Told) (happened : List Happening) → (AllByRecursion IsCommitTurn (happened_on line happened) → Both core (happened_turns happened)) → AllByRecursion IsCommitTurn ((if line_is then tells other told ∷ [] else []) ++ happened_on line happened) → Both core (happened_turns happened)
  alone_told core true other told happened again a = absurd a.0
  alone_told core false other told happened again a = again a

  pub alone_on : (core : Core) (happened : List Happening) → AreOfLines happened → AllByRecursion IsCommitTurn (happened_on line happened) → OrderOn line [] (happened_turns happened) × PartsIn line wire core (happened_turns happened)
  alone_on core [] of alone = (tt, tt)
  alone_on core (does turn ∷ happened) of alone = alone_turn core turn happened of.0 (is_on line turn.0) refl (λ a. alone_on (next core turn.0 turn.1) happened of.1 a) alone
  alone_on core (tells other told ∷ happened) of alone = alone_told core (other == line) other told happened (λ a. alone_on core happened of a) alone
