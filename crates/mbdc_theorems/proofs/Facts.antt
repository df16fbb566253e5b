-- What holds of each of a list, and what happens on one line.
use Rattle.std.proofs.Common.{◌≡◌, ℕ, Bool, true, false, List, [], ◌∷◌, ◌++◌, refl, sym, ◌∙◌, ap, subst, Err, ◌≢◌, Some, drop, ◌+◌, ◌<◌, Option, None, Result, Ok}
use Rattle.std.specs.Prelude.{if◌then◌else◌, ◌==◌}
use Rattle.std.specs.List.{AllByRecursion}
use Rattle.std.proofs.lemmas.Bool.{eq-eqb}
use Rattle.dc_core.specs.Event.{starts, asks, hears, commits, offices, Answer, heard, committed, Event, started, asked}
use Rattle.dc_core.specs.Core.{Core, session_of, present, opened}
use Rattle.dc_core.specs.Step.{next}
use Rattle.dc_core.specs.Transcript.{Turn, leads}
use Rattle.mbdc_poll.specs.Keeping.{AreTrue, Store, behind_answer, store_behind}
use Rattle.mbdc_poll.specs.Happening.{Happening, does, tells, is_on, happened_on, happened_turns, turns_of}
use Rattle.dc_core.specs.declared.fault.HearFault.TheVariants.{Full, NoMemory, PendingFull}
use Rattle.dc_readout.specs.Summary.{Summary, verdict_by}
use Rattle.dc_address.specs.declared.identity.Identity.{Identity}
use Rattle.mbdc_change.specs.State.{State, MeterRow, row_of}
use Rattle.dc_core.specs.declared.fault.HearFault.{HearFault}
use Rattle.dc_core.specs.declared.fault.StartFault.{StartFault}
use Rattle.dc_core.specs.declared.line_heard.LineHeard.{LineHeard}
use Rattle.mbdc_poll.specs.declared.event.Event.{Event as Told}
use Rattle.mbdc_poll.specs.declared.event.Event.TheVariants.{Read as told_read}
use Rattle.mbdc_theorems.specs.Beside.{IsElsewhere, IsOfLines, IsNextPart, IsNoFailure, HasRead}
use Rattle.mbdc_theorems.specs.Carried.{Wire}
use Rattle.mbdc_theorems.specs.Every.{IsWired}

pub all_left : {A : Type 0} (P : A → Type 0) (xs ys : List A) → AllByRecursion P (xs ++ ys) → AllByRecursion P xs
all_left P [] ys a = tt
all_left P (x ∷ xs) ys a = (a.0, all_left P xs ys a.1)

pub all_right : {A : Type 0} (P : A → Type 0) (xs ys : List A) → AllByRecursion P (xs ++ ys) → AllByRecursion P ys
all_right P [] ys a = a
all_right P (x ∷ xs) ys a = all_right P xs ys a.1

pub all_both : {A : Type 0} (P : A → Type 0) (xs ys : List A) → AllByRecursion P xs → AllByRecursion P ys → AllByRecursion P (xs ++ ys)
all_both P [] ys a b = b
all_both P (x ∷ xs) ys a b = (a.0, all_both P xs ys a.1 b)

pub all_as : {A : Type 0} (P Q : A → Type 0) (xs : List A) → ((x : A) → P x → Q x) → AllByRecursion P xs → AllByRecursion Q xs
all_as P Q [] f a = tt
all_as P Q (x ∷ xs) f a = (f x a.0, all_as P Q xs f a.1)

pub all_with : {A : Type 0} (P Q R : A → Type 0) (xs : List A) → ((x : A) → P x → Q x → R x) → AllByRecursion P xs → AllByRecursion Q xs → AllByRecursion R xs
all_with P Q R [] f a b = tt
all_with P Q R (x ∷ xs) f a b = (f x a.0 b.0, all_with P Q R xs f a.1 b.1)

-- ---- the first thing on a line

abbrev pub AreOfLines : List Happening → Type 0
AreOfLines happened = AllByRecursion IsOfLines (happened_turns happened)

pub is_away : (line : ℕ) (turn : Turn) → IsOfLines turn → is_on line turn.0 ≡ false → IsElsewhere line turn.0
is_away line (starts other meter, answer) of off = λ e. (let on = eq-eqb other line e in let bad : true ≡ false = sym on ∙ off in cc)
is_away line (asks other, answer) of off = λ e. (let on = eq-eqb other line e in let bad : true ≡ false = sym on ∙ off in cc)
is_away line (hears other moment bytes, answer) of off = λ e. (let on = eq-eqb other line e in let bad : true ≡ false = sym on ∙ off in cc)
is_away line (commits, answer) of off = absurd cc
is_away line (offices text, answer) of off = absurd of

-- what happens elsewhere before it, and what happens after it
pub record Split (line : ℕ) (x : Happening) (more full : List Happening) : Type 0 where
  pub away : List Turn
  pub rest : List Happening
  pub turns_are : happened_turns full ≡ away ++ (turns_of x ++ happened_turns rest)
  pub more_is : more ≡ happened_on line rest
  pub elsewhere : AllByRecursion (λ (turn : Turn). IsElsewhere line turn.0) away
  pub of : AreOfLines rest
  pub truly : (core : Core) (store : Store) → AreTrue core store full → AreTrue (leads core away) (store_behind store away) (x ∷ rest)

pub split_at : (line : ℕ) (x : Happening) (more full : List Happening) → x ∷ more ≡ happened_on line full → AreOfLines full → Split line x more full
split_at line x more [] is of = absurd cc
split_at line x more (does turn ∷ full) is of = by (is_on line turn.0) refl (λ e. split_at line x more full e of.1) is
  where
    by : (b : Bool) → is_on line turn.0 ≡ b → (x ∷ more ≡ happened_on line full → Split line x more full) → x ∷ more ≡ (if b then does turn ∷ [] else []) ++ happened_on line full → Split line x more (does turn ∷ full)
    by true on again e =
        let same : does turn ≡ x = cc in
        let rest : more ≡ happened_on line full = cc in
        record { away = []; rest = full; turns_are = ap (λ (y : Happening). turns_of y ++ happened_turns full) same; more_is = rest; elsewhere = tt; of = of.1; truly = λ core store t. subst (λ (y : Happening). AreTrue core store (y ∷ full)) same t }
    by false off again e =
        let p = again e in
        record {
          away = turn ∷ p.away;
          rest = p.rest;
          turns_are = ap (λ (ts : List Turn). turn ∷ ts) p.turns_are;
          more_is = p.more_is;
          elsewhere = (is_away line turn of.0 off, p.elsewhere);
          of = p.of;
          truly = λ core store t. p.truly (next core turn.0 turn.1) (behind_answer store turn.1) t;
        }
split_at line x more (tells other told ∷ full) is of = by (other == line) refl (λ e. split_at line x more full e of) is
  where
    by : (b : Bool) → (other == line) ≡ b → (x ∷ more ≡ happened_on line full → Split line x more full) → x ∷ more ≡ (if b then tells other told ∷ [] else []) ++ happened_on line full → Split line x more (tells other told ∷ full)
    by true on again e =
        let same : tells other told ≡ x = cc in
        let rest : more ≡ happened_on line full = cc in
        record { away = []; rest = full; turns_are = ap (λ (y : Happening). turns_of y ++ happened_turns full) same; more_is = rest; elsewhere = tt; of = of; truly = λ core store t. subst (λ (y : Happening). AreTrue core store (y ∷ full)) same t }
    by false off again e =
        let p = again e in
        record { away = p.away; rest = p.rest; turns_are = p.turns_are; more_is = p.more_is; elsewhere = p.elsewhere; of = p.of; truly = λ core store t. p.truly core store t.2 }

-- where nothing happens on the line, all turns are elsewhere
pub none_on : (line : ℕ) (full : List Happening) → [] ≡ happened_on line full → AreOfLines full → AllByRecursion (λ (turn : Turn). IsElsewhere line turn.0) (happened_turns full)
none_on line [] is of = tt
none_on line (does turn ∷ full) is of = by (is_on line turn.0) refl (λ e. none_on line full e of.1) is
  where
    by : (b : Bool) → is_on line turn.0 ≡ b → ([] ≡ happened_on line full → AllByRecursion (λ (t : Turn). IsElsewhere line t.0) (happened_turns full)) → [] ≡ (if b then does turn ∷ [] else []) ++ happened_on line full → IsElsewhere line turn.0 × AllByRecursion (λ (t : Turn). IsElsewhere line t.0) (happened_turns full)
    by true on again e = absurd cc
    by false off again e = (is_away line turn of.0 off, again e)
none_on line (tells other told ∷ full) is of = by (other == line) (λ e. none_on line full e of) is
  where
    by : (b : Bool) → ([] ≡ happened_on line full → AllByRecursion (λ (t : Turn). IsElsewhere line t.0) (happened_turns full)) → [] ≡ (if b then tells other told ∷ [] else []) ++ happened_on line full → AllByRecursion (λ (t : Turn). IsElsewhere line t.0) (happened_turns full)
    by true again e = absurd cc
    by false again e = again e

-- A concentrator that has memory and a disk, and never too much pending: a telegram is refused for want of room in the
-- register at most.

abbrev pub IsSupplied : Answer → Type 0
IsSupplied (heard (Err PendingFull)) = ⊥
IsSupplied (heard (Err NoMemory)) = ⊥
IsSupplied (committed (Err fault)) = ⊥
IsSupplied answer = Unit {0}

-- no telegram is refused for want of room in the register
abbrev pub IsRoomy : Answer → Type 0
IsRoomy (heard (Err Full)) = ⊥
IsRoomy answer = Unit {0}

abbrev pub AreSupplied : List Happening → Type 0
AreSupplied happened = AllByRecursion (λ (turn : Turn). IsSupplied turn.1) (happened_turns happened)

abbrev pub AreRoomy : List Happening → Type 0
AreRoomy happened = AllByRecursion (λ (turn : Turn). IsRoomy turn.1) (happened_turns happened)

-- the same of what happens on a line
abbrev pub IsSuppliedIn : Happening → Type 0
IsSuppliedIn (does turn) = IsSupplied turn.1
IsSuppliedIn (tells line told) = Unit {0}

abbrev pub IsRoomyIn : Happening → Type 0
IsRoomyIn (does turn) = IsRoomy turn.1
IsRoomyIn (tells line told) = Unit {0}

-- Each telegram that a line's session takes is the next of its meter's parts, until one is refused (for the theorem of
-- specs/Every).

module _ (line : ℕ) where
  -- after a refusal on this line nothing is said
  abbrev pub CutBy : Event → Answer → Type 0 → Type 0
  CutBy (starts other x) (started (Err fault)) rest = other ≢ line → rest
  CutBy (hears other moment bytes) (heard (Err Full)) rest = other ≢ line → rest
  CutBy event answer rest = rest

  pub cut : (event : Event) (answer : Answer) (P : Type 0) → P → CutBy event answer P
  cut (starts other x) (started (Err fault)) P p = λ ne. p
  cut (hears other moment bytes) (heard (Err Full)) P p = λ ne. p
  cut event answer P p = p

  pub uncut : (event : Event) (answer : Answer) (P : Type 0) → IsElsewhere line event → CutBy event answer P → P
  uncut (starts other x) (started (Err fault)) P ne c = c ne
  uncut (hears other moment bytes) (heard (Err Full)) P ne c = c ne
  uncut event answer P ne c = c

module _ (line : ℕ) (wire : Wire) where
  -- the telegram that an answer is, is the next part of the meter that is read on this line
  abbrev pub PartAt : Core → Event → Type 0
  PartAt core (hears other moment bytes) = other ≡ line → (s : Summary) → session_of core line ≡ Some s → IsNextPart (drop s.settled (wire.parts s.meter)) (verdict_by s bytes)
  PartAt core event = Unit {0}

  abbrev pub PartsIn : Core → List Turn → Type 0
  PartsIn core [] = Unit {0}
  PartsIn core (turn ∷ turns) = PartAt core turn.0 × CutBy line turn.0 turn.1 (PartsIn (next core turn.0 turn.1) turns)

  pub part_away : (core : Core) (event : Event) → IsElsewhere line event → PartAt core event
  part_away core (hears other moment bytes) ne = λ same. absurd (ne same)
  part_away core (starts other x) ne = tt
  part_away core (asks other) ne = tt
  part_away core commits ne = tt
  part_away core (offices text) ne = tt

  -- behind turns of other lines
  pub parts_away : (core : Core) (away more : List Turn) → AllByRecursion (λ (turn : Turn). IsElsewhere line turn.0) away → PartsIn (leads core away) more → PartsIn core (away ++ more)
  parts_away core [] more elsewhere parts = parts
  parts_away core (turn ∷ away) more elsewhere parts =
      (part_away core turn.0 elsewhere.0, cut line turn.0 turn.1 (PartsIn (next core turn.0 turn.1) (away ++ more)) (parts_away (next core turn.0 turn.1) away more elsewhere.1 parts))

  -- where none is of this line
  pub parts_none : (core : Core) (turns : List Turn) → AllByRecursion (λ (turn : Turn). IsElsewhere line turn.0) turns → PartsIn core turns
  parts_none core [] elsewhere = tt
  parts_none core (turn ∷ turns) elsewhere =
      (part_away core turn.0 elsewhere.0, cut line turn.0 turn.1 (PartsIn (next core turn.0 turn.1) turns) (parts_none (next core turn.0 turn.1) turns elsewhere.1))

-- What is known of each thing on a line that carries its talk: no readout fails, none asks more than 102 times, and
-- where it has no request any more its meter was read.

-- requests of one readout, at most
abbrev pub most_requests : ℕ
most_requests = 102

-- a meter as the theorem says it, and its row is of the line
pub record IsWiredOn (line : ℕ) (state : State) (wire : Wire) (identity : Identity) : Type 0 where
  pub wired : IsWired state wire identity
  pub on_line : wired.row.line ≡ line

pub wired_on : (line : ℕ) (state : State) (wire : Wire) (identity : Identity) → IsWired state wire identity → ((row : MeterRow) → row_of identity state ≡ Some row → row.line ≡ line) → IsWiredOn line state wire identity
wired_on line state wire identity w on = record { wired = w; on_line = on w.row w.registered }

-- ---- a readout of a meter that ended in a reading, within all turns

pub record WasRead (line : ℕ) (state : State) (wire : Wire) (all : List Turn) (x : Identity) : Type 0 where
  pub wired : IsWiredOn line state wire x
  pub row : MeterRow
  pub front : List Turn
  pub since : List Turn
  pub back : List Turn
  pub all_are : all ≡ (front ++ (starts line x, started (Ok tt)) ∷ since) ++ back
  pub registered : row_of x (present (leads (opened state) front)) ≡ Some row
  pub free : session_of (leads (opened state) (front ++ (starts line x, started (Ok tt)) ∷ since)) line ≡ None
  pub settled : (leads (opened state) (front ++ (starts line x, started (Ok tt)) ∷ since)).pending ≡ []
  pub read : HasRead x row (wire.parts x) (present (leads (opened state) front))
      (leads (opened state) (front ++ (starts line x, started (Ok tt)) ∷ since)).committed

-- this is the serial of a reading in which its readout ended
pub record WasNew (line : ℕ) (state : State) (wire : Wire) (all : List Turn) (x : Identity) (serial : ℕ) : Type 0 where
  pub was : WasRead line state wire all x
  pub serial_is : serial ≡ was.read.serial

-- ---- along the line

-- the meter that is read, if any was started; its requests until then; and whether it is known that its readout is over
abbrev pub meter_then : Option Identity → Event → Option Identity
meter_then m (starts line x) = Some x
meter_then m (asks line) = m
meter_then m (hears line moment bytes) = m
meter_then m commits = m
meter_then m (offices text) = m

abbrev pub asks_then : ℕ → Event → Answer → ℕ
asks_then n (starts line x) answer = 0
asks_then n (asks line) (asked (Some request)) = n + 1
asks_then n event answer = n

abbrev pub ask_idle : Option (List ℕ) → Option Identity → Bool → Bool
ask_idle (Some request) m idle = false
ask_idle None (Some x) idle = true
ask_idle None None idle = idle

abbrev pub idle_then : Option Identity → Bool → Event → Answer → Bool
idle_then m idle (starts line x) answer = false
idle_then m idle (asks line) (asked request) = ask_idle request m idle
idle_then m idle (hears line moment bytes) answer = false
idle_then m idle event answer = idle

-- where no readout goes on, no start is refused
abbrev pub StartFact : Result (Unit {0}) StartFault → Bool → Type 0
StartFact (Ok done) idle = Unit {0}
StartFact (Err fault) true = ⊥
StartFact (Err fault) false = Unit {0}

abbrev pub HearFact : Option Identity → Result LineHeard HearFault → Type 0
HearFact None answer = Unit {0}
HearFact (Some x) (Ok answer) = IsNoFailure (heard (Ok answer))
HearFact (Some x) (Err Full) = Unit {0}
HearFact (Some x) (Err fault) = ⊥

-- after a refused start, where a readout may go on, and after a telegram for which the register has no room, nothing
-- is said
abbrev pub After : Event → Answer → Bool → Type 0 → Type 0
After (starts line x) (started (Err fault)) false rest = Unit {0}
After (hears line moment bytes) (heard (Err Full)) idle rest = Unit {0}
After event answer idle rest = rest

-- what is told of a meter's reading is of a new one
abbrev pub IsToldNew : (Identity → ℕ → Type 0) → Identity → Told → Type 0
IsToldNew new x (told_read meter serial parts last) = meter ≡ x → new x serial
IsToldNew new x told = Unit {0}

abbrev pub TellFact : (Identity → ℕ → Type 0) → Option Identity → Bool → Told → Type 0
TellFact new (Some x) true told = IsToldNew new x told
TellFact new m idle told = Unit {0}

module _ (was_read : Identity → Type 0) (new : Identity → ℕ → Type 0) where
  abbrev pub AskFact : Option Identity → ℕ → Option (List ℕ) → Type 0
  AskFact None n request = Unit {0}
  AskFact (Some x) n (Some request) = n < most_requests
  AskFact (Some x) n None = was_read x

  abbrev pub Fact : Option Identity → ℕ → Bool → Event → Answer → Type 0
  Fact m n idle (starts line x) (started answer) = StartFact answer idle
  Fact m n idle (asks line) (asked request) = AskFact m n request
  Fact m n idle (hears line moment bytes) (heard answer) = HearFact m answer
  Fact m n idle event answer = Unit {0}

  abbrev pub Facts : Option Identity → ℕ → Bool → List Happening → Type 0
  Facts m n idle [] = Unit {0}
  Facts m n idle (does turn ∷ more) =
      Fact m n idle turn.0 turn.1 × After turn.0 turn.1 idle (Facts (meter_then m turn.0) (asks_then n turn.0 turn.1) (idle_then m idle turn.0 turn.1) more)
  Facts m n idle (tells line told ∷ more) = TellFact new m idle told × Facts m n idle more
