-- What a script does (this product): its lines, up to the first that spells nothing, are done one after the other.
use Rattle.std.specs.Prelude.{◌≡◌, ◌⊎◌, ℕ, ◌+◌, Bool, true, false, List, [], ◌∷◌, ◌++◌, codes}
use Rattle.std.specs.Prelude.{None, length, flat_map}
use Rattle.dc_core.specs.Event.{Event, Answer, starts, asks, hears, commits, offices}
use Rattle.dc_core.specs.Text.{answer_text}
use Rattle.dc_core.specs.Transcript.{Turn}
use Rattle.mbdc_bus.specs.Bus.{Exchange}
use Rattle.mbdc_io.specs.Words.{number_word}
use Rattle.dc_sectors.specs.declared.device.Disk.{Ghosts}
use Rattle.dc_poller.specs.Link.{HasBus, IsLinked, Link, gateway_line}
use Rattle.dc_poller.specs.Poll.{Polls, PollsPart}
use Rattle.dc_poller.specs.Search.{Searches, SearchesPart}
use Rattle.dc_poller.specs.Run.{Run, IsRunOf}
use Rattle.dc_poller.specs.ScriptLine.{LineSeen, nothing, at, start, ask, hear, commit, office}
use Rattle.dc_poller.specs.ScriptLine.{poll, search, IsLineOf}

-- ---- reading

-- The first of these lines ask for these, each for the entry at its place, and `rest` are the lines
-- after them.
abbrev pub AskFor : List (List ℕ) → List LineSeen → List (List ℕ) → Type 0
AskFor lines [] rest = rest ≡ lines
AskFor [] (asked ∷ more) rest = ⊥
AskFor (line ∷ lines) (asked ∷ more) rest = IsLineOf line asked × AskFor lines more rest

-- The script ends there: no line is left, or the next one spells nothing.
abbrev pub EndsAt : List (List ℕ) → Bool → Type 0
EndsAt [] faulty = faulty ≡ false
EndsAt (line ∷ lines) faulty = (faulty ≡ true) × ((asked : LineSeen) → ¬ (IsLineOf line asked))

-- ---- moments

-- the moment after a line
abbrev pub moment_behind : ℕ → LineSeen → ℕ
moment_behind moment nothing = moment
moment_behind moment (at seconds) = seconds
moment_behind moment (start line meter) = moment
moment_behind moment (ask line) = moment
moment_behind moment (hear line answer) = moment
moment_behind moment commit = moment
moment_behind moment (office line) = moment
moment_behind moment (poll line meter) = moment
moment_behind moment (search budget) = moment

-- and after some lines
abbrev pub moment_after : ℕ → List LineSeen → ℕ
moment_after moment [] = moment
moment_after moment (asked ∷ more) = moment_after (moment_behind moment asked) more

-- ---- what a line does

-- one event: its turn, and the text of its answer
pub record IsOneTurn (event : Event) (turns : List Turn) (text : List ℕ) : Type 0 where
  pub answer : Answer
  pub turns_are : turns ≡ (event, answer) ∷ []
  pub text_is : text ≡ answer_text answer

-- that event, whatever its answer
abbrev pub IsTurnOf : Event → List Turn → Type 0
IsTurnOf event turns = (answer : Answer) × (turns ≡ (event, answer) ∷ [])

-- no event: it writes this
pub record SaysOnly (said : List ℕ) (turns : List Turn) (text : List ℕ) : Type 0 where
  pub no_turns : turns ≡ []
  pub text_is : text ≡ said

abbrev pub no_gateway : List ℕ
no_gateway = codes "NO GATEWAY\n"

-- a line has no bus
pub record SaysNone (link left : Link) (line : ℕ) (turns : List Turn) (exchanges : List Exchange)
    (text : List ℕ) : Type 0 where
  pub no_bus : ¬ (IsLinked link line)
  pub says : SaysOnly no_gateway turns text
  pub unasked : exchanges ≡ []
  pub left_is : left ≡ link

-- THE TURNS OF A LINE, ITS EXCHANGES OVER THE GATEWAY AND ITS TEXT, at a moment: the gateway is found like this, and
-- left like that.
abbrev pub Does : ℕ → LineSeen → Link → Link → List Turn → List Exchange → List ℕ → Type 0
Does moment nothing link left turns exchanges text =
    SaysOnly [] turns text × (left ≡ link) × (exchanges ≡ [])
Does moment (at seconds) link left turns exchanges text =
    SaysOnly [] turns text × (left ≡ link) × (exchanges ≡ [])
Does moment (start line meter) link left turns exchanges text =
    IsOneTurn (starts line meter) turns text × (left ≡ link) × (exchanges ≡ [])
Does moment (ask line) link left turns exchanges text =
    IsOneTurn (asks line) turns text × (left ≡ link) × (exchanges ≡ [])
Does moment (hear line answer) link left turns exchanges text =
    IsOneTurn (hears line moment answer) turns text × (left ≡ link) × (exchanges ≡ [])
Does moment commit link left turns exchanges text =
    IsOneTurn commits turns text × (left ≡ link) × (exchanges ≡ [])
Does moment (office line) link left turns exchanges text =
    IsOneTurn (offices line) turns text × (left ≡ link) × (exchanges ≡ [])
Does moment (poll line meter) link left turns exchanges text =
    (IsLinked link line × Polls line moment meter link left turns exchanges text)
    ⊎ SaysNone link left line turns exchanges text
Does moment (search budget) link left turns exchanges text =
    (HasBus link × Searches None budget link left turns exchanges text)
    ⊎ SaysNone link left gateway_line turns exchanges text

-- what was done for a line
pub record Deed : Type 0 where
  pub turns : List Turn
  pub exchanges : List Exchange
  pub text : List ℕ
  pub left : Link

-- these deeds are those of the lines, each at its moment
abbrev pub AreDone : ℕ → Link → List LineSeen → List Deed → Type 0
AreDone moment link [] [] = Unit {0}
AreDone moment link [] (deed ∷ deeds) = ⊥
AreDone moment link (asked ∷ more) [] = ⊥
AreDone moment link (asked ∷ more) (deed ∷ deeds) =
    Does moment asked link deed.left deed.turns deed.exchanges deed.text
    × AreDone (moment_behind moment asked) deed.left more deeds

abbrev pub deeds_turns : List Deed → List Turn
deeds_turns deeds = flat_map (λ (deed : Deed). deed.turns) deeds

abbrev pub deeds_text : List Deed → List ℕ
deeds_text deeds = flat_map (λ (deed : Deed). deed.text) deeds

-- what the lines had over the gateway
abbrev pub deeds_exchanges : List Deed → List Exchange
deeds_exchanges deeds = flat_map (λ (deed : Deed). deed.exchanges) deeds

abbrev pub link_after : Link → List Deed → Link
link_after link [] = link
link_after link (deed ∷ deeds) = link_after deed.left deeds

-- after this many lines: which one spells nothing
abbrev pub ending : Bool → ℕ → List ℕ
ending false count = []
ending true count = codes "LINE" ++ number_word (count + 1) ++ codes " SYNTAX\n"

-- ---- the run

-- These lines are done one after the other, their turns are run after those that were before, what was written is
-- their text, and what went over the gateway are their exchanges.
pub record LinesRan {D : Type 0} (g : Ghosts D) (run : Run D) (link : Link)
    (asked : List LineSeen) (wrote : List ℕ → Type 0) (carries : List Exchange → Type 0)
    : Type 0 where
  pub deeds : List Deed
  pub done : AreDone 0 link asked deeds
  pub went : IsRunOf g run (deeds_turns deeds)
  pub text : wrote (deeds_text deeds)
  pub carried : carries (deeds_exchanges deeds)

-- A script of these lines: those up to its end are done.
pub record ScriptRan {D : Type 0} (g : Ghosts D) (run : Run D) (link : Link)
    (lines : List (List ℕ)) (faulty : Bool) (wrote : List ℕ → Type 0)
    (carries : List Exchange → Type 0) : Type 0 where
  pub asked : List LineSeen
  pub rest : List (List ℕ)
  pub are_read : AskFor lines asked rest
  pub ends : EndsAt rest faulty
  pub done : LinesRan g run link asked (λ text. wrote (text ++ ending faulty (length asked)))
      carries

-- ---- a write failed

-- The turns that were done of a line on which a write failed: a line that is one event has had it, a poll some of its
-- turns, a search all of its own. One that asks for nothing writes nothing.
abbrev pub DoesPart : ℕ → LineSeen → Link → List Turn → List Exchange → Type 0
DoesPart moment nothing link turns exchanges = ⊥
DoesPart moment (at seconds) link turns exchanges = ⊥
DoesPart moment (start line meter) link turns exchanges =
    IsTurnOf (starts line meter) turns × (exchanges ≡ [])
DoesPart moment (ask line) link turns exchanges = IsTurnOf (asks line) turns × (exchanges ≡ [])
DoesPart moment (hear line answer) link turns exchanges =
    IsTurnOf (hears line moment answer) turns × (exchanges ≡ [])
DoesPart moment commit link turns exchanges = IsTurnOf commits turns × (exchanges ≡ [])
DoesPart moment (office line) link turns exchanges =
    IsTurnOf (offices line) turns × (exchanges ≡ [])
DoesPart moment (poll line meter) link turns exchanges =
    (IsLinked link line × PollsPart line moment meter link turns exchanges)
    ⊎ (¬ (IsLinked link line) × (turns ≡ []) × (exchanges ≡ []))
DoesPart moment (search budget) link turns exchanges =
    (HasBus link × SearchesPart budget turns exchanges)
    ⊎ (¬ (HasBus link) × (turns ≡ []) × (exchanges ≡ []))

-- A write failed at the first of these lines: the line asks for this, or it spells nothing, which
-- was to be printed.
abbrev pub FailsAt : ℕ → Link → List (List ℕ) → List Turn → List Exchange → Type 0
FailsAt moment link [] turns exchanges = ⊥
FailsAt moment link (line ∷ rest) turns exchanges =
    ((asked : LineSeen) × IsLineOf line asked × DoesPart moment asked link turns exchanges)
    ⊎ (((asked : LineSeen) → ¬ (IsLineOf line asked)) × (turns ≡ []) × (exchanges ≡ []))

-- A script that a failed write ended: the lines before the one at which it failed are done, and of that one some turns.
pub record ScriptCut {D : Type 0} (g : Ghosts D) (run : Run D) (link : Link)
    (lines : List (List ℕ)) (carries : List Exchange → Type 0) : Type 0 where
  pub asked : List LineSeen
  pub rest : List (List ℕ)
  pub are_read : AskFor lines asked rest
  pub deeds : List Deed
  pub done : AreDone 0 link asked deeds
  pub part : List Turn
  pub part_exchanges : List Exchange
  pub fails : FailsAt (moment_after 0 asked) (link_after link deeds) rest part part_exchanges
  pub went : IsRunOf g run (deeds_turns deeds ++ part)
  pub carried : carries (deeds_exchanges deeds ++ part_exchanges)

-- ---- one line

-- A line is done, this was written, and these exchanges went over the gateway, which is left like that.
pub record LineRan {D : Type 0} (g : Ghosts D) (run : Run D) (moment : ℕ) (asked : LineSeen)
    (link left : Link) (wrote : List ℕ → Type 0) (talked : List Exchange → Type 0)
    : Type 0 where
  pub turns : List Turn
  pub exchanges : List Exchange
  pub line : List ℕ
  pub does : Does moment asked link left turns exchanges line
  pub went : IsRunOf g run turns
  pub text : wrote line
  pub over : talked exchanges

-- A write failed on a line.
pub record LineCut {D : Type 0} (g : Ghosts D) (run : Run D) (moment : ℕ) (asked : LineSeen)
    (link : Link) (talked : List Exchange → Type 0) : Type 0 where
  pub turns : List Turn
  pub exchanges : List Exchange
  pub does : DoesPart moment asked link turns exchanges
  pub went : IsRunOf g run turns
  pub over : talked exchanges
