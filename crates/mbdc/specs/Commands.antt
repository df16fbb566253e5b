-- What the commands that write an image have done at their end: `fit`, `swap`, `move`, `out`, `run` and `poll` (this
-- product).
use Rattle.std.specs.Prelude.{◌≡◌, ◌≤◌, ◌-◌, ◌^◌, ℕ, Bool, true, List, [], Option, None, Some, IfSome, IfNone, Result}
use Rattle.std.specs.Prelude.{All, Contains, length, min, option_map}
use Rattle.dc_address.specs.declared.identity.Identity.{Identity}
use Rattle.dc_core.specs.Core.{present}
use Rattle.dc_meters.specs.Means.{AreMeant, Means}
use Rattle.dc_meters.specs.declared.named.name.Named.{Named}
use Rattle.dc_poller.specs.Link.{Link}
use Rattle.dc_sectors.specs.Runs.{OnlyLooked}
use Rattle.dc_sectors.specs.declared.device.Disk.{Ghosts}
use Rattle.mbdc_change.specs.State.{Held, State, row_of}
use Rattle.mbdc_commands.specs.FitOver.{FitsOver}
use Rattle.mbdc_commands.specs.Ending.{PollEnds}
use Rattle.mbdc_commands.specs.Guard.{Guards}
use Rattle.mbdc_commands.specs.PollOver.{PollLeaves}
use Rattle.mbdc_commands.specs.RunOver.{Over, RunsOver}
use Rattle.mbdc_commands.specs.declared.words.task.OrderTask.{OrderTask}
use Rattle.mbdc_commands.specs.declared.words.task.Turn.{Turn}
use Rattle.mbdc_commands.specs.declared.words.task.Turn.TheVariants.{Swap, Move, Out}
use Rattle.mbdc_ending.specs.Ending.{status_of}
use Rattle.mbdc_ending.specs.Outcome.{EndsAs}
use Rattle.mbdc_ending.specs.declared.ending.Ending.{Ending}
use Rattle.mbdc_ending.specs.declared.fault.ProgramFault.{ProgramFault}
use Rattle.mbdc_fit.specs.Order.{subject_of}
use Rattle.mbdc_fit.specs.Listed.{IsListOf}
use Rattle.mbdc_fit.specs.declared.list.order.Order.{Order}
use Rattle.mbdc_fit.specs.declared.list.order.Order.TheVariants.{Swap as Swapped, Move as Moved, Out as Gone}
use Rattle.mbdc_fit.specs.declared.list.wish.Wish.{Wish}
use Rattle.mbdc_fit.specs.declared.list.wish.Wish.TheVariants.{List as Listed, One}
use Rattle.mbdc_log.specs.declared.greatest.Greatest.{Greatest}
use Rattle.mbdc_looks.specs.Register.{IsRegisterOf}
use Rattle.mbdc_poll.specs.Happening.{Happening, happened_on}
use Rattle.mbdc_poll.specs.Planned.{asked_for, refused_count, wanted_on}
use Rattle.mbdc_poll.specs.Queue.{starts_in}
use Rattle.mbdc_poll.specs.declared.outcome.Outcome.{Outcome}

-- it ends without an answer: for its words, a file, a link, the clock, the image or memory
abbrev pub Refuses : Ending → Type 0
Refuses ending = 2 ≤ status_of ending

-- ---- the command that the words ask for

-- the command of this meter
abbrev pub order_for : Turn → Identity → Order
order_for (Swap new address flat) meter = Swapped meter new address
order_for (Move flat) meter = Moved meter flat
order_for Out meter = Gone meter

-- the flat in which the meter has to be, if one is named
abbrev pub flat_in : Turn → Option (List ℕ)
flat_in (Swap new address flat) = flat
flat_in (Move flat) = None
flat_in Out = None

-- THE COMMAND THAT THE WORDS ASK FOR: it is that of the meter which they name, and the register has the meter in the flat
-- that they name, where they name one and it has the meter.
pub record IsAsked (state : State) (task : OrderTask) (order : Order) : Type 0 where
  pub meant : Means state task.meter (subject_of order)
  pub same : order ≡ order_for task.turn (subject_of order)
  pub there : IfSome (flat_in task.turn) (λ flat. IfSome (row_of (subject_of order) state) (λ row. row.flat ≡ flat))

-- ---- the image

-- ALL THAT IS ASKED IS DONE, OR NOTHING OF IT, to the image on this disk, whatever became of it before.
abbrev pub IsDone : {D : Type 0} → Ghosts D → Wish → D → Ending → Type 0
IsDone {D} g wish disk ending = (left : D) × Guards g disk left ending (λ ready.
    FitsOver g wish (λ (writer : D). None) ready ready left ending)

-- AN IMAGE IS WRITTEN that was opened, and at first only looked at: this is done of the disk that was opened, and of what
-- the look left of it.
pub record OnImage {D : Type 0} (g : Ghosts D) (held : D → Type 0) (Done : (disk looked : D) → Type 0) : Type 0 where
  pub disk : D
  pub is_held : held disk
  pub looked : D
  pub looks : OnlyLooked g disk looked
  pub done : Done disk looked

-- the register that the image on this disk reads as, if it opens
abbrev pub IsRegister : {D : Type 0} → Ghosts D → (disk looked : D) → Option Held → Type 0
IsRegister {D} g disk looked house = IfSome house (λ it. (greatest : Greatest) × (ahead : Option ℕ) × (g.keeps looked
    → IsRegisterOf (g.sectors disk) greatest (g.reads disk) it ahead))

-- what is asked is the list that a text reads as, with this register, and no command
abbrev pub IsListed : List ℕ → Option Held → Wish → Type 0
IsListed text house (Listed list) = IsListOf text (option_map (λ it. it.state) house) list.now
IsListed text house (One order) = ⊥

-- the list of an input's text is put into the register of an image
pub record IsFitted {D : Type 0} (g : Ghosts D) (input : Option (List ℕ)) (ending : Ending) (disk looked : D)
    : Type 0 where
  pub house : Option Held
  pub read : IsRegister g disk looked house
  pub text : List ℕ
  pub text_is : IfSome input (λ whole. text ≡ whole)
  pub wish : Wish
  pub listed : IsListed text house wish
  pub done : IsDone g wish looked ending

-- A LIST IS PUT INTO THE REGISTER of an image: both were opened.
abbrev pub Fitted : {D Input : Type 0} → Ghosts D → (D → Type 0) → (Input → Type 0) → (Input → Option (List ℕ)) → Ending
    → Type 0
Fitted {D} {Input} g held opened left ending = (input : Input) × opened input
    × OnImage g held (IsFitted g (left input) ending)

-- the command that the words ask for, by what the image reads as, is done on its register
pub record IsObeyed {D : Type 0} (g : Ghosts D) (task : OrderTask) (ending : Ending) (disk looked : D) : Type 0 where
  pub house : Held
  pub greatest : Greatest
  pub ahead : Option ℕ
  pub read : g.keeps looked → IsRegisterOf (g.sectors disk) greatest (g.reads disk) house ahead
  pub order : Order
  pub asked : IsAsked house.state task order
  pub done : IsDone g (One order) looked ending

-- A COMMAND IS DONE on the register of an image.
abbrev pub Ordered : {D : Type 0} → Ghosts D → (D → Type 0) → OrderTask → Ending → Type 0
Ordered {D} g held task ending = OnImage g held (IsObeyed g task ending)

-- ---- a script

-- a gateway of whose exchanges nothing is said
abbrev pub AnyGateway : Over
AnyGateway said = said (λ exchanges. Unit {0})

-- THE LINES OF AN INPUT ARE RUN over the image on this disk, which is at first only looked at.
pub record RunsLines {D : Type 0} (g : Ghosts D) (disk : D) (input : Option (List ℕ)) (name : List ℕ) (ending : Ending)
    : Type 0 where
  pub looked : D
  pub looks : OnlyLooked g disk looked
  pub script : List ℕ
  pub script_is : IfSome input (λ text. script ≡ text)
  pub link : Link
  pub left : D
  pub ran : Guards g looked left ending (λ ready. (ran : Result Bool ProgramFault) × EndsAs ran name ending
      × RunsOver g link (Some script) AnyGateway (λ (writer : D). None) ready ready left ran)

-- A SCRIPT IS RUN over an image: both were opened.
pub record Scripted {D Input : Type 0} (g : Ghosts D) (held : D → Type 0) (opened : Input → Type 0)
    (left : Input → Option (List ℕ)) (name : List ℕ) (ending : Ending) : Type 0 where
  pub disk : D
  pub is_held : held disk
  pub input : Input
  pub is_opened : opened input
  pub runs : RunsLines g disk (left input) name ending

-- ---- a poll

-- the meters that these names mean in this register, which the image reads as; where it doesn't, none is named
pub record AreNamed {D : Type 0} (g : Ghosts D) (names : List Named) (disk looked : D) (house : Option Held)
    (only : List Identity) : Type 0 where
  pub read : IsRegister g disk looked house
  pub meant : IfSome house (λ it. AreMeant it.state names only)
  pub none : IfNone house ((names ≡ []) × (only ≡ []))

-- NO OTHER METER IS ASKED: on each line none but the registered meters that hang there and are among these; where these
-- are none, any that hangs there.
abbrev pub AsksOnly : State → List Identity → List Happening → Type 0
AsksOnly state only happened = (line : ℕ) → All (Contains (wanted_on state only line)) (starts_in (happened_on line happened))

-- EACH METER IS ASKED, where no commit failed: on each line that at first has a bus which isn't lost, each registered
-- meter that hangs there and is among these is begun, also where the bus is lost later. Who has no such line, or isn't
-- registered, counts as not read, up to 2^32 - 1 of them: so status 0 says that nobody is left out.
pub record AsksEach (state : State) (only : List Identity) (outcome : Outcome) (happened : List Happening)
    : Type 0 where
  pub has_bus : ℕ → Bool
  pub begun : outcome.fault ≡ None → length state.meters ≤ 65535 → (line : ℕ) → 1 ≤ line → has_bus line ≡ true
      → All (Contains (starts_in (happened_on line happened))) (wanted_on state only line)
  pub counted : min (2 ^ 32 - 1) (refused_count has_bus state (asked_for only state)) ≤ outcome.failed

-- A POLL IS DONE on the image on this disk, whatever became of it before: turns of the concentrator that was opened
-- leave it, which ask each of these meters and no other, and the ending is the poll's.
abbrev pub IsPolled : {D : Type 0} → Ghosts D → (only : List Identity) → (name : List ℕ) → D → Ending → Type 0
IsPolled {D} g only name disk ending = (left : D) × Guards g disk left ending (λ ready.
    (outcome : Result Outcome ProgramFault) × (is_printed : Bool) × PollEnds outcome is_printed name ending
    × PollLeaves g (λ done core happened. AsksOnly (present core) only happened
    × AsksEach (present core) only done happened) ready left outcome)

-- A POLL IS DONE over an image, of the meters that the words name.
abbrev pub Polled : {D : Type 0} → Ghosts D → (D → Type 0) → List Named → (name : List ℕ) → Ending → Type 0
Polled {D} g held names name ending = OnImage g held (λ disk looked. (house : Option Held) × (only : List Identity)
    × AreNamed g names disk looked house only × IsPolled g only name looked ending)
