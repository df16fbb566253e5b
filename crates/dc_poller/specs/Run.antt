-- A stretch of a concentrator's run (this product).
use Rattle.std.specs.Prelude.{ℕ, List, []}
use Rattle.dc_sectors.specs.declared.device.Disk.{Ghosts}
use Rattle.mbdc_change.specs.State.{State}
use Rattle.dc_core.specs.Event.{Event, Answer}
use Rattle.dc_core.specs.Images.{Machine}
use Rattle.dc_core.specs.Transcript.{Turn}
use Rattle.dc_core.specs.Went.{BehindAnyRun, TurnWent, TurnsWent, Went}

-- A run from one machine to another: the disk as the opening left it, the budget and the state that
-- were opened, the turns before, and the machine at both ends.
pub record Run (D : Type 0) : Type 0 where
  pub origin : D
  pub budget : ℕ
  pub state : State
  pub before : List Turn
  pub first : Machine D
  pub new : Machine D

abbrev pub run_of : {D : Type 0} → D → ℕ → State → List Turn → Machine D → Machine D → Run D
run_of origin budget state before first new = record {
  origin = origin;
  budget = budget;
  state = state;
  before = before;
  first = first;
  new = new;
}

-- the run of a concentrator that was opened with this state
abbrev pub run_from : {D : Type 0} → State → Machine D → Machine D → Run D
run_from state first last = run_of first.store.disk first.house.budget state [] first last

-- THIS HOLDS OF EACH RUN from the one machine to the other: whatever state was opened, and whatever
-- turns led to the first machine.
abbrev pub AnyRun : {D : Type 0} → Ghosts D → Machine D → Machine D → (Run D → Type 0) → Type 0
AnyRun g first new holds = BehindAnyRun g first (λ origin state before.
    holds (run_of origin first.house.budget state before first new))

-- The run is of these turns.
abbrev pub IsRunOf : {D : Type 0} → Ghosts D → Run D → List Turn → Type 0
IsRunOf g run turns = Went g run.origin run.budget run.state run.before turns run.first run.new

-- It is of one turn, whose answer is such a one.
abbrev pub OneTurn : {D : Type 0} → Ghosts D → Run D → Event → (Answer → Type 0) → Type 0
OneTurn g run event such =
    TurnWent g run.origin run.budget run.state run.before event such run.first run.new

-- It is of some turns, and they are such.
abbrev pub SomeTurns : {D : Type 0} → Ghosts D → Run D → (List Turn → Type 0) → Type 0
SomeTurns g run such =
    TurnsWent g run.origin run.budget run.state run.before such run.first run.new
