-- A line over a wire, on which one request at most is under way, until it is lost (this product).
use Rattle.std.specs.Prelude.{◌≡◌, ℕ, ◌+◌, Bool, true, false, ◌==◌, length, List, []}
use Rattle.std.specs.Prelude.{Option, Some, None, bytes_eq, if◌then◌else◌}
use Rattle.mbdc_io.specs.Failures.{HasRisen}
use Rattle.dc_linkframe.specs.Reading.{frame_of}
use Rattle.mbdc_raw.specs.Looks.{most_looks}
use Rattle.mbdc_raw.specs.Heard.{Answers, Drains, Gathers, Waits, ends_early, past_echo}
use Rattle.mbdc_raw.specs.Turn.{is_answer, is_copy, is_wrong, kind_of, last_behind, last_waited}
use Rattle.mbdc_raw.specs.Turn.{may_go, one_more, quiet_by, repeats_of, repeats_out, state_taken}
use Rattle.mbdc_raw.specs.declared.line.Gone.{Gone}
use Rattle.mbdc_raw.specs.declared.line.Gone.TheVariants.{Out, Waits as WaitsOn, Loud}
use Rattle.mbdc_raw.specs.declared.line.Held.{Held}
use Rattle.mbdc_raw.specs.declared.line.Line.{Line}
use Rattle.mbdc_raw.specs.declared.state.Kind.TheVariants.{One, All, Nobody}
use Rattle.mbdc_raw.specs.declared.state.State.{State}
use Rattle.mbdc_raw.specs.declared.state.State.TheVariants.{Listened, Answered, Busy}
use Rattle.mbdc_raw.specs.declared.wire.Wire.{Ghosts as WireGhosts}

-- A line is lost only by a failure of its wire, and then it stays as it is.
pub record IsLostBy {W : Type 0} (failures : W → ℕ) (old new : Line W) : Type 0 where
  pub untouched : old.lost ≡ true → new ≡ old
  pub failed : old.lost ≡ false → new.lost ≡ true → HasRisen (failures old.wire) (failures new.wire)

-- the waits that are left while no request is held, and while one is: those before it goes out are
-- more
abbrev pub left_by : Option Held → ℕ → ℕ
left_by None left = left
left_by (Some held) left = most_looks + 1 + left

-- a lost line has no waits left
abbrev pub left_of : {W : Type 0} → (W → ℕ) → Line W → ℕ
left_of left line = if line.lost then 0 else left_by line.held (left line.wire)

-- ---- a request

abbrev pub hold : {W : Type 0} → List ℕ → Bool → Line W → Line W
hold request many line = record line { held = Some (record { request = request; many = many }) }

-- what was under way before a link closed may come where it is open again
abbrev pub behind : {W : Type 0} → Bool → W → Line W → Line W
behind again link line = record line { wire = link; state = if again then Busy else line.state }

-- the line once this request went out
abbrev pub out_of : {W : Type 0} → List ℕ → Bool → Line W → W → Line W
out_of request many line wire = record line {
  wire = wire;
  state = Busy;
  kind = kind_of (frame_of request) many;
  hearing = record { request = request; bytes = [] };
  gathered = [];
  held = None;
  last = last_behind line.state line.last;
  copied = false;
  repeats = repeats_out line.state line.repeats;
}

-- once what had arrived was dropped, the request went out if it may; else it waits on
pub data Goes {W : Type 0} (wire : WireGhosts W) (request : List ℕ) (many : Bool) (line : Line W)
    : Gone → Line W → Type 0 where
  goes_out : {new : Line W} (w : W)
      → may_go line.state line.repeats line.hearing.request request many ≡ true
      → wire.sends line.wire request
      (record { many = many; late = line.late; repeats = repeats_of line.state line.repeats }) w
      → new ≡ out_of request many line w → Goes wire request many line Out new
  waits_on : {new : Line W} → may_go line.state line.repeats line.hearing.request request many ≡ false → new ≡ line
      → Goes wire request many line WaitsOn new
  too_loud : {new : Line W} → new ≡ line → Goes wire request many line Loud new

abbrev pub is_loud : Gone → Bool
is_loud Out = false
is_loud WaitsOn = false
is_loud Loud = true

-- the line once what had arrived was dropped
abbrev pub waiting : {W : Type 0} → List ℕ → W → State → ℕ → Line W → Line W
waiting request between state late line = record line {
  wire = between;
  state = state;
  last = last_waited (bytes_eq line.hearing.request request) line.state state line.last;
  late = late;
}

-- ONE LOOK at a line on which a request is held
pub record Looks {W : Type 0} (wire : WireGhosts W) (request : List ℕ) (many : Bool) (old : Line W)
    (gone : Gone) (new : Line W) : Type 0 where
  pub between : W
  pub state : State
  pub late : ℕ
  pub drains : Drains wire.hears old.wire old.state old.late (is_loud gone) between state late
  pub goes : Goes wire request many (waiting request between state late old) gone new

pub record LineSends {W : Type 0} (wire : WireGhosts W) (many : Bool) (old : Line W)
    (request : List ℕ) (new : Line W) : Type 0 where
  pub loss : IsLostBy wire.failures old new
  pub sent : new.lost ≡ false
      → (again : Bool) × (link : W) × wire.reopens old.wire again link
      × (gone : Gone) × Looks wire request many (hold request many (behind again link old)) gone new

-- ---- the answer of one meter

abbrev pub judged : {W : Type 0} → (early : Bool) → List ℕ → Line W → Line W
judged early answer line = record line {
  state = state_taken early (length answer == 0)
      (is_answer (frame_of line.hearing.request) (frame_of answer)) line.copied;
  last = if is_answer (frame_of line.hearing.request) (frame_of answer)
      then Some answer else line.last;
  late = if is_wrong (frame_of line.hearing.request) (frame_of answer)
      then one_more line.late else line.late;
}

-- an answer is dropped where it is a copy of the last
pub data Skips {W : Type 0} (wire : WireGhosts W) (old new : Line W) : Type 0 where
  no_copy : new ≡ old → Skips wire old new
  a_copy : (copy : List ℕ) → Answers wire.hears old.wire old.hearing copy new.wire new.hearing
      → is_copy old.last copy ≡ true
      → new ≡ record old { wire = new.wire; hearing = new.hearing; copied = true }
      → Skips wire old new

-- the answer, which is no copy, and how it leaves the line
pub record GivesOne {W : Type 0} (wire : WireGhosts W) (old : Line W) (answer : List ℕ)
    (new : Line W) : Type 0 where
  pub between : Line W
  pub skips : Skips wire old between
  pub heard : Answers wire.hears between.wire between.hearing answer new.wire new.hearing
  pub plain : is_copy between.last answer ≡ false
  pub kept : new ≡ judged (ends_early heard.end) answer (record between { wire = new.wire; hearing = new.hearing })

-- two copies came at once: the request is given up, and the line stays busy
pub record GivesUp {W : Type 0} (wire : WireGhosts W) (old new : Line W) : Type 0 where
  pub between : Line W
  pub skips : Skips wire old between
  pub copy : List ℕ
  pub heard : Answers wire.hears between.wire between.hearing copy new.wire new.hearing
  pub again : is_copy between.last copy ≡ true
  pub kept : new ≡ record between { wire = new.wire; hearing = new.hearing }

-- one answer, or none
pub data GivesAtMostOne {W : Type 0} (wire : WireGhosts W) (old : Line W) (answer : List ℕ)
    (new : Line W) : Type 0 where
  one_answer : GivesOne wire old answer new → GivesAtMostOne wire old answer new
  two_copies : answer ≡ [] → GivesUp wire old new → GivesAtMostOne wire old answer new

pub record WaitsOne {W : Type 0} (wire : WireGhosts W) (old new : Line W) : Type 0 where
  pub between : Line W
  pub skips : Skips wire old between
  pub waits : Waits wire.hears between.wire between.hearing new.wire new.hearing
  pub kept : new ≡ record between { wire = new.wire; hearing = new.hearing }

-- ---- the answers of several meters, and of nobody

-- all bytes until silence, but for the echo of the request
pub record GivesAll {W : Type 0} (wire : WireGhosts W) (old : Line W) (answer : List ℕ)
    (new : Line W) : Type 0 where
  pub quiet : Bool
  pub gathers : Gathers wire.hears old.wire old.gathered (Some quiet) new.wire new.gathered
  pub heard : answer ≡ past_echo old.hearing.request new.gathered
  pub kept : new ≡ record old {
    wire = new.wire;
    gathered = new.gathered;
    state = quiet_by quiet Listened old.state;
  }

pub record WaitsAll {W : Type 0} (wire : WireGhosts W) (old new : Line W) : Type 0 where
  pub gathers : Gathers wire.hears old.wire old.gathered None new.wire new.gathered
  pub kept : new ≡ record old { wire = new.wire; gathered = new.gathered }

-- what comes after the reset of all selected meters is dropped
pub record GivesNothing {W : Type 0} (wire : WireGhosts W) (old new : Line W) : Type 0 where
  pub quiet : Bool
  pub dropped : List ℕ
  pub gathers : Gathers wire.hears old.wire [] (Some quiet) new.wire dropped
  pub kept : new ≡ record old { wire = new.wire; state = quiet_by quiet Answered old.state }

pub record WaitsNothing {W : Type 0} (wire : WireGhosts W) (old new : Line W) : Type 0 where
  pub dropped : List ℕ
  pub gathers : Gathers wire.hears old.wire [] None new.wire dropped
  pub kept : new ≡ record old { wire = new.wire }

-- ---- one call

-- WHAT A LINE GIVES: silence for a request that is given up, since bytes come without end; or what
-- was taken by the kind of the request
pub data Gives {W : Type 0} (wire : WireGhosts W) (old : Line W) (answer : List ℕ) (new : Line W)
    : Type 0 where
  gives_up : (held : Held) (line : Line W) → old.held ≡ Some held → answer ≡ []
      → Looks wire held.request held.many old Loud line → new ≡ record line { held = None }
      → Gives wire old answer new
  gives_one : old.held ≡ None → old.kind ≡ One → GivesAtMostOne wire old answer new
      → Gives wire old answer new
  gives_all : old.held ≡ None → old.kind ≡ All → GivesAll wire old answer new
      → Gives wire old answer new
  gives_nothing : old.held ≡ None → old.kind ≡ Nobody → answer ≡ [] → GivesNothing wire old new
      → Gives wire old answer new

-- A lost line is silent.
pub record LineGives {W : Type 0} (wire : WireGhosts W) (old : Line W) (answer : List ℕ)
    (new : Line W) : Type 0 where
  pub loss : IsLostBy wire.failures old new
  pub silence : new.lost ≡ true → answer ≡ []
  pub given : new.lost ≡ false → Gives wire old answer new

-- no answer is complete yet
pub data LineWaits {W : Type 0} (wire : WireGhosts W) (old new : Line W) : Type 0 where
  waits_held : (held : Held) (gone : Gone) → old.lost ≡ false → old.held ≡ Some held
      → is_loud gone ≡ false → Looks wire held.request held.many old gone new
      → LineWaits wire old new
  waits_one : old.lost ≡ false → old.held ≡ None → old.kind ≡ One → WaitsOne wire old new
      → LineWaits wire old new
  waits_all : old.lost ≡ false → old.held ≡ None → old.kind ≡ All → WaitsAll wire old new
      → LineWaits wire old new
  waits_nothing : old.lost ≡ false → old.held ≡ None → old.kind ≡ Nobody → WaitsNothing wire old new
      → LineWaits wire old new

-- ---- from the request to the answer

-- repeated calls of the line return this answer
pub data GivesOver {W : Type 0} (wire : WireGhosts W) : Line W → List ℕ → Line W → Type 0 where
  gives_now : {old new : Line W} {answer : List ℕ} → LineGives wire old answer new
      → GivesOver wire old answer new
  gives_then : {old between new : Line W} {answer : List ℕ} → LineWaits wire old between
      → GivesOver wire between answer new → GivesOver wire old answer new
