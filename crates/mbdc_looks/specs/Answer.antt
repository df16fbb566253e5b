-- What is printed of an image that is looked at (this product).
use Rattle.std.specs.Prelude.{◌≡◌, ◌⊎◌, ◌<◌, ◌≤◌, ℕ, Bool, false, List, [], ◌++◌, Option, Some, None, codes}
use Rattle.dc_sectors.specs.Disk.{Image}
use Rattle.mbdc_change.specs.State.{Held, State}
use Rattle.dc_roots.specs.declared.chooser.Held.{Held as Slot}
use Rattle.dc_roots.specs.Held.{IsHeld}
use Rattle.mbdc_log.specs.Halves.{budget_of, half_len_of, fewest_sectors}
use Rattle.mbdc_log.specs.declared.greatest.Greatest.{Greatest}
use Rattle.mbdc_log.specs.declared.fault.OpenFault.TheVariants.{NotImage}
use Rattle.dc_units.specs.Text.{day_text}
use Rattle.dc_report.specs.DueTable.{due_text}
use Rattle.dc_report.specs.RegisterTable.{register_text}
use Rattle.mbdc_json.specs.Journal.{Notes}
use Rattle.mbdc_looks.specs.Report.{due_lines, register_lines}
use Rattle.mbdc_json.specs.Values.{values_lines}
use Rattle.mbdc_json.specs.Latest.{values_text}
use Rattle.mbdc_json.specs.Object.{status_objects}
use Rattle.mbdc_json.specs.Overview.{overview_text}
use Rattle.mbdc_json.specs.Status.{any_silent, status_text}
use Rattle.mbdc_json.specs.declared.status.silence.Clock.{Clock}
use Rattle.mbdc_looks.specs.declared.asking.Asked.{Asked}
use Rattle.mbdc_looks.specs.declared.asking.Asked.TheVariants.{Contents, Values, Status, Overview, Table}
use Rattle.mbdc_looks.specs.declared.asking.Form.{Form}
use Rattle.mbdc_looks.specs.declared.asking.Form.TheVariants.{Text, Json}
use Rattle.mbdc_looks.specs.declared.asking.Report.{Report}
use Rattle.mbdc_looks.specs.declared.asking.Report.TheVariants.{Register, Due}
use Rattle.mbdc_looks.specs.declared.look.Outlook.{Outlook}
use Rattle.mbdc_looks.specs.Text.{image_text, number_line, refused_line}
use Rattle.mbdc_looks.specs.Told.{Seen, IsLook, no_image}

-- the word that asks for a table
abbrev pub report_word : Report → List ℕ
report_word Register = codes "register"
report_word (Due date) = day_text date

abbrev pub values_in : Form → Notes → State → List ℕ
values_in Text journal state = values_text journal state
values_in Json journal state = values_lines journal state

abbrev pub status_in : Form → Clock → Notes → Held → List ℕ
status_in Text clock journal house = status_text clock.patience clock.now journal house
status_in Json clock journal house = status_objects clock.patience clock.now journal house

abbrev pub table_text : Form → Report → State → List ℕ
table_text Text Register state = register_text state
table_text Text (Due date) state = due_text date state
table_text Json Register state = register_lines state
table_text Json (Due date) state = due_lines date state

-- what is printed of the register of a state, beside a journal
abbrev pub house_text : Asked → Notes → Held → List ℕ
house_text Contents journal house = []
house_text (Values form) journal house = values_in form journal house.state
house_text (Status form clock) journal house = status_in form clock journal house
house_text (Overview clock) journal house = overview_text clock.patience clock.now journal house.state
house_text (Table report form) journal house = table_text form report house.state

abbrev pub seen_house : Asked → Notes → ℕ → Option Seen → List ℕ
seen_house asked journal budget None = []
seen_house asked journal budget (Some seen) = house_text asked journal (record { state = seen.state; budget = budget })

-- and of the image
abbrev pub contents_text : Asked → ℕ → Slot → Slot → Option Seen → Outlook → List ℕ
contents_text Contents sectors first second seen outlook =
    number_line (codes "DISK") sectors ++ image_text (half_len_of sectors) first second seen outlook
contents_text (Values form) sectors first second seen outlook = []
contents_text (Status form clock) sectors first second seen outlook = []
contents_text (Overview clock) sectors first second seen outlook = []
contents_text (Table report form) sectors first second seen outlook = []

-- of a disk that is too small for an image
abbrev pub small_text : Asked → ℕ → List ℕ
small_text Contents sectors = number_line (codes "DISK") sectors ++ refused_line NotImage
small_text (Values form) sectors = []
small_text (Status form clock) sectors = []
small_text (Overview clock) sectors = []
small_text (Table report form) sectors = []

-- whether a meter is silent; only who asks for the status hears of it
abbrev pub is_silent : Asked → Notes → Option Seen → Bool
is_silent asked journal None = false
is_silent Contents journal (Some seen) = false
is_silent (Values form) journal (Some seen) = false
is_silent (Status form clock) journal (Some seen) = any_silent clock.patience clock.now journal seen.state
is_silent (Overview clock) journal (Some seen) = any_silent clock.patience clock.now journal seen.state
is_silent (Table report form) journal (Some seen) = false

pub record IsSmall (asked : Asked) (sectors : ℕ) (text : List ℕ) (outlook : Outlook) (silent : Bool)
    : Type 0 where
  pub small : sectors < fewest_sectors
  pub text_is : text ≡ small_text asked sectors
  pub outlook_is : outlook ≡ no_image
  pub silent_is : silent ≡ false

pub record IsSeen (asked : Asked) (journal : Notes) (sectors : ℕ) (greatest : Greatest) (image : Image) (text : List ℕ)
    (outlook : Outlook) (silent : Bool) : Type 0 where
  pub enough : fewest_sectors ≤ sectors
  pub first : Slot
  pub second : Slot
  pub first_is : IsHeld 1 (image 1) first
  pub second_is : IsHeld 2 (image 2) second
  pub seen : Option Seen
  pub look : IsLook (half_len_of sectors) greatest image seen outlook
  pub text_is : text ≡ contents_text asked sectors first second seen outlook
      ++ seen_house asked journal (budget_of (half_len_of sectors)) seen
  pub silent_is : silent ≡ is_silent asked journal seen

-- WHAT IS PRINTED of a disk of this many sectors with that image, what opening would make of it, and whether a meter is
-- silent; `greatest` is what a scan of the halves found
abbrev pub IsAnswer : Asked → Notes → ℕ → Greatest → Image → List ℕ → Outlook → Bool → Type 0
IsAnswer asked journal sectors greatest image text outlook silent =
    IsSmall asked sectors text outlook silent ⊎ IsSeen asked journal sectors greatest image text outlook silent
