-- The lines of `inspect`: one fact per line, its name and its numbers (this product).
use Rattle.std.specs.Prelude.{ℕ, ◌-◌, List, [], ◌++◌, length, codes, slice_get, Option, Some, None}
use Rattle.std.specs.Prelude.{option_map, ◌+◌, nat_lt, if◌then◌else◌}
use Rattle.mbdc_io.specs.Words.{number_word}
use Rattle.mbdc_change.specs.State.{State, ReadingRow}
use Rattle.mbdc_change.specs.Size.{size_of}
use Rattle.dc_roots.specs.declared.root.Root.{Root}
use Rattle.dc_roots.specs.declared.chooser.Held.{Held}
use Rattle.dc_roots.specs.declared.chooser.Held.TheVariants.{Valid, Other, Lost}
use Rattle.mbdc_log.specs.Fault.{open_number, open_name}
use Rattle.mbdc_log.specs.declared.fault.OpenFault.{OpenFault}
use Rattle.mbdc_log.specs.declared.fault.OpenFault.TheVariants.{NotImage, Damaged, Version, Worn}
use Rattle.mbdc_log.specs.declared.fault.OpenFault.TheVariants.{Device, NoMemory}
use Rattle.mbdc_log.specs.Halves.{budget_of, half_start, half_end}
use Rattle.mbdc_log.specs.declared.greatest.Greatest.{Greatest}
use Rattle.mbdc_log.specs.declared.rescuing.Source.{Source}
use Rattle.mbdc_log.specs.declared.rescuing.Source.TheVariants.{Whole, Without, OtherRoot}
use Rattle.mbdc_looks.specs.declared.look.Outlook.{Outlook}
use Rattle.mbdc_looks.specs.declared.summary.Summary.{Summary}
use Rattle.mbdc_looks.specs.Told.{Seen}

-- a line of a name and a number
unfoldable pub number_line : List ℕ → ℕ → List ℕ
number_line name n = name ++ (number_word n ++ codes "\n")

-- the contents of a root slot: the root's version, generation and session, and the half that it names
abbrev pub held_words : Held → List ℕ
held_words (Valid root) = number_word root.version ++ (number_word root.generation
    ++ (number_word root.session ++ (number_word root.half ++ codes "\n")))
held_words Other = codes " NONE\n"
held_words Lost = codes " UNREADABLE\n"

-- the slot is the sector, 1 or 2
unfoldable pub slot_line : ℕ → Held → List ℕ
slot_line slot held = codes "ROOT" ++ (number_word slot ++ held_words held)

-- the version of the root in force, its half, the number of groups of changes after the base group,
-- and the numbers of used and free sectors of the half
unfoldable pub place_text : ℕ → Root → ℕ → ℕ → List ℕ
place_text half_len root last place =
    codes "VERSION" ++ (number_word root.version
    ++ (codes "\nHALF" ++ (number_word root.half
    ++ (codes "\nGROUPS" ++ (number_word (last - root.base_sequence)
    ++ (codes "\nSECTORS" ++ (number_word (place - half_start half_len root.half)
    ++ (number_word (half_end half_len root.half - place) ++ codes "\n"))))))))

-- the word of a serial
abbrev pub serial_word : Option ℕ → List ℕ
serial_word None = []
serial_word (Some serial) = number_word serial

-- the state's size and its maximum, in bytes; its meters; the number of readings that the office hasn't confirmed, and
-- their first and last serial; the last serial that it has confirmed; the number of the last command
unfoldable pub summary_text : Summary → List ℕ
summary_text sum =
    codes "SIZE" ++ (number_word sum.size ++ (number_word sum.budget
    ++ (codes "\nMETERS" ++ (number_word sum.meters
    ++ (codes "\nREADINGS" ++ (number_word sum.readings
    ++ (serial_word sum.first ++ (serial_word sum.last
    ++ (codes "\nMARK" ++ (number_word sum.confirmed
    ++ (codes "\nCOMMAND" ++ (number_word sum.command ++ codes "\n"))))))))))))

-- the serial of the reading at an index, if there is one
abbrev pub serial_at : ℕ → List ReadingRow → Option ℕ
serial_at i readings = option_map (λ (r : ReadingRow). r.serial) (slice_get readings i)

-- the summary of a state within a budget
abbrev pub summary_of : ℕ → State → Summary
summary_of budget s = record {
  size = size_of s;
  budget = budget;
  meters = length s.meters;
  readings = length s.readings;
  first = serial_at 0 s.readings;
  last = serial_at (length s.readings - 1) s.readings;
  confirmed = s.confirmed;
  command = s.last_number;
}

-- a sector that is ahead of the state that is printed, if one is
abbrev pub ahead_text : Option ℕ → List ℕ
ahead_text None = []
ahead_text (Some sector) = number_line (codes "AHEAD") sector

-- the sector at which an image is damaged, and the end of the line
abbrev pub sector_end : OpenFault → List ℕ
sector_end NotImage = codes "\n"
sector_end (Damaged sector) = number_word sector ++ codes "\n"
sector_end Version = codes "\n"
sector_end Worn = codes "\n"
sector_end Device = codes "\n"
sector_end NoMemory = codes "\n"

-- why an image doesn't open: the fault's number and name, and the sector
unfoldable pub refused_line : OpenFault → List ℕ
refused_line fault = codes "REFUSED" ++ (number_word (open_number fault)
    ++ (codes " " ++ (open_name fault ++ sector_end fault)))

abbrev pub refusal_text : Option OpenFault → List ℕ
refusal_text None = []
refusal_text (Some fault) = refused_line fault

abbrev pub seen_text : ℕ → Option Seen → List ℕ
seen_text half_len None = []
seen_text half_len (Some seen) = place_text half_len seen.root seen.last seen.place
    ++ summary_text (summary_of (budget_of half_len) seen.state)

-- the text of an image, after the line of its disk
unfoldable pub image_text : ℕ → Held → Held → Option Seen → Outlook → List ℕ
image_text half_len first second seen outlook =
    slot_line 1 first ++ (slot_line 2 second ++ (seen_text half_len seen
    ++ (ahead_text outlook.ahead ++ refusal_text outlook.refusal)))
