-- What a journal says of the meters (this product): the lines of each, one after the other, but those of a later moment
-- than the clock's.
use Rattle.std.specs.Prelude.{◌≡◌, ℕ, Bool, true, ◌&&◌, if◌then◌else◌, nat_le, List, [], ◌∷◌, Option, Some, None}
use Rattle.std.specs.BTreeMap.{is_at}
use Rattle.std.specs.Map.{lookup}
use Rattle.dc_address.specs.Identity.{identity_cmp}
use Rattle.dc_address.specs.declared.identity.Identity.{Identity}
use Rattle.mbdc_json.specs.Entry.{IsLine}
use Rattle.mbdc_json.specs.Noted.{noted_after, nothing}
use Rattle.mbdc_json.specs.Bodies.{bodies_in}
use Rattle.json.specs.Json.{Json, document}
use Rattle.mbdc_json.specs.declared.journal.entry.Entry.{Entry}
use Rattle.mbdc_json.specs.declared.journal.entry.Line.{Line as Found}
use Rattle.mbdc_json.specs.declared.journal.entry.Said.{Said}
use Rattle.mbdc_json.specs.declared.journal.entry.Said.TheVariants.{Read, Failed}
use Rattle.mbdc_json.specs.declared.journal.noted.Noted.{Noted}

-- when it was
abbrev pub moment_of : Said → ℕ
moment_of (Read serial moment status) = moment
moment_of (Failed at number) = at

-- an entry of this meter, not after the clock
abbrev pub is_of : ℕ → Identity → Entry → Bool
is_of now meter entry = is_at (identity_cmp entry.meter) meter && nat_le (moment_of entry.said) now

abbrev pub after_entry : ℕ → Identity → Option Entry → Noted → Noted
after_entry now meter None noted = noted
after_entry now meter (Some entry) noted = if is_of now meter entry then noted_after entry.said noted else noted

abbrev pub after_entries : ℕ → Identity → List (Option Entry) → Noted → Noted
after_entries now meter [] noted = noted
after_entries now meter (entry ∷ entries) noted = after_entries now meter entries (after_entry now meter entry noted)

-- ---- the bodies of a reading

abbrev pub kept_by : Said → Option Json → Option (List (List ℕ))
kept_by (Read serial moment status) None = None
kept_by (Read serial moment status) (Some json) = Some (bodies_in json)
kept_by (Failed at number) json = None

-- what is found in a line that is this value
abbrev pub entry_in : {A : Type 0} → Option (Found A) → Option Entry
entry_in None = None
entry_in (Some found) = Some found.entry

abbrev pub IsKept : {A : Type 0} → Option Json → Option (Found A) → Type 0
IsKept json None = Unit {0}
IsKept json (Some found) = found.bodies ≡ kept_by found.entry.said json

-- after an entry that has these
abbrev pub bodies_or : Option (List (List ℕ)) → List (List ℕ) → List (List ℕ)
bodies_or None before = before
bodies_or (Some bodies) before = bodies

abbrev pub bodies_after : ℕ → Identity → Entry → Option (List (List ℕ)) → List (List ℕ) → List (List ℕ)
bodies_after now meter entry bodies before = if is_of now meter entry then bodies_or bodies before else before

abbrev pub sent_by : ℕ → Identity → List ℕ → Option Entry → List (List ℕ) → List (List ℕ)
sent_by now meter line None before = before
sent_by now meter line (Some entry) before =
    bodies_after now meter entry (kept_by entry.said (document line)) before

abbrev pub sent_after : ℕ → Identity → List (List ℕ) → List (Option Entry) → List (List ℕ) → List (List ℕ)
sent_after now meter [] entries before = before
sent_after now meter (line ∷ lines) [] before = before
sent_after now meter (line ∷ lines) (entry ∷ entries) before =
    sent_after now meter lines entries (sent_by now meter line entry before)

-- ---- lines

-- each line is the entry at its place
abbrev pub AreLines : List (List ℕ) → List (Option Entry) → Type 0
AreLines [] [] = Unit {0}
AreLines [] (entry ∷ entries) = ⊥
AreLines (line ∷ lines) [] = ⊥
AreLines (line ∷ lines) (entry ∷ entries) = IsLine line entry × AreLines lines entries

abbrev pub noted_or_nothing : Option Noted → Noted
noted_or_nothing None = nothing
noted_or_nothing (Some noted) = noted

-- what is noted of a meter
abbrev pub noted_in : List (Identity × Noted) → Identity → Noted
noted_in notes meter = noted_or_nothing (lookup (is_at (identity_cmp meter)) notes)

abbrev pub bodies_or_none : Option (List (List ℕ)) → List (List ℕ)
bodies_or_none None = []
bodies_or_none (Some bodies) = bodies

-- the bodies of the last reading of a meter
abbrev pub sent_in : List (Identity × List (List ℕ)) → Identity → List (List ℕ)
sent_in sent meter = bodies_or_none (lookup (is_at (identity_cmp meter)) sent)

-- whether there is a journal, what is noted of its meters, and the bodies of their last readings
pub record Notes : Type 0 where
  pub is_there : Bool
  pub notes : List (Identity × Noted)
  pub sent : List (Identity × List (List ℕ))

-- what lines add to what was noted before
pub record Adds (now : ℕ) (lines : List (List ℕ)) (old new : Notes) : Type 0 where
  pub entries : List (Option Entry)
  pub lines_are : AreLines lines entries
  pub noted : (meter : Identity) → noted_in new.notes meter ≡ after_entries now meter entries (noted_in old.notes meter)
  pub sent : (meter : Identity) → sent_in new.sent meter ≡ sent_after now meter lines entries (sent_in old.sent meter)

abbrev pub no_notes : Bool → Notes
no_notes is_there = record { is_there = is_there; notes = []; sent = [] }

-- WHAT A JOURNAL SAYS at a clock
pub record IsJournal (now : ℕ) (lines : List (List ℕ)) (journal : Notes) : Type 0 where
  pub there : journal.is_there ≡ true
  pub adds : Adds now lines (no_notes true) journal
