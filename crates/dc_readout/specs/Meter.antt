-- A meter that follows the standard: EN 13757-2, the frame count bit at the secondary station; EN 13757-3 (2004,
-- 2013) and EN 13757-7, selection. That its readout begins anew with the reset or the selection is a premise.
use Rattle.std.specs.Prelude.{ℕ, ◌+◌, ◌-◌, Bool, true, false, not, ◌&&◌, ◌||◌, List, Option, Some}
use Rattle.std.specs.Prelude.{None, slice_get, unwrap_or, ◌==◌, if◌then◌else◌}
use Rattle.dc_linkframe.specs.Control.{snd_nke, snd_ud, req_ud2, variable_data, selection, selected}
use Rattle.dc_linkframe.specs.Frame.{FrameSeen, ack, short, long}
use Rattle.dc_address.specs.declared.identity.Identity.{Identity}
use Rattle.dc_address.specs.Mask.{mask_at, matches}

-- who the meter is, and the bodies of one readout of it
pub record Meter : Type 0 where
  pub identity : Identity
  pub address : Option ℕ
  pub bodies : List (List ℕ)

-- how many bodies it has gone on to, the last frame count bit, and whether it is selected
pub record Position : Type 0 where
  pub place : ℕ
  pub bit : Option Bool
  pub selected : Bool

abbrev pub first_position : Position
first_position = record { place = 0; bit = None; selected = false }

abbrev pub begun_anew : Position → Position
begun_anew p = record p { place = 0; bit = None }

-- the frame count bit of REQ_UD2
abbrev pub frame_count_bit : ℕ → Option Bool
frame_count_bit control = if control == req_ud2 true then Some true
    else if control == req_ud2 false then Some false else None

abbrev pub is_request : ℕ → Bool
is_request control = control == req_ud2 true || control == req_ud2 false

-- SND_UD that selects, with either frame count bit
abbrev pub is_selection : ℕ → ℕ → ℕ → Bool
is_selection control address ci =
    if address == selected then (if ci == selection then control == snd_ud || control == 0x73
    else false) else false

abbrev pub is_own : Option ℕ → ℕ → Bool
is_own None address = false
is_own (Some own) address = own == address

-- whether a meter of this own address takes a request to an address as its own
abbrev pub hears_at : Option ℕ → ℕ → Position → Bool
hears_at own address p = is_own own address || (if address == selected then p.selected else false)

-- ---- what a frame makes of a meter

-- the same bit again repeats the telegram, the other advances by one body
abbrev pub same_bit : Option Bool → Bool → Bool
same_bit None bit = false
same_bit (Some true) bit = bit
same_bit (Some false) bit = not bit

abbrev pub gone_on : Option Bool → Position → Position
gone_on None p = p
gone_on (Some bit) p = if same_bit p.bit bit then p
    else record p { place = p.place + 1; bit = Some bit }

abbrev pub at_reset : Option ℕ → ℕ → Position → Position
at_reset own address p =
    if is_own own address then begun_anew p
    else if address == selected then record p { selected = false } else p

abbrev pub at_request : Option ℕ → ℕ → ℕ → Position → Position
at_request own control address p =
    if hears_at own address p then gone_on (frame_count_bit control) p else p

abbrev pub at_selection : Bool → Position → Position
at_selection true p = record (begun_anew p) { selected = true }
at_selection false p = record p { selected = false }

unfoldable pub moved_by : FrameSeen → Meter → Position → Position
moved_by ack meter p = p
moved_by (short control address) meter p =
    if control == snd_nke then at_reset meter.address address p
    else at_request meter.address control address p
moved_by (long control address ci body) meter p =
    if is_selection control address ci then at_selection (matches (mask_at body) meter.identity) p
    else p

-- ---- its answers

-- the body at its position; after the last it is silent
abbrev pub body_at : ℕ → List (List ℕ) → Option (List ℕ)
body_at place bodies = if place == 0 then None else slice_get bodies (place - 1)

-- RSP_UD with neither access demand nor flow control, from the meter's primary address or 0
abbrev pub rsp_ud : ℕ
rsp_ud = 0x08

abbrev pub response : Meter → Option (List ℕ) → Option FrameSeen
response meter None = None
response meter (Some body) = Some (long rsp_ud (unwrap_or meter.address 0) variable_data body)

-- the answer of a meter that the frame brought to this position
unfoldable pub answer_to : FrameSeen → Meter → Position → Option FrameSeen
answer_to ack meter p = None
answer_to (short control address) meter p =
    if control == snd_nke then (if is_own meter.address address then Some ack else None)
    else if is_request control && hears_at meter.address address p
    then response meter (body_at p.place meter.bodies)
    else None
answer_to (long control address ci body) meter p =
    if is_selection control address ci
    then (if matches (mask_at body) meter.identity then Some ack else None) else None
