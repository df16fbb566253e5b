-- Bytes that begin no frame (the frames of EN 13757-2).
use Rattle.std.specs.Prelude.{◌≡◌, ℕ, ◌<◌, Bool, true, false, ◌&&◌, List, [], ◌++◌, Option, is_some}
use Rattle.std.specs.Prelude.{drop, take, length, nat_lt, if◌then◌else◌}
use Rattle.std.specs.Io.KnownBytes.{Consumes}
use Rattle.dc_linkframe.specs.Fault.{begins_ack, begins_short}
use Rattle.dc_linkframe.specs.Need.{need_of}
use Rattle.dc_linkframe.specs.Reading.{frame_of}
use Rattle.dc_linkframe.specs.declared.needs.Need.{Need}
use Rattle.dc_linkframe.specs.declared.needs.Need.TheVariants.{More, Whole, Bad}

-- a frame is whole, or some bytes of it are missing
abbrev pub is_begun : Need → Bool
is_begun (More count) = true
is_begun (Whole count) = true
is_begun Bad = false

-- AN ANSWER BEGINS with E5 where an acknowledgement is awaited, with a whole short frame, or with the first five bytes
-- of a long one, whose start and length come twice
abbrev pub begins_frame : (awaits_ack : Bool) → List ℕ → Bool
begins_frame awaits_ack text =
    if begins_ack text then awaits_ack
    else if begins_short text then is_some (frame_of (take 5 text))
    else nat_lt 4 (length text) && is_begun (need_of text)

-- no frame begins so, whatever comes after it
abbrev pub IsNoise : (awaits_ack : Bool) → List ℕ → Type 0
IsNoise awaits_ack text = (more : List ℕ) → begins_frame awaits_ack (text ++ more) ≡ false

-- A text is noise, then these bytes, then those that are held back. Where all bytes are taken nothing is noise; otherwise
-- the bytes begin a frame.
pub record IsCut (awaits_ack takes_all : Bool) (text bytes ahead : List ℕ) : Type 0 where
  pub noise : List ℕ
  pub parts : text ≡ noise ++ (bytes ++ ahead)
  pub none : (count : ℕ) → count < length noise → IsNoise awaits_ack (drop count text)
  pub begins : takes_all ≡ false → 0 < length bytes → begins_frame awaits_ack (bytes ++ ahead) ≡ true
  pub first : takes_all ≡ true → noise ≡ []

-- More was read after the bytes that were held back, and of both these were given.
pub record IsPast (awaits_ack takes_all : Bool) (before ahead : List ℕ) (old new : Option (List ℕ)) (bytes : List ℕ)
    : Type 0 where
  pub more : List ℕ
  pub taken : Consumes old new more
  pub cut : IsCut awaits_ack takes_all (before ++ more) bytes ahead
