-- When the frame count bit of a line's requests changes: EN 13757-2, in the words of a line's session.
use Rattle.std.specs.Prelude.{◌≡◌, ℕ, Bool, not, None, Some, List}
use Rattle.dc_linkframe.specs.Frame.{FrameSeen}
use Rattle.dc_linkframe.specs.Control.{request_to}
use Rattle.dc_records.specs.Telegram.{Parsed}
use Rattle.dc_readout.specs.Summary.{Summary, new, asked_by, verdict_by, heard_by}
use Rattle.dc_core.specs.Lines.{settled_on}

-- two requests for data from one address that differ in the frame count bit
abbrev pub HaveOtherBits : FrameSeen → FrameSeen → Type 0
HaveOtherBits request other = (bit : Bool) × (address : ℕ)
    × ((request ≡ request_to bit address) × (other ≡ request_to (not bit) address))

-- The answer to a request was the readout's next telegram. Until it is acknowledged, nothing is
-- requested on the line. Once it is, the line's next request, if any, has the other bit.
pub record TogglesOnce (s : Summary) (part : ℕ) (telegram : Parsed) : Type 0 where
  pub waits : asked_by (heard_by s (new part telegram)) ≡ None
  pub toggles : (settled : Summary) (request other : FrameSeen) → asked_by s ≡ Some request
      → settled_on (Some (heard_by s (new part telegram))) ≡ Some settled
      → asked_by settled ≡ Some other → HaveOtherBits request other

-- AN ACKNOWLEDGED TELEGRAM TOGGLES THE BIT, and no other does.
abbrev pub SettlingToggles : Type 0
SettlingToggles = (s : Summary) (answer : List ℕ) (part : ℕ) (telegram : Parsed)
    → verdict_by s answer ≡ new part telegram → TogglesOnce s part telegram
