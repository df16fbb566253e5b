-- What standard error gets of a failed readout (this product).
use Rattle.std.specs.Prelude.{ℕ, List, [], ◌++◌, codes, decimal, Option, None, Some}
use Rattle.dc_address.specs.Text.{text_of}
use Rattle.dc_address.specs.declared.identity.Identity.{Identity}
use Rattle.mbdc_reading.specs.Content.{Content}
use Rattle.mbdc_reading.specs.Reason as reading
use Rattle.mbdc_reading.specs.declared.content.reason.Reason.{Reason}
use Rattle.dc_readout.specs.Reason.{reason_text}
use Rattle.dc_readout.specs.declared.misses.reason.Owner.TheVariants.{OnLine}
use Rattle.mbdc_poll.specs.Content.{untaken}
use Rattle.mbdc_poll.specs.declared.event.Event.{Event}
use Rattle.mbdc_poll.specs.declared.event.Event.TheVariants.{Read, Failed, Refused, Lost, Late, End}

-- why the register doesn't take what a meter on a line said
unfoldable pub why_line : ℕ → Identity → Reason → List ℕ
why_line line meter reason = codes "mbdc: line " ++ (decimal line ++ (codes ": " ++ (text_of meter
    ++ (codes ": " ++ (reading.reason_text reason ++ codes "\n")))))

abbrev pub why_lines : ℕ → Identity → Option Reason → List ℕ
why_lines line meter None = []
why_lines line meter (Some reason) = why_line line meter reason

abbrev pub content_lines : ℕ → Identity → Option Content → List ℕ
content_lines line meter None = []
content_lines line meter (Some content) = why_lines line meter (reading.reason_of content)

-- THE LINES OF AN EVENT: of a failed readout, where a try failed, what its failed tries brought; and why the register
-- doesn't take the last answer, where that is a telegram of another kind.
abbrev pub reason_of : Event → List ℕ
reason_of (Read meter serial parts last) = []
reason_of (Failed line meter why brought) =
    reason_text (OnLine line meter) brought.misses ++ content_lines line meter (untaken brought.last)
reason_of (Refused meter refusal) = []
reason_of (Lost line) = []
reason_of (Late line answers) = []
reason_of (End read failed) = []
