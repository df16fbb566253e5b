-- The events of a poll as lines of text (this product).
use Rattle.std.specs.Prelude.{ℕ, List, ◌++◌, codes, length}
use Rattle.dc_address.specs.Text.{text_of}
use Rattle.dc_address.specs.declared.identity.Identity.{Identity}
use Rattle.mbdc_io.specs.Words.{number_word}
use Rattle.mbdc_poll.specs.Refusal.{refusal_number, refusal_name}
use Rattle.mbdc_poll.specs.declared.end.Refusal.{Refusal}
use Rattle.mbdc_poll.specs.declared.event.Event.{Event}
use Rattle.mbdc_poll.specs.declared.event.Event.TheVariants.{Read, Failed, Refused, Lost, Late, End}
use Rattle.dc_readout.specs.declared.why.Why.{Why}
use Rattle.dc_readout.specs.declared.why.Why.TheVariants.{NoAnswer, WrongFrame, WrongAddress}
use Rattle.dc_readout.specs.declared.why.Why.TheVariants.{ApplicationError, Content, Stranger}
use Rattle.dc_readout.specs.declared.why.Why.TheVariants.{TooManyParts}
use Rattle.dc_readout.specs.Why.{number_of as why_number, name_of as why_name}
use Rattle.dc_records.specs.Fault.{number_of as content_number, name_of as content_name}

-- the end of the line of a failed readout: why it failed, and after a fault of content the fault of the body
unfoldable pub why_end : Why → List ℕ
why_end (Content fault) = why_name (Content fault) ++ (number_word (content_number fault)
    ++ (codes " " ++ (content_name fault ++ codes "\n")))
why_end NoAnswer = why_name NoAnswer ++ codes "\n"
why_end WrongFrame = why_name WrongFrame ++ codes "\n"
why_end WrongAddress = why_name WrongAddress ++ codes "\n"
why_end ApplicationError = why_name ApplicationError ++ codes "\n"
why_end Stranger = why_name Stranger ++ codes "\n"
why_end TooManyParts = why_name TooManyParts ++ codes "\n"

-- why a readout failed
unfoldable pub failed_line : Identity → Why → List ℕ
failed_line meter why = codes "FAILED " ++ (text_of meter
    ++ (number_word (why_number why) ++ (codes " " ++ why_end why)))

-- the fault of the call that refused
unfoldable pub refused_line : Identity → Refusal → List ℕ
refused_line meter refusal = codes "REFUSED " ++ (text_of meter
    ++ (number_word (refusal_number refusal) ++ (codes " "
    ++ (refusal_name refusal ++ codes "\n"))))

-- THE LINE OF AN EVENT.
abbrev pub line_of : Event → List ℕ
line_of (Read meter serial parts last) = codes "READ " ++ (text_of meter
    ++ (number_word serial ++ (number_word (length parts) ++ codes "\n")))
line_of (Failed line meter why brought) = failed_line meter why
line_of (Refused meter refusal) = refused_line meter refusal
line_of (Lost line) = codes "LINE" ++ (number_word line ++ codes " LOST\n")
line_of (Late line answers) =
    codes "LATE" ++ (number_word line ++ (number_word answers ++ codes "\n"))
line_of (End read failed) =
    codes "END" ++ (number_word read ++ (number_word failed ++ codes "\n"))
