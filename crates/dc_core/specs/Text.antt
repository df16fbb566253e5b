-- The line of text of each answer (this product).
use Rattle.std.specs.Prelude.{ℕ, Bool, Option, None, Some, Result, Ok, Err, List, ◌++◌, codes}
use Rattle.std.specs.Prelude.{flat_map, if◌then◌else◌}
use Rattle.dc_records.specs.Fault.{number_of as content_number, name_of as content_name}
use Rattle.dc_readout.specs.declared.why.Why.{Why}
use Rattle.dc_readout.specs.declared.why.Why.TheVariants.{NoAnswer, WrongFrame, WrongAddress}
use Rattle.dc_readout.specs.declared.why.Why.TheVariants.{ApplicationError, Content, Stranger}
use Rattle.dc_readout.specs.declared.why.Why.TheVariants.{TooManyParts}
use Rattle.dc_readout.specs.Why.{number_of as why_number, name_of as why_name}
use Rattle.mbdc_io.specs.Words.{number_word, fault_text, fault_line}
use Rattle.mbdc_io.specs.Hex.{upper_hex}
use Rattle.dc_upload.specs.Reply.{done_line, refusal_line}
use Rattle.dc_upload.specs.declared.code.Code.TheVariants.{Syntax, Store, Memory}
use Rattle.dc_core.specs.declared.fault.StartFault.{StartFault}
use Rattle.dc_core.specs.declared.line_heard.LineHeard.{LineHeard}
use Rattle.dc_core.specs.declared.line_heard.LineHeard.TheVariants.{Again, Ready, Accepted, Failed}
use Rattle.dc_core.specs.declared.fault.HearFault.{HearFault}
use Rattle.dc_core.specs.declared.fault.CommitFault.{CommitFault}
use Rattle.dc_core.specs.Fault.{start_number, start_name, hear_number, hear_name, commit_number}
use Rattle.dc_core.specs.Fault.{commit_name}
use Rattle.dc_core.specs.Event.{Answer, started, asked, heard, committed, replied}
use Rattle.dc_core.specs.Event.{Reply, unread, unstored, repeated, refused, shown, out_of_memory}
use Rattle.dc_core.specs.Event.{obeyed, uncommitted}
use Rattle.dc_core.specs.Transcript.{Turn}

-- what was refused, and why
abbrev pub refused_text : ℕ → List ℕ → List ℕ
refused_text number name = fault_line (codes "REFUSED") number name

abbrev pub started_text : Result (Unit {0}) StartFault → List ℕ
started_text (Ok done) = codes "STARTED\n"
started_text (Err fault) = refused_text (start_number fault) (start_name fault)

abbrev pub asked_text : Option (List ℕ) → List ℕ
asked_text (Some request) = codes "SEND " ++ upper_hex request ++ codes "\n"
asked_text None = codes "NONE\n"

-- why a session ended; a telegram's own fault follows it
abbrev pub failed_text : Why → List ℕ
failed_text (Content fault) = codes "FAILED "
    ++ fault_text (why_number (Content fault)) (why_name (Content fault)) ++ codes " "
    ++ fault_text (content_number fault) (content_name fault) ++ codes "\n"
failed_text NoAnswer = fault_line (codes "FAILED") (why_number NoAnswer) (why_name NoAnswer)
failed_text WrongFrame = fault_line (codes "FAILED") (why_number WrongFrame) (why_name WrongFrame)
failed_text WrongAddress = fault_line (codes "FAILED") (why_number WrongAddress)
    (why_name WrongAddress)
failed_text ApplicationError = fault_line (codes "FAILED") (why_number ApplicationError)
    (why_name ApplicationError)
failed_text Stranger = fault_line (codes "FAILED") (why_number Stranger) (why_name Stranger)
failed_text TooManyParts = fault_line (codes "FAILED") (why_number TooManyParts)
    (why_name TooManyParts)

-- whether more parts follow
abbrev pub end_word : Bool → List ℕ
end_word more = if more then codes " MORE\n" else codes " LAST\n"

abbrev pub line_text : LineHeard → List ℕ
line_text Again = codes "AGAIN\n"
line_text Ready = codes "READY\n"
line_text (Accepted part more) = codes "PART" ++ number_word part ++ end_word more
line_text (Failed why) = failed_text why

abbrev pub heard_text : Result LineHeard HearFault → List ℕ
heard_text (Ok answer) = line_text answer
heard_text (Err fault) = refused_text (hear_number fault) (hear_name fault)

abbrev pub committed_text : Result ℕ CommitFault → List ℕ
committed_text (Ok count) = codes "COMMITTED" ++ number_word count ++ codes "\n"
committed_text (Err fault) = refused_text (commit_number fault) (commit_name fault)

-- the office's reply doesn't name the fault of a commit
abbrev pub replied_text : Reply → List ℕ
replied_text unread = refusal_line Syntax
replied_text (unstored fault) = refusal_line Store
replied_text (repeated number) = done_line number
replied_text (refused code) = refusal_line code
replied_text (shown text) = text
replied_text out_of_memory = refusal_line Memory
replied_text (obeyed number change) = done_line number
replied_text (uncommitted change fault) = refusal_line Store

abbrev pub answer_text : Answer → List ℕ
answer_text (started answer) = started_text answer
answer_text (asked answer) = asked_text answer
answer_text (heard answer) = heard_text answer
answer_text (committed answer) = committed_text answer
answer_text (replied reply) = replied_text reply

-- the text of a run, a line for each turn
abbrev pub run_text : List Turn → List ℕ
run_text turns = flat_map (λ (turn : Turn). answer_text turn.1) turns
