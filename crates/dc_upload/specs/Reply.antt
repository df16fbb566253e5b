-- The replies to a billing office's lines (this product): words separated by single spaces, each
-- line ended by LF.
use Rattle.std.specs.Prelude.{◌≡◌, ℕ, List, [], ◌++◌, codes, length, flat_map}
use Rattle.mbdc_io.specs.Failures.{HasRisen}
use Rattle.mbdc_io.specs.Stream.{PutsFront}
use Rattle.dc_units.specs.Date.{Day}
use Rattle.mbdc_change.specs.State.{State, Held}
use Rattle.dc_report.specs.DueTable.{due_rows, due_text}
use Rattle.dc_upload.specs.Code.{word_of}
use Rattle.dc_upload.specs.Register.{meter_lines}
use Rattle.dc_upload.specs.Verdict.{verdict_of}
use Rattle.dc_upload.specs.Window.{reading_lines, window}
use Rattle.mbdc_io.specs.Words.{number_word}
use Rattle.mbdc_io.specs.declared.stream.Sink.{Ghosts}
use Rattle.dc_upload.specs.declared.code.Code.{Code}
use Rattle.dc_upload.specs.declared.code.Code.TheVariants.{Syntax, Store, Order, Known, Unknown}
use Rattle.dc_upload.specs.declared.code.Code.TheVariants.{Address, Beyond, Gone, Full, Memory}
use Rattle.dc_upload.specs.declared.fault.ReplyFault.{ReplyFault}
use Rattle.dc_upload.specs.declared.fault.ReplyFault.TheVariants.{NoMemory, Write}
use Rattle.dc_upload.specs.declared.line.OfficeLine.{OfficeLine}
use Rattle.dc_upload.specs.declared.line.OfficeLine.TheVariants.{Command, Window, Register, Report}
use Rattle.dc_upload.specs.declared.verdict.Verdict.{Verdict}
use Rattle.dc_upload.specs.declared.verdict.Verdict.TheVariants.{Repeat, Do, Show, Refuse}

-- a command is done, now or earlier
unfoldable pub done_line : ℕ → List ℕ
done_line number = codes "OK" ++ number_word number ++ codes "\n"

-- the number after a code's word, if it has one
abbrev pub detail_of : Code → List ℕ
detail_of Syntax = []
detail_of Store = []
detail_of (Order last) = number_word last
detail_of Known = []
detail_of Unknown = []
detail_of Address = []
detail_of Beyond = []
detail_of (Gone confirmed) = number_word confirmed
detail_of Full = []
detail_of Memory = []

-- a line is refused
unfoldable pub refusal_line : Code → List ℕ
refusal_line code = codes "ERR " ++ word_of code ++ detail_of code ++ codes "\n"

-- the last line of what is shown, with a count
unfoldable pub end_line : ℕ → List ℕ
end_line count = codes "END" ++ number_word count ++ codes "\n"

-- ---- the text that is shown

-- the lines of the readings from a serial on, at most `count` of them, then END and their number
unfoldable pub window_text : ℕ → ℕ → State → List ℕ
window_text from count s = flat_map reading_lines (window from count s)
    ++ end_line (length (window from count s))

-- the lines of the meters, then END and their number
unfoldable pub register_text : State → List ℕ
register_text s = meter_lines s ++ end_line (length s.meters)

-- the due-date table, and the number of its rows, without the header
unfoldable pub report_text : Day → State → List ℕ
report_text date s = due_text date s ++ end_line (length (due_rows date s))

-- the reply to a line that shows something; a command shows nothing
abbrev pub shown_text : OfficeLine → State → List ℕ
shown_text (Command ordered) s = []
shown_text (Window from count) s = window_text from count s
shown_text Register s = register_text s
shown_text (Report date) s = report_text date s

-- ---- the reply. A new command has none before it is done: then it is a repeat.

abbrev pub text_for : Verdict → OfficeLine → State → List ℕ
text_for Repeat line s = done_line s.last_number
text_for (Do change) line s = []
text_for Show line s = shown_text line s
text_for (Refuse code) line s = refusal_line code

unfoldable pub reply_text : Held → OfficeLine → List ℕ
reply_text house line = text_for (verdict_of house line) line house.state

-- ---- why a reply isn't written

-- only a REPORT uses memory
abbrev pub TakesMemory : OfficeLine → Type 0
TakesMemory (Command ordered) = ⊥
TakesMemory (Window from count) = ⊥
TakesMemory Register = ⊥
TakesMemory (Report date) = Unit {0}

-- If memory ran out, the writer is unchanged; otherwise a write failed, and a prefix of the reply
-- is written.
abbrev pub Tells : {W : Type 0} → Ghosts W → OfficeLine → List ℕ → W → W → ReplyFault → Type 0
Tells g line text old new NoMemory = TakesMemory line × (new ≡ old)
Tells g line text old new Write = PutsFront (g.written old) (g.written new) text
    × HasRisen (g.put_failures old) (g.put_failures new)
