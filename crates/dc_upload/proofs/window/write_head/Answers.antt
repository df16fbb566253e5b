use Rattle.std.proofs.Common.{◌≡◌, ◌++◌, ℕ, List, codes, ap, ◌∙◌, sym, arith, append_assoc}
use Rattle.std.proofs.lemmas.Grind.{common_steps}
use Rattle.mbdc_io.specs.Stream.{PutsFront}
use Rattle.mbdc_io.proofs.Pieces.{puts_front-first, puts_front-within, puts-both}
use Rattle.mbdc_io.specs.Words.{number_word}
use Rattle.mbdc_change.specs.State.{ReadingRow}
use Rattle.dc_upload.specs.Window.{owner_words, reading_line}
use Rattle.dc_upload.proofs.window.write_head.Goals as goal

pub returns-in_err-put : goal.returns-in_err-put
unfolding reading_line
returns-in_err-put g c =
    let reading : ReadingRow = c.args.reading.now in
    let front : PutsFront (g.W.Sink.written c.args.out.now) (g.W.Sink.written c.put.new.self) (reading_line reading) =
    puts_front-first (number_word reading.serial ++ owner_words reading ++ codes "\n") c.in_err-put.ensures.err in
    grind arith

-- the words after `READING`, with the serial that was put
line_is : (reading : ReadingRow) (serial : ℕ) → serial ≡ reading.serial → codes "READING" ++ (number_word serial ++ (owner_words reading ++ codes "\n")) ≡ reading_line reading
unfolding reading_line
line_is reading serial is =
    ap (λ (n : ℕ). codes "READING" ++ (number_word n ++ (owner_words reading ++ codes "\n"))) is
    ∙ ap (λ (text : List ℕ). codes "READING" ++ text) (sym (append_assoc (number_word reading.serial) (owner_words reading) (codes "\n")))

pub returns-in_err-put_number_word : goal.returns-in_err-put_number_word
returns-in_err-put_number_word g c =
    let reading : ReadingRow = c.args.reading.now in
    let front : PutsFront (g.W.Sink.written c.args.out.now) (g.W.Sink.written c.put_number_word.new.out) (reading_line reading) =
    puts_front-within (codes "READING") (number_word c.serial.result) (owner_words reading ++ codes "\n") c.in_ok-put.ensures.bytes
    (line_is reading c.serial.result c.serial.ensures.serial) c.in_err-put_number_word.ensures.2 in
    grind arith

pub returns-in_err-put_owner : goal.returns-in_err-put_owner
returns-in_err-put_owner g c =
    let reading : ReadingRow = c.args.reading.now in
    let went = puts-both _ _ _ (codes "READING") (number_word c.serial.result) c.in_ok-put.ensures.bytes c.in_ok-put_number_word.ensures.0 in
    let front : PutsFront (g.W.Sink.written c.args.out.now) (g.W.Sink.written c.put_owner.new.out) (reading_line reading) =
    puts_front-within (codes "READING" ++ number_word c.serial.result) (owner_words reading) (codes "\n") went
    (append_assoc (codes "READING") (number_word c.serial.result) (owner_words reading ++ codes "\n") ∙ line_is reading c.serial.result c.serial.ensures.serial) c.in_err-put_owner.ensures.2 in
    grind arith

pub returns : goal.returns
unfolding reading_line
returns g c = grind (arith, common_steps)
