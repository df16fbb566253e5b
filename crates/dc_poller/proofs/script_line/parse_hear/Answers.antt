use Rattle.std.proofs.Common.{arith}
use Rattle.std.proofs.lemmas.Grind.{common_steps}
use Rattle.dc_poller.proofs.Scripts.{only_silence, only_digits}
use Rattle.dc_poller.proofs.script_line.parse_hear.Goals as goal

pub returns-in_err-words-clause-only : goal.returns-in_err-words-clause-only
returns-in_err-words-clause-only c = λ line answer told. let none = c.in_err-words.ensures.only _ told.spells.text_is in grind (arith, common_steps)

pub returns-in_err-parse_line_number-clause-only : goal.returns-in_err-parse_line_number-clause-only
returns-in_err-parse_line_number-clause-only c = λ line answer told.
    let words = only_silence c.args.text.now c.in_ok-words.words.now c.in_ok-words.ensures.found c.in_default.ensures.only line answer told in
    let none = c.in_err-parse_line_number.ensures.only line told.has_bounds words in grind (arith, common_steps)

pub returns-in_err-line-clause-only : goal.returns-in_err-line-clause-only
returns-in_err-line-clause-only c = λ line answer told.
    let parts = c.in-Some.ensures.found in
    let heard = only_digits c.args.text.now c.in_ok-words.words.now c.in-Some.line.now c.in-Some.digits.now c.in_ok-words.ensures.found parts.0 parts.1 line answer told in
    let none = c.in_err-line.ensures.only line told.has_bounds heard.word_is in grind (arith, common_steps)

pub returns-in_err-parse_answer-clause-only : goal.returns-in_err-parse_answer-clause-only
returns-in_err-parse_answer-clause-only c = λ line answer told.
    let parts = c.in-Some.ensures.found in
    let heard = only_digits c.args.text.now c.in_ok-words.words.now c.in-Some.line.now c.in-Some.digits.now c.in_ok-words.ensures.found parts.0 parts.1 line answer told in
    let none = c.in_err-parse_answer.ensures.only answer heard.some heard.bytes_are in grind (arith, common_steps)
