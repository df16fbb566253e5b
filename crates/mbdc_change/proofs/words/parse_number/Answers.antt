use Rattle.std.proofs.Common.{arith, rules, ◌≡◌, ◌∙◌, sym}
use Rattle.mbdc_change.proofs.LineSpellings.{number_begins, number_is_text, number_parsed, number_read}
use Rattle.mbdc_change.proofs.words.parse_number.Goals as goal

pub returns-then-not-begins_number-clause-only : goal.returns-then-not-begins_number-clause-only
returns-then-not-begins_number-clause-only c = λ number fits is.
    let yes = c.begins_number.ensures.1 (number_begins c.args.word.now number (omega arith) is) in cc

pub returns-in_default-clause-only : goal.returns-in_default-clause-only
returns-in_default-clause-only c = λ number fits is. absurd (c.in_default.ensures.cases.0 (number_is_text c.args.word.now number (omega arith) is))

pub returns-in-Ok-parse-clause-found : goal.returns-in-Ok-parse-clause-found
returns-in-Ok-parse-clause-found c = (
  omega arith,
  number_read c.args.word.now c.in-Ok.text.now c.in-Ok-parse.number c.parse.result (c.begins_number.ensures.0 (search rules)) c.in-Ok.ensures.cases.0 c.parse.ensures.value.0 c.in-Ok-parse.is,
)

pub returns-in-Ok-parse-clause-only : goal.returns-in-Ok-parse-clause-only
returns-in-Ok-parse-clause-only c = λ number fits is.
    let parsed = number_parsed c.args.word.now c.in-Ok.text.now number c.parse.result (omega arith) is c.in-Ok.ensures.cases.0 c.parse.ensures.value.0 in
    cc (sym c.in-Ok-parse.is ∙ parsed)

pub returns-in_default-parse-clause-only : goal.returns-in_default-parse-clause-only
returns-in_default-parse-clause-only c = λ number fits is.
    let parsed = number_parsed c.args.word.now c.in-Ok.text.now number c.parse.result (omega arith) is c.in-Ok.ensures.cases.0 c.parse.ensures.value.0 in
    let same : c.in-Ok-parse.number ≡ number = cc (sym c.in-Ok-parse.is ∙ parsed) in absurd (omega arith)

pub returns-in_default-parse-2-clause-only : goal.returns-in_default-parse-2-clause-only
returns-in_default-parse-2-clause-only c = λ number fits is.
    let parsed = number_parsed c.args.word.now c.in-Ok.text.now number c.parse.result (omega arith) is c.in-Ok.ensures.cases.0 c.parse.ensures.value.0 in
    cc (sym c.in_default-parse.is ∙ parsed)
