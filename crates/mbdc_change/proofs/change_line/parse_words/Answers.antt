use Rattle.std.proofs.Common.{arith, ◌++◌, ◌∷◌, ap, ◌∙◌}
use Rattle.std.specs.Fmt.{decimal}
use Rattle.std.proofs.lemmas.Grind.{common_steps}
use Rattle.mbdc_io.specs.Hex.{bytes_of}
use Rattle.mbdc_change.proofs.TelegramLines.{part_is_word, moment_is_word, words_are}
use Rattle.mbdc_change.proofs.change_line.parse_words.Goals as goal

pub returns-in_err-body-clause-only : goal.returns-in_err-body-clause-only
returns-in_err-body-clause-only c = λ part moment body is told.
    let words = words_are c.args.words.now part moment body.bytes told in
    let first = c.in_ok-part.ensures.only (decimal part) (decimal moment ++ 32 ∷ told.digits) (part_is_word part is.part_fits) words in
    let second = c.in_ok-moment.ensures.only (decimal moment) told.digits (moment_is_word moment is.moment_fits) first.1 in
    let none = c.in_err-body.ensures.only body is.body_is (ap bytes_of second.1 ∙ told.bytes_are) in grind (arith, common_steps)

pub returns-clause-only : goal.returns-clause-only
returns-clause-only c = λ part moment body is told.
    let words = words_are c.args.words.now part moment body.bytes told in
    let first = c.in_ok-part.ensures.only (decimal part) (decimal moment ++ 32 ∷ told.digits) (part_is_word part is.part_fits) words in
    let part_is = c.in_ok-part-2.ensures.only part is.part_fits first.0 in
    let second = c.in_ok-moment.ensures.only (decimal moment) told.digits (moment_is_word moment is.moment_fits) first.1 in
    let moment_is = c.in_ok-moment-2.ensures.only moment is.moment_fits second.0 in
    let body_is = c.in_ok-body.ensures.only body is.body_is (ap bytes_of second.1 ∙ told.bytes_are) in cc (part_is, moment_is, body_is)
