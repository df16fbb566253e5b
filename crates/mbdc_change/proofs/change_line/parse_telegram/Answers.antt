use Rattle.std.proofs.Common.{arith, ◌≡◌, ℕ, List, ◌∷◌, ◌++◌, sym, subst, refl, ap, ◌∙◌}
use Rattle.std.specs.Prelude.{IfSome, codes}
use Rattle.std.proofs.lemmas.Grind.{common_steps}
use Rattle.mbdc_change.specs.ChangeLine.{Spells, SpellsTelegram}
use Rattle.mbdc_change.specs.Valid.{IsChange}
use Rattle.mbdc_change.proofs.TelegramLines.{words_of_telegram, is_telegram}
use Rattle.mbdc_change.proofs.change_line.parse_telegram.Goals as goal

pub returns-in_err-verb-clause-only : goal.returns-in_err-verb-clause-only
returns-in_err-verb-clause-only c = λ part moment body is told.
    let parts = c.split_word.ensures.only (codes "TELEGRAM") (words_of_telegram part moment told.digits) refl told.line_is in grind (arith, common_steps)

pub returns-in-TELEGRAM-clause-found : goal.returns-in-TELEGRAM-clause-found
returns-in-TELEGRAM-clause-found c =
    let verb : c.in_ok-verb.verb.now ≡ codes "TELEGRAM" =
    is_telegram c.in_ok-verb.verb.now (omega arith) (omega arith) (omega arith) (omega arith) (omega arith) (omega arith) (omega arith) (omega arith) (omega arith) in
    let same : c.args.line.now ≡ codes "TELEGRAM" ++ 32 ∷ c.in_ok-verb.words.now = c.in_ok-verb.ensures.found.1 ∙ ap (λ (v : List ℕ). v ++ 32 ∷ c.in_ok-verb.words.now) verb in
    subst (λ line. IfSome c.parse_words.result (λ change. IsChange change × Spells line change)) (sym same) c.parse_words.ensures.found

pub returns-in-TELEGRAM-clause-only : goal.returns-in-TELEGRAM-clause-only
returns-in-TELEGRAM-clause-only c = λ part moment body is told.
    let verb : c.in_ok-verb.verb.now ≡ codes "TELEGRAM" =
    is_telegram c.in_ok-verb.verb.now (omega arith) (omega arith) (omega arith) (omega arith) (omega arith) (omega arith) (omega arith) (omega arith) (omega arith) in
    let same : c.args.line.now ≡ codes "TELEGRAM" ++ 32 ∷ c.in_ok-verb.words.now = c.in_ok-verb.ensures.found.1 ∙ ap (λ (v : List ℕ). v ++ 32 ∷ c.in_ok-verb.words.now) verb in
    c.parse_words.ensures.only part moment body is (subst (λ line. SpellsTelegram line part moment body.bytes) same told)

pub returns-in_default-clause-only : goal.returns-in_default-clause-only
returns-in_default-clause-only c = λ part moment body is told.
    let parts = c.split_word.ensures.only (codes "TELEGRAM") (words_of_telegram part moment told.digits) refl told.line_is in grind (arith, common_steps)
