-- The words of a telegram's line, and that a line spells one change.
use Rattle.std.proofs.Common.{ℕ, ◌≤◌, ◌^◌, List, [], ◌∷◌, ◌++◌, ◌≡◌, ◌<◌, ◌∙◌, Option, Some, length, get_or, zero, suc, codes, refl, sym, ap, subst, arith}
use Rattle.std.proofs.lemmas.Grind.{same_number_lists}
use Rattle.std.specs.List.{join_with_byte}
use Rattle.std.specs.Fmt.{decimal}
use Rattle.std.proofs.lemmas.Fmt.{decimal_injective, decimal_is_IsNumeral}
use Rattle.std.proofs.lemmas.Str.Parse.{digit_at}
use Rattle.dc_records.specs.Telegram.{Parsed, IsTelegram as IsParsed}
use Rattle.mbdc_io.specs.Hex.{bytes_of}
use Rattle.mbdc_change.specs.Body.{BodyRow, IsBody, body_of}
use Rattle.mbdc_change.specs.ChangeLine.{SpellsTelegram, IsLineOf}
use Rattle.mbdc_change.specs.Command.{NamesMeters, command_text, line_of}
use Rattle.mbdc_change.specs.Command.{IsCommand}
use Rattle.mbdc_change.specs.Fields.{IsNumber, last_moment, most_parts}
use Rattle.mbdc_change.specs.Valid.{IsTelegram}
use Rattle.mbdc_change.specs.Words.{IsWord}
use Rattle.mbdc_change.specs.declared.change.Change.{Change}
use Rattle.mbdc_change.specs.declared.change.Change.TheVariants.{Telegram, Command as Numbered}
use Rattle.mbdc_change.specs.declared.command.Command.{Command}
use Rattle.mbdc_change.proofs.Decimals.{decimal_is_word}
use Rattle.mbdc_change.proofs.CommandSpellings.{one_line}
use Rattle.mbdc_change.proofs.LineSpellings.{one_word}

pub part_is_word : (part : ℕ) → part ≤ most_parts → IsWord (decimal part)
part_is_word part fits = decimal_is_word part (omega arith)

pub moment_is_word : (moment : ℕ) → moment ≤ last_moment → IsWord (decimal moment)
moment_is_word moment fits = decimal_is_word moment (omega arith)

-- what follows the first word and its space
abbrev pub words_of_telegram : ℕ → ℕ → List ℕ → List ℕ
words_of_telegram part moment digits = join_with_byte 32 (decimal part ∷ decimal moment ∷ digits ∷ [])

-- the first word, by its letters
letters : (word : List ℕ) → get_or word 0 0 ≡ 84 → get_or word 1 0 ≡ 69 → get_or word 2 0 ≡ 76 → get_or word 3 0 ≡ 69 → get_or word 4 0 ≡ 71
    → get_or word 5 0 ≡ 82 → get_or word 6 0 ≡ 65 → get_or word 7 0 ≡ 77 → (k : ℕ) → k < 8 → get_or word k 0 ≡ get_or (codes "TELEGRAM") k 0
letters word a b c d e f g h zero below = a
letters word a b c d e f g h (suc zero) below = b
letters word a b c d e f g h (suc (suc zero)) below = c
letters word a b c d e f g h (suc (suc (suc zero))) below = d
letters word a b c d e f g h (suc (suc (suc (suc zero)))) below = e
letters word a b c d e f g h (suc (suc (suc (suc (suc zero))))) below = f
letters word a b c d e f g h (suc (suc (suc (suc (suc (suc zero)))))) below = g
letters word a b c d e f g h (suc (suc (suc (suc (suc (suc (suc zero))))))) below = h
letters word a b c d e f g h (suc (suc (suc (suc (suc (suc (suc (suc k)))))))) below = absurd (omega arith)

pub is_telegram : (word : List ℕ) → length word ≡ 8 → get_or word 0 0 ≡ 84 → get_or word 1 0 ≡ 69 → get_or word 2 0 ≡ 76 → get_or word 3 0 ≡ 69
    → get_or word 4 0 ≡ 71 → get_or word 5 0 ≡ 82 → get_or word 6 0 ≡ 65 → get_or word 7 0 ≡ 77 → word ≡ codes "TELEGRAM"
is_telegram word len a b c d e f g h =
    same_number_lists word (codes "TELEGRAM") len (λ k below. letters word a b c d e f g h k (omega arith))

-- no command's line is a telegram's: a number doesn't begin with T
pub apart : (line : List ℕ) (part moment : ℕ) (bytes : List ℕ) (number : ℕ) (command : Command) → number < 10 ^ 18 → SpellsTelegram line part moment bytes → line ≡ line_of number command → ⊥
unfolding line_of
apart line part moment bytes number command fits told is =
    let verb = one_word (codes "TELEGRAM") (decimal number) (words_of_telegram part moment told.digits) (command_text command) refl (decimal_is_word number fits) (sym told.line_is ∙ is) in
    let first : 84 ≡ get_or (decimal number) 0 0 = ap (λ (word : List ℕ). get_or word 0 0) verb.0 in
    let digits = decimal_is_IsNumeral number (omega arith) in
    omega (arith, digit_at (decimal number) 0 digits.0.1 digits.0.0)

-- what follows the first word of a telegram's line
pub words_are : (words : List ℕ) (part moment : ℕ) (bytes : List ℕ) (told : SpellsTelegram (codes "TELEGRAM" ++ 32 ∷ words) part moment bytes) → words ≡ words_of_telegram part moment told.digits
words_are words part moment bytes told = (one_word (codes "TELEGRAM") (codes "TELEGRAM") words (words_of_telegram part moment told.digits) refl refl told.line_is).1

-- ---- a line spells one change

record SpellOne (part moment : ℕ) (bytes : List ℕ) (part_2 moment_2 : ℕ) (bytes_2 : List ℕ) : Type 0 where
  parts : part ≡ part_2
  moments : moment ≡ moment_2
  bytes_are : bytes ≡ bytes_2

spell_one : (line : List ℕ) (part moment : ℕ) (bytes : List ℕ) (part_2 moment_2 : ℕ) (bytes_2 : List ℕ)
    → part ≤ most_parts → moment ≤ last_moment → part_2 ≤ most_parts → moment_2 ≤ last_moment → SpellsTelegram line part moment bytes → SpellsTelegram line part_2 moment_2 bytes_2
    → SpellOne part moment bytes part_2 moment_2 bytes_2
spell_one line part moment bytes part_2 moment_2 bytes_2 part_fits moment_fits part_fits_2 moment_fits_2 a b =
    let verb = one_word (codes "TELEGRAM") (codes "TELEGRAM") (words_of_telegram part moment a.digits) (words_of_telegram part_2 moment_2 b.digits) refl refl (sym a.line_is ∙ b.line_is) in
    let first = one_word (decimal part) (decimal part_2) (decimal moment ++ 32 ∷ a.digits) (decimal moment_2 ++ 32 ∷ b.digits) (part_is_word part part_fits) (part_is_word part_2 part_fits_2) verb.1 in
    let second = one_word (decimal moment) (decimal moment_2) a.digits b.digits (moment_is_word moment moment_fits) (moment_is_word moment_2 moment_fits_2) first.1 in
    let both : Some bytes ≡ Some bytes_2 = sym a.bytes_are ∙ ap bytes_of second.1 ∙ b.bytes_are in
    record {
      parts = decimal_injective part part_2 (omega arith) (omega arith) first.0;
      moments = decimal_injective moment moment_2 (omega arith) (omega arith) second.0;
      bytes_are = cc;
    }

abbrev pub OneTelegram : Type 0
OneTelegram = (text : List ℕ) (s t : Parsed) → IsParsed text s → IsParsed text t → s ≡ t

one_body : OneTelegram → (a b : BodyRow) → IsBody a → IsBody b → a.bytes ≡ b.bytes → a ≡ b
one_body one a b is_a is_b same =
    let telegrams = one b.bytes is_a.telegram is_b.telegram (subst (λ bytes. IsParsed bytes is_a.telegram) same is_a.is_telegram) is_b.is_telegram in
    is_a.kept ∙ ap body_of telegrams ∙ sym is_b.kept

pub one_change : OneTelegram → (line : List ℕ) (a b : Change) → IsLineOf line a → IsLineOf line b → a ≡ b
one_change one line (Telegram part moment body) (Telegram part_2 moment_2 body_2) is_a is_b =
    let same = spell_one line part moment body.bytes part_2 moment_2 body_2.bytes is_a.is_change.part_fits is_a.is_change.moment_fits is_b.is_change.part_fits is_b.is_change.moment_fits is_a.spells is_b.spells in
    let bodies : body ≡ body_2 = one_body one body body_2 is_a.is_change.body_is is_b.is_change.body_is same.bytes_are in
    cc (same.parts, same.moments)
one_change one line (Telegram part moment body) (Numbered number command) is_a is_b = absurd (apart line part moment body.bytes number command is_b.is_change.0.high is_a.spells is_b.spells.1)
one_change one line (Numbered number command) (Telegram part moment body) is_a is_b = absurd (apart line part moment body.bytes number command is_a.is_change.0.high is_b.spells is_a.spells.1)
one_change one line (Numbered number command) (Numbered number_2 command_2) is_a is_b =
    let same = one_line number number_2 command command_2 is_a.is_change.0 is_a.is_change.1 is_a.spells.0 is_b.is_change.0 is_b.is_change.1 is_b.spells.0 (sym is_a.spells.1 ∙ is_b.spells.1) in
    cc (same.0, same.1)

-- where a line spells a command, it spells no other change
pub only_command : (line : List ℕ) (number : ℕ) (command : Command) → IsNumber number → IsCommand command → NamesMeters command → line ≡ line_of number command
    → (change : Change) → IsLineOf line change → Numbered number command ≡ change
only_command line number command is_number is_command names told (Telegram part moment body) is = absurd (apart line part moment body.bytes number command is_number.high is.spells told)
only_command line number command is_number is_command names told (Numbered number_2 command_2) is =
    let same = one_line number number_2 command command_2 is_number is_command names is.is_change.0 is.is_change.1 is.spells.0 (sym told ∙ is.spells.1) in
    cc (same.0, same.1)

-- where it spells none, it spells a telegram if anything
pub only_telegram : (line : List ℕ) (read : Option Change) → ((number : ℕ) (command : Command) → IsNumber number → IsCommand command → NamesMeters command → line ≡ line_of number command → ⊥)
    → ((part moment : ℕ) (body : BodyRow) → IsTelegram part moment body → SpellsTelegram line part moment body.bytes → read ≡ Some (Telegram part moment body))
    → (change : Change) → IsLineOf line change → read ≡ Some change
only_telegram line read none only (Telegram part moment body) is = only part moment body is.is_change is.spells
only_telegram line read none only (Numbered number command) is = absurd (none number command is.is_change.0 is.is_change.1 is.spells.0 is.spells.1)
