-- A line of a script asks for one thing.
use Rattle.std.proofs.Common.{◌≡◌, ℕ, ◌+◌, ◌*◌, ◌<◌, ◌≤◌, ◌^◌, List, [], ◌∷◌, ◌++◌, Some, codes, length, get_or, drop, refl, sym, ap, subst, ◌∙◌, arith}
use Rattle.std.specs.List.{list_all}
use Rattle.std.specs.Fmt.{decimal}
use Rattle.std.proofs.lemmas.Bool.{and_parts}
use Rattle.std.proofs.lemmas.Fmt.{decimal_injective}
use Rattle.std.proofs.lemmas.List.{append-nil}
use Rattle.dc_address.specs.Text.{text_of}
use Rattle.dc_address.specs.declared.identity.Identity.{Identity}
use Rattle.dc_address.proofs.Texts.{same_from_text}
use Rattle.mbdc_change.specs.Fields.{IsOfBytes}
use Rattle.mbdc_change.specs.Words.{IsWord, is_inside}
use Rattle.mbdc_change.proofs.Decimals.{decimal_is_word}
use Rattle.mbdc_change.proofs.LineSpellings.{one_word}
use Rattle.mbdc_io.specs.Hex.{bytes_of}
use Rattle.dc_poller.specs.ScriptLine.{LineSeen, nothing, at, start, ask, hear, commit, office, poll, search, IsLineOf, Spells, greatest_line}
use Rattle.dc_search.specs.Found.{greatest_budget}

pub line_is_word : (line : ℕ) → line ≤ greatest_line → IsWord (decimal line)
line_is_word line fits = decimal_is_word line (omega arith)

-- ---- the first two letters distinguish the forms

abbrev letters_of : List ℕ → ℕ
letters_of text = 256 * get_or text 0 0 + get_or text 1 0

abbrev letters : LineSeen → ℕ
letters nothing = 0
letters (at moment) = 16724
letters (start line meter) = 21332
letters (ask line) = 16723
letters (hear line answer) = 18501
letters commit = 17231
letters (office line) = 20294
letters (poll line meter) = 20559
letters (search budget) = 21317

letters_are : (text : List ℕ) (asked : LineSeen) → Spells text asked → letters_of text ≡ letters asked
letters_are text nothing is = ap letters_of is
letters_are text (at moment) is = ap letters_of is
letters_are text (start line meter) is = ap letters_of is
letters_are text (ask line) is = ap letters_of is
letters_are text (hear line answer) is = ap letters_of is.text_is
letters_are text commit is = ap letters_of is
letters_are text (office line) is = ap letters_of is
letters_are text (poll line meter) is = ap letters_of is
letters_are text (search budget) is = ap letters_of is

same_letters : (text : List ℕ) (asked other : LineSeen) → Spells text asked → Spells text other → letters asked ≡ letters other
same_letters text asked other is is_other = sym (letters_are text asked is) ∙ letters_are text other is_other

-- ---- the same form

one_number : (number other : ℕ) → number < 10 ^ 18 → other < 10 ^ 18 → decimal number ≡ decimal other → number ≡ other
one_number number other fits other_fits same = decimal_injective number other (omega arith) (omega arith) same

one_meter : (meter other : Identity) → IsOfBytes meter → IsOfBytes other → text_of meter ≡ text_of other → meter ≡ other
one_meter meter other is is_other same = same_from_text (text_of meter) meter other is.version is.kind is_other.version is_other.kind refl same

pub record IsOnLine (line : ℕ) (meter : Identity) (other : ℕ) (another : Identity) : Type 0 where
  pub lines : line ≡ other
  pub meters : meter ≡ another

one_on_line : (line : ℕ) (meter : Identity) (other : ℕ) (another : Identity) → line ≤ greatest_line → IsOfBytes meter → other ≤ greatest_line → IsOfBytes another
    → decimal line ++ 32 ∷ text_of meter ≡ decimal other ++ 32 ∷ text_of another → IsOnLine line meter other another
one_on_line line meter other another fits is other_fits is_other same =
    let words = one_word (decimal line) (decimal other) (text_of meter) (text_of another) (line_is_word line fits) (line_is_word other other_fits) same in
    record { lines = one_number line other (omega arith) (omega arith) words.0; meters = one_meter meter another is is_other words.1 }

-- ---- what is received

no_space_in : (front rest : List ℕ) → IsWord (front ++ 32 ∷ rest) → ⊥
no_space_in [] rest is = let parts = and_parts (is_inside 32) (list_all is_inside rest) is in absurd cc
no_space_in (byte ∷ front) rest is = no_space_in front rest (and_parts (is_inside byte) (list_all is_inside (front ++ 32 ∷ rest)) is).1

no_space : (line : ℕ) (front rest : List ℕ) → line ≤ greatest_line → decimal line ≡ front ++ 32 ∷ rest → ⊥
no_space line front rest fits same = no_space_in front rest (subst IsWord same (line_is_word line fits))

-- if the first word is followed by no space, the answer is silence
pub only_silence : (text words : List ℕ) → text ≡ codes "HEAR" ++ 32 ∷ words → ((word rest : List ℕ) → IsWord word → words ≡ word ++ 32 ∷ rest → ⊥)
    → (line : ℕ) (answer : List ℕ) → IsLineOf text (hear line answer) → words ≡ decimal line
only_silence text words is none line [] told =
    ap (drop 5) (sym is ∙ told.spells.text_is) ∙ ap (λ (behind : List ℕ). decimal line ++ behind) told.spells.answer_is ∙ append-nil (decimal line)
only_silence text words is none line (byte ∷ bytes) told =
    absurd (none (decimal line) told.spells.answer_is.0 (line_is_word line told.has_bounds)
    (ap (drop 5) (sym is ∙ told.spells.text_is) ∙ ap (λ (behind : List ℕ). decimal line ++ behind) told.spells.answer_is.2))

pub record IsHeard (word digits : List ℕ) (line : ℕ) (answer : List ℕ) : Type 0 where
  pub word_is : word ≡ decimal line
  pub some : 0 < length answer
  pub bytes_are : bytes_of digits ≡ Some answer

-- otherwise digits follow it
pub only_digits : (text words word digits : List ℕ) → text ≡ codes "HEAR" ++ 32 ∷ words → IsWord word → words ≡ word ++ 32 ∷ digits
    → (line : ℕ) (answer : List ℕ) → IsLineOf text (hear line answer) → IsHeard word digits line answer
only_digits text words word digits is is_word parts line [] told =
    absurd (no_space line word digits told.has_bounds
    (sym (ap (drop 5) (sym is ∙ told.spells.text_is) ∙ ap (λ (behind : List ℕ). decimal line ++ behind) told.spells.answer_is ∙ append-nil (decimal line)) ∙ parts))
only_digits text words word digits is is_word parts line (byte ∷ bytes) told =
    let same = one_word word (decimal line) digits told.spells.answer_is.0 is_word (line_is_word line told.has_bounds)
    (sym parts ∙ ap (drop 5) (sym is ∙ told.spells.text_is) ∙ ap (λ (behind : List ℕ). decimal line ++ behind) told.spells.answer_is.2) in
    record { word_is = same.0; some = omega arith; bytes_are = ap bytes_of same.1 ∙ told.spells.answer_is.1 }

silence : (text : List ℕ) (line : ℕ) → IsLineOf text (hear line []) → drop 5 text ≡ decimal line
silence text line is = ap (drop 5) is.spells.text_is ∙ ap (λ (behind : List ℕ). decimal line ++ behind) is.spells.answer_is ∙ append-nil (decimal line)

one_heard : (text : List ℕ) (line : ℕ) (answer : List ℕ) (line_2 : ℕ) (answer_2 : List ℕ) → IsLineOf text (hear line answer) → IsLineOf text (hear line_2 answer_2) → hear line answer ≡ hear line_2 answer_2
one_heard text line [] line_2 [] is is_2 =
    let same = sym (silence text line is) ∙ silence text line_2 is_2 in
    ap (λ (n : ℕ). hear n []) (one_number line line_2 (omega (arith, is.has_bounds)) (omega (arith, is_2.has_bounds)) same)
one_heard text line [] line_2 (byte ∷ bytes) is is_2 =
    absurd (no_space line (decimal line_2) is_2.spells.answer_is.0 is.has_bounds
    (sym (silence text line is) ∙ ap (drop 5) is_2.spells.text_is ∙ ap (λ (behind : List ℕ). decimal line_2 ++ behind) is_2.spells.answer_is.2))
one_heard text line (byte ∷ bytes) line_2 answer_2 is is_2 =
    let digits = is.spells.answer_is.0 in
    let back : List ℕ = decimal line ++ 32 ∷ digits in
    let whole : text ≡ codes "HEAR" ++ 32 ∷ back = is.spells.text_is ∙ ap (λ (behind : List ℕ). codes "HEAR" ++ 32 ∷ decimal line ++ behind) is.spells.answer_is.2 in
    let other = only_digits text back (decimal line) digits whole (line_is_word line is.has_bounds) refl line_2 answer_2 is_2 in
    let lines = one_number line line_2 (omega (arith, is.has_bounds)) (omega (arith, is_2.has_bounds)) other.word_is in
    let answers : Some (byte ∷ bytes) ≡ Some answer_2 = sym is.spells.answer_is.1 ∙ other.bytes_are in
    cc (lines, answers)

-- ---- one line

pub one_line : (text : List ℕ) (asked other : LineSeen) → IsLineOf text asked → IsLineOf text other → asked ≡ other
one_line text nothing nothing is is_2 = refl
one_line text nothing (at moment_2) is is_2 = absurd (omega (arith, same_letters text nothing (at moment_2) is.spells is_2.spells))
one_line text nothing (start line_2 meter_2) is is_2 = absurd (omega (arith, same_letters text nothing (start line_2 meter_2) is.spells is_2.spells))
one_line text nothing (ask line_2) is is_2 = absurd (omega (arith, same_letters text nothing (ask line_2) is.spells is_2.spells))
one_line text nothing (hear line_2 answer_2) is is_2 = absurd (omega (arith, same_letters text nothing (hear line_2 answer_2) is.spells is_2.spells))
one_line text nothing commit is is_2 = absurd (omega (arith, same_letters text nothing commit is.spells is_2.spells))
one_line text nothing (office line_2) is is_2 = absurd (omega (arith, same_letters text nothing (office line_2) is.spells is_2.spells))
one_line text nothing (poll line_2 meter_2) is is_2 = absurd (omega (arith, same_letters text nothing (poll line_2 meter_2) is.spells is_2.spells))
one_line text nothing (search budget_2) is is_2 = absurd (omega (arith, same_letters text nothing (search budget_2) is.spells is_2.spells))
one_line text (at moment) nothing is is_2 = absurd (omega (arith, same_letters text (at moment) nothing is.spells is_2.spells))
one_line text (at moment) (at moment_2) is is_2 =
    ap at (one_number moment moment_2 (omega (arith, is.has_bounds)) (omega (arith, is_2.has_bounds)) (ap (drop 3) (sym is.spells ∙ is_2.spells)))
one_line text (at moment) (start line_2 meter_2) is is_2 = absurd (omega (arith, same_letters text (at moment) (start line_2 meter_2) is.spells is_2.spells))
one_line text (at moment) (ask line_2) is is_2 = absurd (omega (arith, same_letters text (at moment) (ask line_2) is.spells is_2.spells))
one_line text (at moment) (hear line_2 answer_2) is is_2 = absurd (omega (arith, same_letters text (at moment) (hear line_2 answer_2) is.spells is_2.spells))
one_line text (at moment) commit is is_2 = absurd (omega (arith, same_letters text (at moment) commit is.spells is_2.spells))
one_line text (at moment) (office line_2) is is_2 = absurd (omega (arith, same_letters text (at moment) (office line_2) is.spells is_2.spells))
one_line text (at moment) (poll line_2 meter_2) is is_2 = absurd (omega (arith, same_letters text (at moment) (poll line_2 meter_2) is.spells is_2.spells))
one_line text (at moment) (search budget_2) is is_2 = absurd (omega (arith, same_letters text (at moment) (search budget_2) is.spells is_2.spells))
one_line text (start line meter) nothing is is_2 = absurd (omega (arith, same_letters text (start line meter) nothing is.spells is_2.spells))
one_line text (start line meter) (at moment_2) is is_2 = absurd (omega (arith, same_letters text (start line meter) (at moment_2) is.spells is_2.spells))
one_line text (start line meter) (start line_2 meter_2) is is_2 =
    let same = one_on_line line meter line_2 meter_2 is.has_bounds.0 is.has_bounds.1 is_2.has_bounds.0 is_2.has_bounds.1 (ap (drop 6) (sym is.spells ∙ is_2.spells)) in cc (same.lines, same.meters)
one_line text (start line meter) (ask line_2) is is_2 = absurd (omega (arith, same_letters text (start line meter) (ask line_2) is.spells is_2.spells))
one_line text (start line meter) (hear line_2 answer_2) is is_2 = absurd (omega (arith, same_letters text (start line meter) (hear line_2 answer_2) is.spells is_2.spells))
one_line text (start line meter) commit is is_2 = absurd (omega (arith, same_letters text (start line meter) commit is.spells is_2.spells))
one_line text (start line meter) (office line_2) is is_2 = absurd (omega (arith, same_letters text (start line meter) (office line_2) is.spells is_2.spells))
one_line text (start line meter) (poll line_2 meter_2) is is_2 = absurd (omega (arith, same_letters text (start line meter) (poll line_2 meter_2) is.spells is_2.spells))
one_line text (start line meter) (search budget_2) is is_2 = absurd (omega (arith, same_letters text (start line meter) (search budget_2) is.spells is_2.spells))
one_line text (ask line) nothing is is_2 = absurd (omega (arith, same_letters text (ask line) nothing is.spells is_2.spells))
one_line text (ask line) (at moment_2) is is_2 = absurd (omega (arith, same_letters text (ask line) (at moment_2) is.spells is_2.spells))
one_line text (ask line) (start line_2 meter_2) is is_2 = absurd (omega (arith, same_letters text (ask line) (start line_2 meter_2) is.spells is_2.spells))
one_line text (ask line) (ask line_2) is is_2 =
    ap ask (one_number line line_2 (omega (arith, is.has_bounds)) (omega (arith, is_2.has_bounds)) (ap (drop 4) (sym is.spells ∙ is_2.spells)))
one_line text (ask line) (hear line_2 answer_2) is is_2 = absurd (omega (arith, same_letters text (ask line) (hear line_2 answer_2) is.spells is_2.spells))
one_line text (ask line) commit is is_2 = absurd (omega (arith, same_letters text (ask line) commit is.spells is_2.spells))
one_line text (ask line) (office line_2) is is_2 = absurd (omega (arith, same_letters text (ask line) (office line_2) is.spells is_2.spells))
one_line text (ask line) (poll line_2 meter_2) is is_2 = absurd (omega (arith, same_letters text (ask line) (poll line_2 meter_2) is.spells is_2.spells))
one_line text (ask line) (search budget_2) is is_2 = absurd (omega (arith, same_letters text (ask line) (search budget_2) is.spells is_2.spells))
one_line text (hear line answer) nothing is is_2 = absurd (omega (arith, same_letters text (hear line answer) nothing is.spells is_2.spells))
one_line text (hear line answer) (at moment_2) is is_2 = absurd (omega (arith, same_letters text (hear line answer) (at moment_2) is.spells is_2.spells))
one_line text (hear line answer) (start line_2 meter_2) is is_2 = absurd (omega (arith, same_letters text (hear line answer) (start line_2 meter_2) is.spells is_2.spells))
one_line text (hear line answer) (ask line_2) is is_2 = absurd (omega (arith, same_letters text (hear line answer) (ask line_2) is.spells is_2.spells))
one_line text (hear line answer) (hear line_2 answer_2) is is_2 = one_heard text line answer line_2 answer_2 is is_2
one_line text (hear line answer) commit is is_2 = absurd (omega (arith, same_letters text (hear line answer) commit is.spells is_2.spells))
one_line text (hear line answer) (office line_2) is is_2 = absurd (omega (arith, same_letters text (hear line answer) (office line_2) is.spells is_2.spells))
one_line text (hear line answer) (poll line_2 meter_2) is is_2 = absurd (omega (arith, same_letters text (hear line answer) (poll line_2 meter_2) is.spells is_2.spells))
one_line text (hear line answer) (search budget_2) is is_2 = absurd (omega (arith, same_letters text (hear line answer) (search budget_2) is.spells is_2.spells))
one_line text commit nothing is is_2 = absurd (omega (arith, same_letters text commit nothing is.spells is_2.spells))
one_line text commit (at moment_2) is is_2 = absurd (omega (arith, same_letters text commit (at moment_2) is.spells is_2.spells))
one_line text commit (start line_2 meter_2) is is_2 = absurd (omega (arith, same_letters text commit (start line_2 meter_2) is.spells is_2.spells))
one_line text commit (ask line_2) is is_2 = absurd (omega (arith, same_letters text commit (ask line_2) is.spells is_2.spells))
one_line text commit (hear line_2 answer_2) is is_2 = absurd (omega (arith, same_letters text commit (hear line_2 answer_2) is.spells is_2.spells))
one_line text commit commit is is_2 = refl
one_line text commit (office line_2) is is_2 = absurd (omega (arith, same_letters text commit (office line_2) is.spells is_2.spells))
one_line text commit (poll line_2 meter_2) is is_2 = absurd (omega (arith, same_letters text commit (poll line_2 meter_2) is.spells is_2.spells))
one_line text commit (search budget_2) is is_2 = absurd (omega (arith, same_letters text commit (search budget_2) is.spells is_2.spells))
one_line text (office line) nothing is is_2 = absurd (omega (arith, same_letters text (office line) nothing is.spells is_2.spells))
one_line text (office line) (at moment_2) is is_2 = absurd (omega (arith, same_letters text (office line) (at moment_2) is.spells is_2.spells))
one_line text (office line) (start line_2 meter_2) is is_2 = absurd (omega (arith, same_letters text (office line) (start line_2 meter_2) is.spells is_2.spells))
one_line text (office line) (ask line_2) is is_2 = absurd (omega (arith, same_letters text (office line) (ask line_2) is.spells is_2.spells))
one_line text (office line) (hear line_2 answer_2) is is_2 = absurd (omega (arith, same_letters text (office line) (hear line_2 answer_2) is.spells is_2.spells))
one_line text (office line) commit is is_2 = absurd (omega (arith, same_letters text (office line) commit is.spells is_2.spells))
one_line text (office line) (office line_2) is is_2 = ap office (ap (drop 7) (sym is.spells ∙ is_2.spells))
one_line text (office line) (poll line_2 meter_2) is is_2 = absurd (omega (arith, same_letters text (office line) (poll line_2 meter_2) is.spells is_2.spells))
one_line text (office line) (search budget_2) is is_2 = absurd (omega (arith, same_letters text (office line) (search budget_2) is.spells is_2.spells))
one_line text (poll line meter) nothing is is_2 = absurd (omega (arith, same_letters text (poll line meter) nothing is.spells is_2.spells))
one_line text (poll line meter) (at moment_2) is is_2 = absurd (omega (arith, same_letters text (poll line meter) (at moment_2) is.spells is_2.spells))
one_line text (poll line meter) (start line_2 meter_2) is is_2 = absurd (omega (arith, same_letters text (poll line meter) (start line_2 meter_2) is.spells is_2.spells))
one_line text (poll line meter) (ask line_2) is is_2 = absurd (omega (arith, same_letters text (poll line meter) (ask line_2) is.spells is_2.spells))
one_line text (poll line meter) (hear line_2 answer_2) is is_2 = absurd (omega (arith, same_letters text (poll line meter) (hear line_2 answer_2) is.spells is_2.spells))
one_line text (poll line meter) commit is is_2 = absurd (omega (arith, same_letters text (poll line meter) commit is.spells is_2.spells))
one_line text (poll line meter) (office line_2) is is_2 = absurd (omega (arith, same_letters text (poll line meter) (office line_2) is.spells is_2.spells))
one_line text (poll line meter) (poll line_2 meter_2) is is_2 =
    let same = one_on_line line meter line_2 meter_2 is.has_bounds.0 is.has_bounds.1 is_2.has_bounds.0 is_2.has_bounds.1 (ap (drop 5) (sym is.spells ∙ is_2.spells)) in cc (same.lines, same.meters)
one_line text (poll line meter) (search budget_2) is is_2 = absurd (omega (arith, same_letters text (poll line meter) (search budget_2) is.spells is_2.spells))
one_line text (search budget) nothing is is_2 = absurd (omega (arith, same_letters text (search budget) nothing is.spells is_2.spells))
one_line text (search budget) (at moment_2) is is_2 = absurd (omega (arith, same_letters text (search budget) (at moment_2) is.spells is_2.spells))
one_line text (search budget) (start line_2 meter_2) is is_2 = absurd (omega (arith, same_letters text (search budget) (start line_2 meter_2) is.spells is_2.spells))
one_line text (search budget) (ask line_2) is is_2 = absurd (omega (arith, same_letters text (search budget) (ask line_2) is.spells is_2.spells))
one_line text (search budget) (hear line_2 answer_2) is is_2 = absurd (omega (arith, same_letters text (search budget) (hear line_2 answer_2) is.spells is_2.spells))
one_line text (search budget) commit is is_2 = absurd (omega (arith, same_letters text (search budget) commit is.spells is_2.spells))
one_line text (search budget) (office line_2) is is_2 = absurd (omega (arith, same_letters text (search budget) (office line_2) is.spells is_2.spells))
one_line text (search budget) (poll line_2 meter_2) is is_2 = absurd (omega (arith, same_letters text (search budget) (poll line_2 meter_2) is.spells is_2.spells))
one_line text (search budget) (search budget_2) is is_2 =
    ap search (one_number budget budget_2 (omega (arith, is.has_bounds)) (omega (arith, is_2.has_bounds)) (ap (drop 7) (sym is.spells ∙ is_2.spells)))
