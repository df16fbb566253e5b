-- Texts without a digit, and dates (this product). A text is UTF-8.
use Rattle.std.specs.Prelude.{ℕ, ◌==◌, ◌&&◌, ◌||◌, Bool, false, not, nat_le, List, [], ◌∷◌, Option, None, Some, codes}
use Rattle.std.specs.Prelude.{fold, if◌then◌else◌, is_some, length}
use Rattle.std.specs.Char.{is_ascii_digit}
use Rattle.std.specs.List.{list_all, list_any}
use Rattle.mbdc_sheet.specs.Parts.{parts_of}

-- A byte, by the one before, that may be of a digit or a number: 0 to 9; of C2 xx the superscript 1 and the fractions;
-- of E2 xx all but punctuation and currencies, and of these the digits below the line; other scripts than Latin, Greek,
-- Cyrillic. The superscripts 2 and 3 are of units.
abbrev pub is_numeral : ℕ → ℕ → Bool
is_numeral before b =
    is_ascii_digit b
    || ((before == 194) && ((b == 185) || (nat_le 188 b && nat_le b 190)))
    || ((before == 226) && not ((b == 128) || (b == 130)))
    || ((before == 130) && (nat_le 128 b && nat_le b 137))
    || (nat_le 210 b && not (b == 226))

-- a text without a numeral goes on from the byte before
abbrev pub quiet_on : Option ℕ → ℕ → Option ℕ
quiet_on None b = None
quiet_on (Some before) b = if is_numeral before b then None else Some b

-- A QUIET text has no digit, and nothing that is read as a number.
abbrev pub is_quiet : List ℕ → Bool
is_quiet text = is_some (fold quiet_on (Some 0) text)

-- whether a text has the shape: `#` is a digit, anything else itself
abbrev pub has_shape : List ℕ → List ℕ → Bool
has_shape [] text = length text == 0
has_shape (mark ∷ shape) [] = false
has_shape (mark ∷ shape) (b ∷ text) = (if mark == 35 then is_ascii_digit b else b == mark) && has_shape shape text

-- whether a word has one of these shapes, with spaces between them
abbrev pub is_like : List ℕ → List ℕ → Bool
is_like shapes word = list_any (λ shape. has_shape shape word) (parts_of 32 shapes)

-- the words of a date that have a year, and its others
abbrev pub is_year : List ℕ → Bool
is_year word = is_like (codes "20## 20##, 20##-## ##.##.20## ##.##.20##,") word

abbrev pub is_day : List ℕ → Bool
is_day word = is_like (codes "##:## ##. #. ## #") word

-- A DATE is a short text of words, one with its year, others days and times, or quiet; or a quiet text, as a month.
abbrev pub longest_date : ℕ
longest_date = 64

abbrev pub is_of_date : List ℕ → Bool
is_of_date word = is_year word || is_day word || is_quiet word

abbrev pub is_date : List ℕ → Bool
is_date text =
    is_quiet text || (nat_le (length text) longest_date && list_any is_year (parts_of 32 text) && list_all is_of_date (parts_of 32 text))
