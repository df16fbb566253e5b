-- Numbers as a language writes them (this product).
use Rattle.std.specs.Prelude.{ℕ, ◌==◌, ◌&&◌, ◌%◌, Bool, false, not, List, [], ◌∷◌, Option, None, Some, length}
use Rattle.std.specs.Prelude.{codes, if◌then◌else◌, nat_lt, option_and_then}
use Rattle.std.specs.Str.{bytes_eq}
use Rattle.mbdc_sheet.specs.Parts.{parts_of}
use Rattle.mbdc_sheet.specs.declared.written.Marks.{Marks}
use Rattle.mbdc_sheet.specs.Text.{is_quiet}

-- what is left of a text after another one, with which it begins
abbrev pub stripped : List ℕ → List ℕ → Option (List ℕ)
stripped [] text = Some text
stripped (b ∷ prefix) [] = None
stripped (b ∷ prefix) (c ∷ text) = if b == c then stripped prefix text else None

-- whether a mark stands after a digit: by how many digits follow it
abbrev pub has_mark : ℕ → ℕ → Bool
has_mark digit more = nat_lt 0 more && (more % 3 == 0) && not (digit == 45)

-- digits with a mark before each third one from the end
abbrev pub grouped : ℕ → List ℕ → List ℕ
grouped mark [] = []
grouped mark (digit ∷ digits) =
    if has_mark digit (length digits) then digit ∷ mark ∷ grouped mark digits else digit ∷ grouped mark digits

-- what is left of a text after the decimals of a number, if it has any
abbrev pub after_decimals : ℕ → List (List ℕ) → List ℕ → Option (List ℕ)
after_decimals mark [] text = Some text
after_decimals mark (decimals ∷ more) text = stripped (mark ∷ decimals) text

-- what is left of a text after a number, by its parts at the point: first its whole part, then its decimals
abbrev pub after_number : Marks → List (List ℕ) → List ℕ → Option (List ℕ)
after_number marks [] text = None
after_number marks (whole ∷ decimals) text =
    option_and_then (after_decimals marks.decimals decimals) (stripped (grouped marks.thousands whole) text)

-- whether nothing that is read as a number is left of a text
abbrev pub is_rest_quiet : Option (List ℕ) → Bool
is_rest_quiet None = false
is_rest_quiet (Some rest) = is_quiet rest

-- A TEXT SHOWS A NUMBER if it begins with the number as its language writes it, and is quiet after it; where there is
-- no number (`-`), if it is quiet.
abbrev pub shows : Marks → List ℕ → List ℕ → Bool
shows marks number text =
    if bytes_eq number (codes "-") then is_quiet text
    else is_rest_quiet (after_number marks (parts_of 46 number) text)
