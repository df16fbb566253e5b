-- When a tenant's page shows its audit file's numbers (this product).
use Rattle.std.specs.Prelude.{ℕ, ◌+◌, ◌==◌, ◌&&◌, ◌||◌, Bool, true, false, not, List}
use Rattle.std.specs.Prelude.{[], ◌∷◌, Option, None, Some, codes}
use Rattle.std.specs.Prelude.{if◌then◌else◌, is_none, length, nat_eq, nat_le}
use Rattle.std.specs.Char.{is_ascii_digit}
use Rattle.std.specs.List.{ends_with, list_all, list_any, starts_with}
use Rattle.std.specs.Option.{option_or}
use Rattle.std.specs.Str.{bytes_eq}
use Rattle.mbdc_sheet.specs.declared.flaw.Flaw.{Flaw}
use Rattle.mbdc_sheet.specs.declared.flaw.Flaw.TheVariants as flaw
use Rattle.mbdc_sheet.specs.declared.written.Marks.{Marks}
use Rattle.mbdc_sheet.specs.Parts.{Piece, part_at, parts_of, piece_of}
use Rattle.mbdc_sheet.specs.Text.{has_shape, is_date, is_quiet}
use Rattle.mbdc_sheet.specs.Tag.{is_plain, is_tag, name_of}
use Rattle.mbdc_sheet.specs.Written.{shows, stripped}
use Rattle.mbdc_sheet.specs.Line.{digits_on, field_at, is_meter, is_span, is_text, is_wanted, line_at, number_in}

-- whether a number is this one
abbrev pub is_of : ℕ → Option ℕ → Bool
is_of n None = false
is_of n (Some m) = m == n

-- a part of a tag between its quotation marks: the name of an attribute, or a value
abbrev pub quoted : List ℕ → ℕ → Option (List ℕ)
quoted tag n = part_at 34 tag n

abbrev pub ends : List ℕ → Option (List ℕ) → Bool
ends text None = false
ends text (Some part) = ends_with nat_eq part text

-- the value of a tag's first attribute, if it has this name
abbrev pub named : List ℕ → List ℕ → Option (List ℕ)
named name tag = if ends name (quoted tag 0) then quoted tag 1 else None

-- the number that a text is
abbrev pub number_of : Option (List ℕ) → Option ℕ
number_of None = None
number_of (Some text) = digits_on 0 text

-- THE LINE THAT AN ELEMENT NAMES, by its number in the file
abbrev pub line_of : List ℕ → Option ℕ
line_of tag = number_of (named (codes " data-line=") tag)

-- What a page is compared with: the marks of its language, whose it is, of which month, and the lines of its file
pub record Known : Type 0 where
  pub marks : Marks
  pub user : List ℕ
  pub label : List ℕ
  pub lines : List (List ℕ)

-- what is wrong with an element that names a line, by that line and by its number
abbrev pub flaw_by : Marks → List ℕ → Option (List ℕ) → Option Flaw
flaw_by marks text None = Some flaw.Line
flaw_by marks text (Some number) = if shows marks number text then None else Some flaw.Number

abbrev pub seen : List ℕ → Option (List ℕ) → Option (List ℕ)
seen user None = None
seen user (Some line) = number_in user line

abbrev pub flaw_in_number : Known → List ℕ → List ℕ → Option Flaw
flaw_in_number k line text = flaw_by k.marks text (seen k.user (line_at k.lines (digits_on 0 line)))

-- A FIXED TEXT, by its kind: a date, the identity of a meter of the file, the hash of a file, what people wrote, or a
-- number of a month that the file doesn't have
abbrev pub are_hex : List ℕ → Bool
are_hex text = list_all (λ b. is_ascii_digit b || (nat_le 97 b && nat_le b 102)) text

abbrev pub is_hash : List ℕ → Bool
is_hash text = (length text == 64) && are_hex text

abbrev pub is_number : List ℕ → Bool
is_number text = list_all (λ b. is_ascii_digit b || ((b == 44) || ((b == 46) || (b == 45)))) text

abbrev pub is_fixed : Known → List ℕ → List ℕ → List ℕ → Bool
is_fixed k kind tag text =
    if bytes_eq kind (codes "date") then is_date text
    else if bytes_eq kind (codes "identity") then list_any (is_meter text) k.lines
    else if bytes_eq kind (codes "hash") then is_hash text
    else if bytes_eq kind (codes "contact") then bytes_eq (name_of tag) (codes "address")
    else has_shape (codes "20##-##") kind && (not (list_any (is_span kind) k.lines) && is_number text)

-- whether the page's main part says whose it is, and of which month
abbrev pub is_main : Known → List ℕ → Bool
is_main k tag = is_text (codes "main data-user=") (quoted tag 0) && (is_text k.user (quoted tag 1)
    && (is_text (codes " data-label=") (quoted tag 2) && is_text k.label (quoted tag 3)))

abbrev pub unless : Bool → Flaw → Option Flaw
unless holds f = if holds then None else Some f

-- what is wrong with a text, by the line that its element names, or by its kind
abbrev pub flaw_in_text : Known → Piece → Option (List ℕ) → Option (List ℕ) → Option Flaw
flaw_in_text k p (Some line) kind = flaw_in_number k line p.text
flaw_in_text k p None (Some kind) = unless (is_fixed k kind p.tag p.text) flaw.Fixed
flaw_in_text k p None None = unless (is_quiet p.text) flaw.Digits

-- WHAT IS WRONG WITH A PIECE
abbrev pub flaw_of : Known → Piece → Option Flaw
flaw_of k p =
    if not (is_tag p.tag) then Some flaw.Element
    else if bytes_eq p.tag (codes "style") then unless (is_plain p.text) flaw.Digits
    else if starts_with nat_eq p.tag (codes "main") && not (is_main k p.tag) then Some flaw.Main
    else flaw_in_text k p (named (codes " data-line=") p.tag) (named (codes " data-fixed=") p.tag)

-- A FINE PART of a page is a piece with nothing wrong.
abbrev pub is_fine : Known → List ℕ → Bool
is_fine k part = is_none (flaw_of k (piece_of part))

-- whether a part of the page names the line
abbrev pub is_line : ℕ → List ℕ → Bool
is_line n part = is_of n (line_of (piece_of part).tag)

-- A NUMBER IS SHOWN if a part names its line: of all lines from n on that a page has to show.
abbrev pub are_shown : List ℕ → List (List ℕ) → ℕ → List (List ℕ) → Bool
are_shown user parts n [] = true
are_shown user parts n (line ∷ lines) =
    (not (is_wanted user line) || list_any (is_line n) parts) && are_shown user parts (n + 1) lines

-- how a page begins in German and in English, before the name of its second element
abbrev pub german : List ℕ
german = codes "<!doctype html>\n<html lang=\"de\">\n<"

abbrev pub english : List ℕ
english = codes "<!doctype html>\n<html lang=\"en\">\n<"

-- the user whom the first main part names
abbrev pub user_in : List ℕ → Option (List ℕ)
user_in tag = if is_text (codes "main data-user=") (quoted tag 0) then quoted tag 1 else None

abbrev pub first_user : List (List ℕ) → Option (List ℕ)
first_user [] = None
first_user (part ∷ parts) = option_or (user_in (piece_of part).tag) (first_user parts)

-- the month of a file: the third field of its first line
abbrev pub label_in : Option (List ℕ) → Option (List ℕ)
label_in None = None
label_in (Some line) = field_at line 2

-- by the user whom the page names, and the month of the file: each part of the page is fine, and each number of the
-- user is shown
abbrev pub is_sheet_of : Marks → List (List ℕ) → List (List ℕ) → Option (List ℕ) → Option (List ℕ) → Bool
is_sheet_of marks parts lines None label = false
is_sheet_of marks parts lines (Some user) None = false
is_sheet_of marks parts lines (Some user) (Some label) =
    list_all (is_fine (record { marks = marks; user = user; label = label; lines = lines })) parts
    && are_shown user parts 1 lines

abbrev pub is_sheet_in : Marks → List (List ℕ) → List (List ℕ) → Bool
is_sheet_in marks parts lines = is_sheet_of marks parts lines (first_user parts) (label_in (line_at lines (Some 1)))

-- the marks of a language: between thousands, before decimals
abbrev pub german_marks : Marks
german_marks = record { thousands = 46; decimals = 44 }

abbrev pub english_marks : Marks
english_marks = record { thousands = 44; decimals = 46 }

abbrev pub is_sheet_after : List (List ℕ) → Option (List ℕ) → Option (List ℕ) → Bool
is_sheet_after lines (Some rest) other = is_sheet_in german_marks (parts_of 60 rest) lines
is_sheet_after lines None (Some rest) = is_sheet_in english_marks (parts_of 60 rest) lines
is_sheet_after lines None None = false

-- A PAGE SHOWS ITS FILE'S NUMBERS, and no others, by the marks of the language that it begins with.
abbrev pub is_sheet : List ℕ → List (List ℕ) → Bool
is_sheet page lines = is_sheet_after lines (stripped german page) (stripped english page)
