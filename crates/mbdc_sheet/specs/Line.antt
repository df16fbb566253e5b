-- What a line of an audit file says of a user's numbers (this product). COMMANDS has the lines.
use Rattle.std.specs.Prelude.{ℕ, ◌+◌, ◌-◌, ◌*◌, ◌==◌, ◌&&◌, ◌||◌, Bool, false, not, List}
use Rattle.std.specs.Prelude.{[], ◌∷◌, Option, None, Some, codes}
use Rattle.std.specs.Prelude.{if◌then◌else◌, nat_eq, nat_lt, slice_get}
use Rattle.std.specs.Char.{is_ascii_digit}
use Rattle.std.specs.List.{starts_with}
use Rattle.std.specs.Str.{bytes_eq}
use Rattle.mbdc_sheet.specs.Parts.{is_one_of, part_at}

-- a field of a line, by its place from 0
abbrev pub field_at : List ℕ → ℕ → Option (List ℕ)
field_at line n = part_at 44 line n

-- whether a field is this text
abbrev pub is_text : List ℕ → Option (List ℕ) → Bool
is_text text None = false
is_text text (Some field) = bytes_eq field text

-- where a line of this word has its number, and its user; 0 is no user
abbrev pub places_of : List ℕ → Option (ℕ × ℕ)
places_of word =
    if is_one_of (codes "of_user mean cost") word then Some (5, 2)
    else if is_one_of (codes "weather") word then Some (5, 3)
    else if is_one_of (codes "change") word then Some (6, 3)
    else if is_one_of (codes "carbon") word then Some (4, 2)
    else if is_one_of (codes "shown") word then Some (5, 0)
    else if is_one_of (codes "price average") word then Some (4, 0)
    else if is_one_of (codes "value factor co2 degrees") word then Some (3, 0)
    else None

abbrev pub places_in : Option (List ℕ) → Option (ℕ × ℕ)
places_in None = None
places_in (Some word) = places_of word

-- whether a line with such places is the user's, or nobody's
abbrev pub is_open_to : List ℕ → List ℕ → ℕ → Bool
is_open_to user line place = (place == 0) || is_text user (field_at line place)

-- the number of a line, if it has one that the user may see
abbrev pub number_by : List ℕ → List ℕ → Option (ℕ × ℕ) → Option (List ℕ)
number_by user line None = None
number_by user line (Some places) = if is_open_to user line places.1 then field_at line places.0 else None

abbrev pub number_in : List ℕ → List ℕ → Option (List ℕ)
number_in user line = number_by user line (places_in (field_at line 0))

-- whether a line has a number of the user that a page has to show
abbrev pub is_wanted_by : List ℕ → List ℕ → Option (ℕ × ℕ) → Bool
is_wanted_by user line None = false
is_wanted_by user line (Some places) = not (places.1 == 0)
    && (is_text user (field_at line places.1) && not (is_text (codes "-") (field_at line places.0)))

abbrev pub is_wanted : List ℕ → List ℕ → Bool
is_wanted user line = is_wanted_by user line (places_in (field_at line 0))

-- the number that digits go on from n, below 10^8
abbrev pub digits_on : ℕ → List ℕ → Option ℕ
digits_on n [] = Some n
digits_on n (b ∷ text) =
    if is_ascii_digit b && nat_lt (10 * n + (b - 48)) 100000000 then digits_on (10 * n + (b - 48)) text else None

-- the line of a file with this number, from 1
abbrev pub line_at : List (List ℕ) → Option ℕ → Option (List ℕ)
line_at lines None = None
line_at lines (Some n) = if n == 0 then None else slice_get lines (n - 1)

-- whether a meter of the file has the identity
abbrev pub is_meter : List ℕ → List ℕ → Bool
is_meter identity line = is_text (codes "meter") (field_at line 0) && is_text identity (field_at line 2)

-- whether a field begins so
abbrev pub begins : List ℕ → Option (List ℕ) → Bool
begins text None = false
begins text (Some field) = starts_with nat_eq field text

-- whether a span of the file ends in the month
abbrev pub is_span : List ℕ → List ℕ → Bool
is_span month line = is_text (codes "span") (field_at line 0) && begins month (field_at line 4)
