-- The elements and attributes of a sheet (this product).
use Rattle.std.specs.Prelude.{ℕ, ◌==◌, ◌&&◌, ◌||◌, Bool, true, false, not, List}
use Rattle.std.specs.Prelude.{[], ◌∷◌, codes, if◌then◌else◌, nat_eq, drop, nat_le, length, ◌++◌}
use Rattle.std.specs.List.{ends_with, list_any, starts_with}
use Rattle.mbdc_sheet.specs.Parts.{is_one_of, parts_of}
use Rattle.mbdc_sheet.specs.Text.{is_date}

-- the elements that a sheet has: of text, and of a chart without paths and images
abbrev pub elements : List ℕ
elements =
    codes "!doctype html head meta title style body a header h1 h2 div dl dt dd main p table thead tbody tr th "
    ++ codes "td span ul li figure figcaption svg desc g rect line text code bdi address"

-- the attributes of these elements, and those of them that are read out or shown beside an element
abbrev pub attributes : List ℕ
attributes =
    codes "lang= charset= name= content= http-equiv= class= id= href= download= role= tabindex= scope= colspan= "
    ++ codes "aria-labelledby= aria-hidden= aria-label= data-user= data-label= data-use= data-month= data-line= "
    ++ codes "data-fixed= viewBox= width= height= x= y= x1= x2= y1= y2= fill= font-family= font-size= text-anchor= "
    ++ codes "stroke= stroke-width= stroke-dasharray="

abbrev pub read_out : List ℕ
read_out = codes "aria-label= data-label="

-- the first word of a tag, without a slash
abbrev pub unslashed : List ℕ → List ℕ
unslashed [] = []
unslashed (b ∷ name) = if b == 47 then name else b ∷ name

abbrev pub first_word : List (List ℕ) → List ℕ
first_word [] = []
first_word (word ∷ words) = word

abbrev pub name_of : List ℕ → List ℕ
name_of tag = unslashed (first_word (parts_of 32 tag))

abbrev pub after_name : List ℕ → List ℕ
after_name tag = drop (length (first_word (parts_of 32 tag))) tag

-- A FINE ATTRIBUTE is one of a sheet, and has no digit where it is read out, but in a date.
abbrev pub is_named_fine : List ℕ → List ℕ → Bool
is_named_fine name value =
    is_one_of attributes name && (not (is_one_of read_out name) || is_date value)

abbrev pub is_attribute : List ℕ → List ℕ → Bool
is_attribute [] value = false
is_attribute (b ∷ name) value = (b == 32) && is_named_fine name value

-- what a tag has after its element's name, between quotation marks: attributes and values by turns, and nothing more
abbrev pub are_attributes : List (List ℕ) → Bool
are_attributes [] = false
are_attributes (last ∷ []) = length last == 0
are_attributes (name ∷ value ∷ rest) = are_attributes rest && is_attribute name value

-- the most bytes of a tag, and of a style
abbrev pub longest_tag : ℕ
longest_tag = 1024

abbrev pub longest_style : ℕ
longest_style = 16384

-- A FINE TAG names an element of a sheet, with fine attributes.
abbrev pub is_tag : List ℕ → Bool
is_tag tag =
    nat_le (length tag) longest_tag && (is_one_of elements (name_of tag) && are_attributes (parts_of 34 (after_name tag)))

-- whether what stands before and after a parenthesis adds no text: a media query, or the label of a cell
abbrev pub is_call : List ℕ → List ℕ → Bool
is_call before after = ends_with nat_eq before (codes " ")
    || (ends_with nat_eq before (codes "attr") && starts_with nat_eq after (codes "data-label)"))

abbrev pub are_calls : List (List ℕ) → Bool
are_calls [] = true
are_calls (last ∷ []) = true
are_calls (before ∷ after ∷ rest) = is_call before after && are_calls (after ∷ rest)

abbrev pub has_quote : List ℕ → Bool
has_quote style = list_any (λ b. (b == 34) || ((b == 39) || (b == 92))) style

-- A PLAIN STYLE adds no text: it has no quotation mark, no backslash, and no other call.
abbrev pub is_plain : List ℕ → Bool
is_plain style = nat_le (length style) longest_style
    && (not (has_quote style) && are_calls (parts_of 40 style))
