-- Each line `READING ..` that is shown is of one of the state's readings.
use Rattle.std.proofs.Common.{◌≡◌, ◌<◌, ◌≤◌, ◌+◌, ◌/◌, ◌%◌, ℕ, Bool, true, false, List, [], ◌∷◌, ◌++◌, codes, map, length, get_or, drop, All, refl, ap, sym, subst, ◌∙◌, arith, append_assoc}
use Rattle.std.specs.Prelude.{◌==◌, nat_le, Contains, flat_map}
use Rattle.std.specs.List.{list_all, join_with_byte, slice_split}
use Rattle.std.specs.Map.{values_of}
use Rattle.std.specs.FinMap.{entries, from_entries, entries-insert, len-empty, len-entries, empty}
use Rattle.std.specs.FinMap.Entries.{by_order, put}
use Rattle.std.specs.Cmp.{IsTotalOrder}
use Rattle.std.specs.declared.cmp.Ordering.{Ordering}
use Rattle.std.specs.declared.cmp.Ordering.TheVariants.{Less, Equal, Greater}
use Rattle.std.specs.Fmt.{decimal}
use Rattle.std.proofs.lemmas.Bool.{and_parts, and_from}
use Rattle.std.proofs.lemmas.Bool.Decides.{nat_tests}
use Rattle.std.proofs.lemmas.List.Elements.{All-nil, All-cons, All-head, All-tail, All-take, All-filter, All-append, All-map, All-contains_itself}
use Rattle.std.proofs.lemmas.List.{length-map}
use Rattle.std.proofs.lemmas.List.Folds.{list_all-append}
use Rattle.std.proofs.lemmas.List.Splits.{slice_split_at}
use Rattle.dc_address.specs.declared.identity.Identity.{Identity}
use Rattle.dc_address.specs.Text.{text_of}
use Rattle.dc_units.specs.Date.{Day}
use Rattle.dc_meters.specs.Orders.{readings_from}
use Rattle.dc_meters.specs.Points.{points_of}
use Rattle.dc_meters.specs.Due.{due_value}
use Rattle.dc_meters.proofs.PlaceOrder.{places_total}
use Rattle.dc_report.specs.Ascending.{at_key}
use Rattle.dc_report.specs.declared.row.Row.{Row}
use Rattle.dc_report.specs.DueTable.{is_last, last_readings, reading_place, row_of, reading_rows, due_rows, due_readings, due_header, due_fields, due_line}
use Rattle.dc_report.specs.TableLine.{line_text}
use Rattle.dc_report.proofs.PlainFields.{IsAfter, decimal_after, value_after, unit_after, meter_after, address_after, flat_bytes_after}
use Rattle.mbdc_change.specs.Fields.{address_word}
use Rattle.mbdc_change.specs.Flat.{IsFlat}
use Rattle.mbdc_change.specs.State.{State, MeterRow, PartRow, ReadingRow}
use Rattle.mbdc_io.specs.Hex.{upper_hex, upper_digit}
use Rattle.mbdc_io.specs.Words.{number_word}
use Rattle.dc_upload.specs.Window.{part_line, part_lines, owner_words, reading_line, reading_lines, window}
use Rattle.dc_upload.specs.Register.{place_words, meter_line}
use Rattle.dc_upload.specs.Reply.{end_line, window_text, register_text, report_text, shown_text}
use Rattle.dc_upload.specs.declared.line.OfficeLine.{OfficeLine}
use Rattle.dc_upload.specs.declared.line.OfficeLine.TheVariants.{Command, Window, Register, Report}

-- ---- states with valid flats

-- a meter's flat is a flat's name
abbrev pub HasFlat : MeterRow → Type 0
HasFlat row = IsFlat row.flat

-- a reading's flat is a flat's name
abbrev pub IsOfFlat : ReadingRow → Type 0
IsOfFlat r = IsFlat r.flat

-- so is each flat in the state
pub record AreFlats (s : State) : Type 0 where
  pub meters : All HasFlat (values_of s.meters)
  pub readings : All IsOfFlat s.readings

-- ---- printed bytes

-- bytes from this one on: from the space on, there is no line feed; from the comma on, no space
abbrev From : ℕ → List ℕ → Type 0
From least text = list_all (nat_le least) text ≡ true

joined : (least : ℕ) (a b : List ℕ) → From least a → From least b → From least (a ++ b)
joined least a b first then = list_all-append (nat_le least) a b ∙ and_from _ _ first then

lower : (least high b : ℕ) → least ≤ high → nat_le high b ≡ true → nat_le least b ≡ true
lower least high b le is = grind (arith, nat_tests)

weaker : (least high : ℕ) (text : List ℕ) → least ≤ high → From high text → From least text
weaker least high [] le all = refl
weaker least high (b ∷ text) le all =
    let parts = and_parts (nat_le high b) (list_all (nat_le high) text) all in
    and_from _ _ (lower least high b le parts.0) (weaker least high text le parts.1)

-- bytes after the comma are printed
printed : (text : List ℕ) → IsAfter text → From 32 text
printed text all = weaker 32 45 text (omega arith) all

-- with a space between them
spaced : (a b : List ℕ) → From 32 a → From 32 b → From 32 (a ++ 32 ∷ b)
spaced a b first then = joined 32 a (32 ∷ b) first then

number : (n : ℕ) → From 32 (decimal n)
number n = printed (decimal n) (decimal_after n)

digit_printed : (n : ℕ) → nat_le 32 (upper_digit n) ≡ true
digit_printed n = grind (arith, nat_tests)

hex_printed : (bytes : List ℕ) → From 32 (upper_hex bytes)
unfolding upper_hex
hex_printed [] = refl
hex_printed (b ∷ bytes) = and_from _ _ (digit_printed (b / 16)) (and_from _ _ (digit_printed (b % 16)) (hex_printed bytes))

-- ---- the lines of a text

abbrev lines : List ℕ → List (List ℕ)
lines text = slice_split (λ b. b == 10) text

no_feed : (b : ℕ) → nat_le 32 b ≡ true → (b == 10) ≡ false
no_feed b is = grind (arith, nat_tests)

no_feeds : (line : List ℕ) → From 32 line → All (λ b. (b == 10) ≡ false) line
no_feeds [] is = All-nil (λ b. (b == 10) ≡ false)
no_feeds (b ∷ line) is =
    let parts = and_parts (nat_le 32 b) (list_all (nat_le 32) line) is in
    All-cons (λ x. (x == 10) ≡ false) b line (no_feed b parts.0) (no_feeds line parts.1)

-- the line is of one of the state's readings, if it begins as such a line does
abbrev pub IsOwn : State → List ℕ → Type 0
IsOwn s line = (words : List ℕ) → line ≡ codes "READING " ++ words
    → (r : ReadingRow) × Contains s.readings r × (words ≡ join_with_byte 32 (decimal r.serial ∷ text_of r.meter ∷ r.flat ∷ decimal (length r.parts) ∷ []))

-- and so is each line of the text
abbrev AreOwn : State → List ℕ → Type 0
AreOwn s text = All (IsOwn s) (lines text)

abbrev first_of : List ℕ → ℕ
first_of text = get_or text 0 0

-- a line that begins otherwise
other_line : (s : State) (line : List ℕ) → first_of line < 82 → IsOwn s line
other_line s line other words same = absurd (omega (arith, other, ap first_of same))

-- a line without a space
solid_line : (s : State) (line : List ℕ) → From 44 line → IsOwn s line
solid_line s line solid words same = absurd (cc (subst (From 44) same solid))

one_line : (s : State) (line rest : List ℕ) → From 32 line → IsOwn s line → AreOwn s rest → AreOwn s (line ++ 10 ∷ rest)
one_line s line rest printed own all = subst (All (IsOwn s)) (sym (slice_split_at (λ b. b == 10) line 10 rest (no_feeds line printed) refl)) (All-cons (IsOwn s) line (lines rest) own all)

-- ---- a window

abbrev part_words : ℕ → PartRow → List ℕ
part_words place part = decimal place ++ number_word part.moment ++ codes " " ++ upper_hex part.body

abbrev reading_words : ReadingRow → List ℕ
reading_words r = decimal r.serial ++ 32 ∷ (text_of r.meter ++ 32 ∷ (r.flat ++ 32 ∷ decimal (length r.parts)))

part_line_is : (place : ℕ) (part : PartRow) (rest : List ℕ) → part_line place part ++ rest ≡ (codes "PART " ++ part_words place part) ++ 10 ∷ rest
unfolding part_line
part_line_is place part rest = append_assoc (codes "PART " ++ part_words place part) (10 ∷ []) rest

reading_line_is : (r : ReadingRow) (rest : List ℕ) → reading_line r ++ rest ≡ (codes "READING " ++ reading_words r) ++ 10 ∷ rest
unfolding reading_line owner_words
reading_line_is r rest =
    let meter = text_of r.meter in
    let count = decimal (length r.parts) in
    let line : List ℕ → List ℕ = λ owner. codes "READING " ++ (decimal r.serial ++ 32 ∷ owner) in
    append_assoc (line (meter ++ codes " " ++ r.flat ++ number_word (length r.parts))) (10 ∷ []) rest
    ∙ ap (λ (owner : List ℕ). line owner ++ 10 ∷ rest) (append_assoc (meter ++ codes " ") r.flat (32 ∷ count) ∙ append_assoc meter (codes " ") (r.flat ++ 32 ∷ count))

part_lines_own : (s : State) (place : ℕ) (parts : List PartRow) (rest : List ℕ) → AreOwn s rest → AreOwn s (part_lines place parts ++ rest)
part_lines_own s place [] rest own = own
part_lines_own s place (part ∷ parts) rest own =
    let line = codes "PART " ++ part_words place part in
    let is_printed : From 32 line = spaced (codes "PART") (part_words place part) refl
    (joined 32 (decimal place ++ number_word part.moment ++ codes " ") (upper_hex part.body)
    (joined 32 (decimal place ++ number_word part.moment) (codes " ") (spaced (decimal place) (decimal part.moment) (number place) (number part.moment)) refl) (hex_printed part.body)) in
    let is = append_assoc (part_line place part) (part_lines (place + 1) parts) rest ∙ part_line_is place part (part_lines (place + 1) parts ++ rest) in
    subst (AreOwn s) (sym is) (one_line s line (part_lines (place + 1) parts ++ rest) is_printed (other_line s line (omega arith)) (part_lines_own s (place + 1) parts rest own))

reading_own : (s : State) (r : ReadingRow) → Contains s.readings r → IsOwn s (codes "READING " ++ reading_words r)
reading_own s r contains words same = (r, contains, sym (ap (λ (l : List ℕ). drop 8 l) same))

reading_lines_own : (s : State) (r : ReadingRow) (rest : List ℕ) → IsOfFlat r → Contains s.readings r → AreOwn s rest → AreOwn s (reading_lines r ++ rest)
unfolding reading_lines
reading_lines_own s r rest flat contains own =
    let line = codes "READING " ++ reading_words r in
    let more = part_lines 1 r.parts ++ rest in
    let count = decimal (length r.parts) in
    let is_printed : From 32 line = spaced (codes "READING") (reading_words r) refl
    (spaced (decimal r.serial) (text_of r.meter ++ 32 ∷ (r.flat ++ 32 ∷ count)) (number r.serial)
    (spaced (text_of r.meter) (r.flat ++ 32 ∷ count) (printed (text_of r.meter) (meter_after r.meter)) (spaced r.flat count (printed r.flat (flat_bytes_after r.flat flat.bytes_are)) (number (length r.parts))))) in
    let is = append_assoc (reading_line r) (part_lines 1 r.parts) rest ∙ reading_line_is r more in
    subst (AreOwn s) (sym is) (one_line s line more is_printed (reading_own s r contains) (part_lines_own s 1 r.parts rest own))

end_own : (s : State) (count : ℕ) → AreOwn s (end_line count)
unfolding end_line
end_own s count =
    let line = codes "END " ++ decimal count in
    let last : AreOwn s [] = All-cons (IsOwn s) [] [] (other_line s [] (omega arith)) (All-nil (IsOwn s)) in
    one_line s line [] (spaced (codes "END") (decimal count) refl (number count)) (other_line s line (omega arith)) last

readings_own : (s : State) (rs : List ReadingRow) (rest : List ℕ) → All IsOfFlat rs → All (Contains s.readings) rs → AreOwn s rest → AreOwn s (flat_map reading_lines rs ++ rest)
readings_own s [] rest flats contains own = own
readings_own s (r ∷ rs) rest flats contains own =
    subst (AreOwn s) (sym (append_assoc (reading_lines r) (flat_map reading_lines rs) rest))
    (reading_lines_own s r (flat_map reading_lines rs ++ rest) (All-head IsOfFlat r rs flats) (All-head (Contains s.readings) r rs contains)
    (readings_own s rs rest (All-tail IsOfFlat r rs flats) (All-tail (Contains s.readings) r rs contains) own))

window_own : (s : State) (from count : ℕ) → AreFlats s → AreOwn s (window_text from count s)
unfolding window_text
window_own s from count are =
    let later : ReadingRow → Bool = λ (r : ReadingRow). nat_le from r.serial in
    let among : (P : ReadingRow → Type 0) → All P s.readings → All P (window from count s) = λ P all. All-take P count (readings_from from s.readings) (All-filter later P s.readings all) in
    readings_own s (window from count s) _ (among IsOfFlat are.readings) (among (Contains s.readings) (All-contains_itself s.readings)) (end_own s _)

-- ---- the register

meter_line_own : (s : State) (meter : Identity) (row : MeterRow) (rest : List ℕ) → HasFlat row → AreOwn s rest → AreOwn s (meter_line (meter, row) ++ rest)
unfolding meter_line place_words
meter_line_own s meter row rest flat own =
    let place : List ℕ = codes " " ++ text_of meter ++ number_word row.line ++ codes " " ++ address_word row.address in
    let line : List ℕ = codes "METER" ++ place ++ codes " " ++ row.flat ++ number_word (length row.parts) in
    let place_is : From 32 place = joined 32 (codes " " ++ text_of meter ++ number_word row.line ++ codes " ") (address_word row.address)
    (joined 32 (codes " " ++ text_of meter ++ number_word row.line) (codes " ")
    (spaced (codes " " ++ text_of meter) (decimal row.line) (printed (text_of meter) (meter_after meter)) (number row.line)) refl) (printed (address_word row.address) (address_after row.address)) in
    let is_printed : From 32 line = spaced (codes "METER" ++ place ++ codes " " ++ row.flat) (decimal (length row.parts))
    (joined 32 (codes "METER" ++ place ++ codes " ") row.flat (joined 32 (codes "METER" ++ place) (codes " ") (joined 32 (codes "METER") place refl place_is) refl)
    (printed row.flat (flat_bytes_after row.flat flat.bytes_are))) (number (length row.parts)) in
    subst (AreOwn s) (sym (append_assoc line (10 ∷ []) rest)) (one_line s line rest is_printed (other_line s line (omega arith)) own)

meters_own : (s : State) (meters : List (Identity × MeterRow)) (rest : List ℕ) → All HasFlat (values_of meters) → AreOwn s rest → AreOwn s (flat_map meter_line meters ++ rest)
meters_own s [] rest flats own = own
meters_own s (e ∷ meters) rest flats own =
    subst (AreOwn s) (sym (append_assoc (meter_line e) (flat_map meter_line meters) rest))
    (meter_line_own s e.0 e.1 (flat_map meter_line meters ++ rest) (All-head HasFlat e.1 (values_of meters) flats) (meters_own s meters rest (All-tail HasFlat e.1 (values_of meters) flats) own))

register_own : (s : State) → AreFlats s → AreOwn s (register_text s)
unfolding register_text
register_own s are = meters_own s s.meters (end_line (length s.meters)) are.meters (end_own s (length s.meters))

-- ---- the due-date table

-- what holds of each item holds of each in the order of their keys
put_all : {K X : Type 0} (R : K → K → Ordering) (P : X → Type 0) (k : K) (v : X) (es : List (K × X)) → P v → All P (values_of es) → All P (values_of (put R k v es))
put_all R P k v [] is all = All-cons P v [] is all
put_all {K} {X} R P k v (e ∷ es) is all = at (All-tail P e.1 (values_of es) all) (put_all R P k v es is (All-tail P e.1 (values_of es) all)) (R k e.0)
  where
    at : All P (values_of es) → All P (values_of (put R k v es)) → (o : Ordering) → All P (values_of (by_order o ((k, v) ∷ e ∷ es) ((e.0, v) ∷ es) (e ∷ put R k v es)))
    at back more Less = All-cons P v (values_of (e ∷ es)) is all
    at back more Equal = All-cons P v (values_of es) is back
    at back more Greater = All-cons P e.1 (values_of (put R k v es)) (All-head P e.1 (values_of es) all) more

entries_all : {K X : Type 0} {R : K → K → Ordering} (P : X → Type 0) (total : IsTotalOrder R) (es : List (K × X)) → All P (values_of es) → All P (values_of (entries (from_entries {R = R} es)))
entries_all {K} {X} {R} P total [] all = λ k d low. absurd (omega (arith, low, len-empty R X, len-entries (empty {X = X} {R = R}), length-map (entries (empty {X = X} {R = R})) (λ e. e.1)))
entries_all {K} {X} {R} P total (e ∷ es) all =
    subst (λ (l : List (K × X)). All P (values_of l)) (sym (entries-insert total (from_entries es) e.0 e.1))
    (put_all R P e.0 e.1 (entries (from_entries es)) (All-head P e.1 (values_of es) all) (entries_all P total es (All-tail P e.1 (values_of es) all)))

due_flats : (date : Day) (readings : List ReadingRow) → All IsOfFlat readings → All IsOfFlat (due_readings date readings)
due_flats date readings all =
    let last = last_readings date readings in
    let of_last = All-filter (is_last date readings) IsOfFlat readings all in
    entries_all IsOfFlat places_total (map (at_key reading_place) last) (All-map IsOfFlat (λ e. e.1) (map (at_key reading_place) last) (All-map (λ e. IsOfFlat e.1) (at_key reading_place) last of_last))

abbrev AreAfter : List (List ℕ) → Type 0
AreAfter [] = Unit {0}
AreAfter (field ∷ fields) = IsAfter field × AreAfter fields

-- fields without a space make a line without one
fields_solid : (fields : List (List ℕ)) → AreAfter fields → From 44 (join_with_byte 44 fields)
fields_solid [] all = refl
fields_solid (field ∷ []) all = weaker 44 45 field (omega arith) all.0
fields_solid (field ∷ next ∷ fields) all = joined 44 field (44 ∷ join_with_byte 44 (next ∷ fields)) (weaker 44 45 field (omega arith) all.0) (fields_solid (next ∷ fields) all.1)

table_line_own : (s : State) (fields : List (List ℕ)) (rest : List ℕ) → From 44 (join_with_byte 44 fields) → AreOwn s rest → AreOwn s (line_text fields ++ rest)
table_line_own s fields rest solid own =
    let line = join_with_byte 44 fields in
    subst (AreOwn s) (sym (append_assoc line (10 ∷ []) rest)) (one_line s line rest (weaker 32 44 line (omega arith) solid) (solid_line s line solid) own)

abbrev IsFlatRow : Row → Type 0
IsFlatRow row = IsFlat row.flat

row_solid : (row : Row) → IsFlatRow row → From 44 (join_with_byte 44 (due_fields row))
row_solid row flat = fields_solid (due_fields row) (
  flat_bytes_after row.flat flat.bytes_are,
  (
    meter_after row.meter,
    (
      decimal_after row.serial,
      (
        decimal_after row.point.storage,
        (decimal_after row.point.function, (decimal_after row.point.tariff, (decimal_after row.point.subunit, (value_after row.point.value, (unit_after row.point.quantity, tt))))),
      ),
    ),
  ),
)

rows_own : (s : State) (rows : List Row) (rest : List ℕ) → All IsFlatRow rows → AreOwn s rest → AreOwn s (flat_map due_line rows ++ rest)
rows_own s [] rest flats own = own
rows_own s (row ∷ rows) rest flats own =
    subst (AreOwn s) (sym (append_assoc (due_line row) (flat_map due_line rows) rest))
    (table_line_own s (due_fields row) (flat_map due_line rows ++ rest) (row_solid row (All-head IsFlatRow row rows flats)) (rows_own s rows rest (All-tail IsFlatRow row rows flats) own))

row_flats : (date : Day) (rs : List ReadingRow) → All IsOfFlat rs → All IsFlatRow (flat_map (reading_rows date) rs)
row_flats date [] flats = All-nil IsFlatRow
row_flats date (r ∷ rs) flats =
    let flat = All-head IsOfFlat r rs flats in
    All-append IsFlatRow (reading_rows date r) (flat_map (reading_rows date) rs) (All-map IsFlatRow (row_of r) (due_value date (points_of r.parts)) (λ k d low. flat)) (row_flats date rs (All-tail IsOfFlat r rs flats))

report_own : (s : State) (date : Day) → AreFlats s → AreOwn s (report_text date s)
unfolding report_text
report_own s date are =
    let rows = due_rows date s in
    let end = end_line (length rows) in
    subst (AreOwn s) (sym (append_assoc (line_text due_header) (flat_map due_line rows) end))
    (table_line_own s due_header (flat_map due_line rows ++ end) refl
    (rows_own s rows end (row_flats date (due_readings date s.readings) (due_flats date s.readings are.readings)) (end_own s (length rows))))

-- ---- whatever is shown

pub shown_own : (s : State) (line : OfficeLine) → AreFlats s → All (IsOwn s) (slice_split (λ b. b == 10) (shown_text line s))
shown_own s (Command ordered) are = All-cons (IsOwn s) [] [] (other_line s [] (omega arith)) (All-nil (IsOwn s))
shown_own s (Window from count) are = window_own s from count are
shown_own s Register are = register_own s are
shown_own s (Report date) are = report_own s date are
