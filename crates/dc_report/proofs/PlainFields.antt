-- Fields that need no quotes: each of their bytes comes after the comma.
use Rattle.std.proofs.Common.{◌≡◌, ℕ, zero, suc, ◌+◌, ◌*◌, ◌/◌, ◌%◌, ◌^◌, ◌≤◌, Bool, true, false, cond, List, [], ◌∷◌, ◌++◌, map, length, replicate, refl, sym, ap, subst, ◌∙◌, arith, ℤ, pos, negsuc, Option, Some, None}
use Rattle.std.specs.Prelude.{◌||◌, ◌==◌, nat_le, codes, unsigned_abs}
use Rattle.std.specs.List.{list_any, list_all, join_with_byte}
use Rattle.std.specs.Fmt.{decimal, digits, digits_onto, digit_glyph}
use Rattle.std.proofs.lemmas.List.{append-nil}
use Rattle.std.proofs.lemmas.List.Folds.{list_all-append}
use Rattle.std.proofs.lemmas.Bool.{and_parts, and_from}
use Rattle.std.proofs.lemmas.Bool.Decides.{nat_tests}
use Rattle.csv.specs.Writing.{default_writer, row_text, fields_text, field_text, quoted, is_blank, needs_byte}
use Rattle.dc_address.specs.declared.identity.Identity.{Identity}
use Rattle.dc_address.specs.Digits.{decimal_digits}
use Rattle.dc_address.specs.Maker.{first_letter, second_letter, third_letter}
use Rattle.dc_address.specs.Text.{text_of, decimal_code, hex_code}
use Rattle.dc_address.proofs.Texts.{text_rest}
use Rattle.dc_units.specs.declared.quantity.Quantity.{Quantity}
use Rattle.dc_units.specs.declared.quantity.Quantity.TheVariants.{EnergyWattHour, EnergyJoule, EnergyMegawattHour, EnergyGigajoule, Volume, Mass, PowerWatt, PowerJoulePerHour, VolumeFlowPerHour, VolumeFlowPerMinute, VolumeFlowPerSecond, MassFlow, FlowTemperature, ReturnTemperature, TemperatureDifference, ExternalTemperature, Pressure, Date, DateTime, HeatCostAllocator, ErrorFlags}
use Rattle.dc_units.specs.Quantity.{unit_of}
use Rattle.dc_units.specs.declared.value.Value.{Value}
use Rattle.dc_units.specs.declared.value.Value.TheVariants.{Number, Flags, Day as OnDay, Minute, None as NoValue}
use Rattle.dc_units.specs.Date.{Day}
use Rattle.dc_units.specs.Text.{last_digits, sign, magnitude_text, day_text, value_text}
use Rattle.mbdc_change.specs.Flat.{IsFlat, is_flat_byte}
use Rattle.mbdc_change.specs.Fields.{address_word}
use Rattle.dc_report.specs.TableLine.{line_text}
use Rattle.dc_report.specs.Medium.{medium_text}
use Rattle.dc_report.specs.Written.{IsPlain, ArePlain}

-- ---- a line of plain fields

as_it_is : (field : List ℕ) → IsPlain field → field_text default_writer field ≡ field
as_it_is field plain = ap (λ (b : Bool). cond b (quoted default_writer field) field) plain

later_fields : (field : List ℕ) (rest : List (List ℕ)) → ArePlain (field ∷ rest) → field_text default_writer field ++ fields_text default_writer rest ≡ join_with_byte 44 (field ∷ rest)
unfolding fields_text
later_fields field [] plain = ap (λ (f : List ℕ). f ++ []) (as_it_is field plain.0) ∙ append-nil field
later_fields field (next ∷ rest) plain =
    ap (λ (f : List ℕ). f ++ 44 ∷ (field_text default_writer next ++ fields_text default_writer rest)) (as_it_is field plain.0)
    ∙ ap (λ (l : List ℕ). field ++ 44 ∷ l) (later_fields next rest plain.1)

-- what `csv` writes of at least two plain fields is the line of the definition
pub plain_line : (fields : List (List ℕ)) → 2 ≤ length fields → ArePlain fields → row_text default_writer fields ≡ line_text fields
unfolding is_blank
plain_line [] several plain = absurd (omega arith)
plain_line (field ∷ []) several plain = absurd (omega arith)
plain_line (first ∷ second ∷ rest) several plain = ap (λ (l : List ℕ). l ++ (10 ∷ [])) (later_fields first (second ∷ rest) plain)

-- ---- bytes after the comma

abbrev pub is_after : ℕ → Bool
is_after b = nat_le 45 b

abbrev pub IsAfter : List ℕ → Type 0
IsAfter field = list_all is_after field ≡ true

needs_none : (b : ℕ) → is_after b ≡ true → needs_byte default_writer b ≡ false
needs_none b is = grind (arith, nat_tests)

pub plain_from : (field : List ℕ) → IsAfter field → IsPlain field
plain_from [] all = refl
plain_from (b ∷ field) all =
    let parts = and_parts (is_after b) (list_all is_after field) all in
    ap (λ (t : Bool). t || list_any (needs_byte default_writer) field) (needs_none b parts.0) ∙ plain_from field parts.1

joined : (a b : List ℕ) → IsAfter a → IsAfter b → IsAfter (a ++ b)
joined a b first then = list_all-append is_after a b ∙ and_from _ _ first then

chosen : (test : Bool) (a b : List ℕ) → IsAfter a → IsAfter b → IsAfter (cond test a b)
chosen true a b first then = first
chosen false a b first then = then

one_more : (b : ℕ) (field : List ℕ) → is_after b ≡ true → IsAfter field → IsAfter (b ∷ field)
one_more b field first then = and_from _ _ first then

-- ---- numbers

glyph_after : (upper : Bool) (d : ℕ) → is_after (digit_glyph upper d) ≡ true
glyph_after true d = grind (arith, nat_tests)
glyph_after false d = grind (arith, nat_tests)

onto_after : (count base : ℕ) (upper : Bool) (n : ℕ) (field : List ℕ) → IsAfter field → IsAfter (digits_onto count base upper n field)
onto_after zero base upper n field all = all
onto_after (suc count) base upper n field all =
    let more = one_more (digit_glyph upper (n % base)) field (glyph_after upper (n % base)) all in
    chosen (n / base == 0) _ _ more (onto_after count base upper (n / base) (digit_glyph upper (n % base) ∷ field) more)

pub decimal_after : (n : ℕ) → IsAfter (decimal n)
unfolding digits
decimal_after n = onto_after 64 10 false n [] refl

last_after : (base count n : ℕ) → IsAfter (last_digits base count n)
unfolding last_digits
last_after base zero n = refl
last_after base (suc count) n =
    joined (last_digits base count (n / base)) (digit_glyph true (n % base) ∷ []) (last_after base count (n / base))
    (one_more (digit_glyph true (n % base)) [] (glyph_after true (n % base)) refl)

zeros_after : (count : ℕ) → IsAfter (replicate count 48)
zeros_after zero = refl
zeros_after (suc count) = one_more 48 (replicate count 48) refl (zeros_after count)

-- ---- values

sign_after : (z : ℤ) → IsAfter (sign z)
sign_after (pos n) = refl
sign_after (negsuc n) = refl

magnitude_after : (n : ℕ) (exponent : ℤ) → IsAfter (magnitude_text n exponent)
magnitude_after n (pos power) = chosen (n == 0) (codes "0") _ refl (joined (decimal n) (replicate power 48) (decimal_after n) (zeros_after power))
magnitude_after n (negsuc k) =
    joined (decimal (n / 10 ^ suc k)) _ (decimal_after (n / 10 ^ suc k)) (joined (codes ".") (last_digits 10 (suc k) n) refl (last_after 10 (suc k) n))

day_after : (d : Day) → IsAfter (day_text d)
day_after d =
    let last : IsAfter (codes "-" ++ last_digits 10 2 d.day) = joined (codes "-") (last_digits 10 2 d.day) refl (last_after 10 2 d.day) in
    let month : IsAfter (last_digits 10 2 d.month ++ (codes "-" ++ last_digits 10 2 d.day)) = joined (last_digits 10 2 d.month) (codes "-" ++ last_digits 10 2 d.day) (last_after 10 2 d.month) last in
    joined (last_digits 10 4 d.year) (codes "-" ++ (last_digits 10 2 d.month ++ (codes "-" ++ last_digits 10 2 d.day))) (last_after 10 4 d.year)
    (joined (codes "-") (last_digits 10 2 d.month ++ (codes "-" ++ last_digits 10 2 d.day)) refl month)

time_after : (hour minute : ℕ) → IsAfter (codes "T" ++ (last_digits 10 2 hour ++ (codes ":" ++ last_digits 10 2 minute)))
time_after hour minute =
    joined (codes "T") (last_digits 10 2 hour ++ (codes ":" ++ last_digits 10 2 minute)) refl
    (joined (last_digits 10 2 hour) (codes ":" ++ last_digits 10 2 minute) (last_after 10 2 hour) (joined (codes ":") (last_digits 10 2 minute) refl (last_after 10 2 minute)))

pub value_after : (v : Value) → IsAfter (value_text v)
value_after (Number d) = joined (sign d.mantissa) _ (sign_after d.mantissa) (magnitude_after (unsigned_abs d.mantissa) d.exponent)
value_after (Flags len bits) = last_after 16 (2 * len) bits
value_after (OnDay d) = day_after d
value_after (Minute d hour minute) = joined (day_text d) (codes "T" ++ (last_digits 10 2 hour ++ (codes ":" ++ last_digits 10 2 minute))) (day_after d) (time_after hour minute)
value_after NoValue = refl

pub unit_after : (q : Quantity) → IsAfter (unit_of q)
unit_after EnergyWattHour = refl
unit_after EnergyJoule = refl
unit_after EnergyMegawattHour = refl
unit_after EnergyGigajoule = refl
unit_after Volume = refl
unit_after Mass = refl
unit_after PowerWatt = refl
unit_after PowerJoulePerHour = refl
unit_after VolumeFlowPerHour = refl
unit_after VolumeFlowPerMinute = refl
unit_after VolumeFlowPerSecond = refl
unit_after MassFlow = refl
unit_after FlowTemperature = refl
unit_after ReturnTemperature = refl
unit_after TemperatureDifference = refl
unit_after ExternalTemperature = refl
unit_after Pressure = refl
unit_after Date = refl
unit_after DateTime = refl
unit_after HeatCostAllocator = refl
unit_after ErrorFlags = refl

-- ---- meters

digit_after : (digit : ℕ) → is_after (decimal_code digit) ≡ true
digit_after digit = grind (arith, nat_tests)

hex_after : (digit : ℕ) → is_after (hex_code digit) ≡ true
hex_after digit = grind (arith, nat_tests)

letter_after : (n : ℕ) → is_after (64 + n) ≡ true
letter_after n = grind (arith, nat_tests)

number_after : (ds : List ℕ) → IsAfter (map decimal_code ds)
number_after [] = refl
number_after (d ∷ ds) = one_more (decimal_code d) (map decimal_code ds) (digit_after d) (number_after ds)

byte_after : (n : ℕ) (field : List ℕ) → IsAfter field → IsAfter (46 ∷ hex_code (n / 16) ∷ hex_code (n % 16) ∷ field)
byte_after n field all =
    one_more 46 (hex_code (n / 16) ∷ hex_code (n % 16) ∷ field) refl
    (one_more (hex_code (n / 16)) (hex_code (n % 16) ∷ field) (hex_after (n / 16)) (one_more (hex_code (n % 16)) field (hex_after (n % 16)) all))

letters_after : (maker : ℕ) (field : List ℕ) → IsAfter field → IsAfter (46 ∷ first_letter maker ∷ second_letter maker ∷ third_letter maker ∷ field)
letters_after maker field all =
    one_more 46 (first_letter maker ∷ second_letter maker ∷ third_letter maker ∷ field) refl
    (one_more (first_letter maker) (second_letter maker ∷ third_letter maker ∷ field) (letter_after (maker / 1024))
    (one_more (second_letter maker) (third_letter maker ∷ field) (letter_after (maker / 32 % 32)) (one_more (third_letter maker) field (letter_after (maker % 32)) all)))

pub meter_after : (meter : Identity) → IsAfter (text_of meter)
unfolding text_of
meter_after meter =
    let kind : List ℕ = 46 ∷ hex_code (meter.kind / 16) ∷ hex_code (meter.kind % 16) ∷ [] in
    let version : List ℕ = 46 ∷ hex_code (meter.version / 16) ∷ hex_code (meter.version % 16) ∷ kind in
    joined (map decimal_code (decimal_digits 8 meter.number)) (text_rest meter) (number_after (decimal_digits 8 meter.number))
    (letters_after meter.maker version (byte_after meter.version kind (byte_after meter.kind [] refl)))

medium_after : (kind : ℕ) → IsAfter (medium_text kind)
medium_after kind =
    let other = one_more (hex_code (kind / 16)) (hex_code (kind % 16) ∷ []) (hex_after (kind / 16)) (one_more (hex_code (kind % 16)) [] (hex_after (kind % 16)) refl) in
    chosen (kind == 0x02) _ _ refl (chosen (kind == 0x03) _ _ refl (chosen (kind == 0x04) _ _ refl (chosen (kind == 0x06) _ _ refl (chosen (kind == 0x07) _ _ refl (chosen (kind == 0x08) _ _ refl (chosen (kind == 0x0C) _ _ refl (chosen (kind == 0x15) _ _ refl (chosen (kind == 0x16) _ _ refl other))))))))

pub address_after : (address : Option ℕ) → IsAfter (address_word address)
address_after None = refl
address_after (Some address) = decimal_after address

flat_byte_after : (b : ℕ) → is_flat_byte b ≡ true → is_after b ≡ true
flat_byte_after b is = grind (arith, nat_tests)

pub flat_bytes_after : (flat : List ℕ) → list_all is_flat_byte flat ≡ true → IsAfter flat
flat_bytes_after [] all = refl
flat_bytes_after (b ∷ flat) all =
    let parts = and_parts (is_flat_byte b) (list_all is_flat_byte flat) all in
    one_more b flat (flat_byte_after b parts.0) (flat_bytes_after flat parts.1)

-- ---- the fields of the tables

pub plain_as : (a b : List ℕ) → a ≡ b → IsPlain b → IsPlain a
plain_as a b is plain = subst IsPlain (sym is) plain

pub flat_is_plain : (flat : List ℕ) → IsFlat flat → IsPlain flat
flat_is_plain flat is = plain_from flat (flat_bytes_after flat is.bytes_are)

pub meter_is_plain : (meter : Identity) → IsPlain (text_of meter)
meter_is_plain meter = plain_from (text_of meter) (meter_after meter)

pub medium_is_plain : (kind : ℕ) → IsPlain (medium_text kind)
medium_is_plain kind = plain_from (medium_text kind) (medium_after kind)

pub number_is_plain : (n : ℕ) → IsPlain (decimal n)
number_is_plain n = plain_from (decimal n) (decimal_after n)

pub address_is_plain : (address : Option ℕ) → IsPlain (address_word address)
address_is_plain address = plain_from (address_word address) (address_after address)

pub value_is_plain : (v : Value) → IsPlain (value_text v)
value_is_plain v = plain_from (value_text v) (value_after v)

pub unit_is_plain : (q : Quantity) → IsPlain (unit_of q)
unit_is_plain q = plain_from (unit_of q) (unit_after q)
