-- A state is read where it is spelled: a state has one spelling, and a spelling one state.
use Rattle.std.proofs.Common.{◌≡◌, ℕ, ◌^◌, ◌<◌, ◌≤◌, true, List, [], ◌∷◌, ◌++◌, length, Option, Some, refl, sym, ap, subst, ◌∙◌, append_assoc, append-nil, arith}
use Rattle.std.specs.Prelude.{All, nat_le, nat_lt, ◌&&◌}
use Rattle.std.specs.Map.{values_of}
use Rattle.std.proofs.lemmas.Bool.{and_parts, and_from}
use Rattle.std.proofs.lemmas.Bool.Decides.{nat_tests}
use Rattle.std.specs.List.{sum_by}
use Rattle.std.proofs.lemmas.List.Sums.{sum_by-cons}
use Rattle.std.proofs.lemmas.Map.Entries.{length-values_of}
use Rattle.std.proofs.lemmas.List.Elements.{All-nil, All-cons, All-head, All-tail}
use Rattle.dc_address.specs.declared.identity.Identity.{Identity}
use Rattle.dc_address.specs.Identity.{wire_of}
use Rattle.mbdc_change.specs.State.{State, MeterRow, PartRow, ReadingRow}
use Rattle.mbdc_change.specs.Size.{meter_size, reading_size, size_of}
use Rattle.mbdc_change.specs.Valid.{IsState, IsMeter, IsReading, IsOpenSerial}
use Rattle.mbdc_change.specs.Fields.{end_of_numbers}
use Rattle.mbdc_change.specs.Pieces.{long_bytes, byte, counted, address_byte}
use Rattle.mbdc_change.specs.Encoding.{parts_bytes, meter_bytes, reading_bytes, head_bytes, meters_bytes, readings_bytes, state_bytes}
use Rattle.mbdc_change.specs.Spelled.{SpellsState}
use Rattle.mbdc_change.specs.Pieces.{only, listed, count_at}
use Rattle.mbdc_change.specs.Reading.{entry_of, entry_at, reading_of, reading_at, Head, head_of, head_from, is_head, head_at}
use Rattle.mbdc_change.proofs.Exact.{IsBytes, rest_are, Exact, Exact-both, Exact-chosen, Exact-listed, some_is, chosen_if}
use Rattle.mbdc_change.proofs.PieceSpellings.{Exact-long, Exact-count, Exact-counted, Exact-identity, Exact-line, Exact-address, Exact-flat, Exact-parts}

-- ---- meters and readings

abbrev EntryFields : Type 0
EntryFields = (((Identity × ℕ) × Option ℕ) × List ℕ) × List PartRow

pub Exact-entry : Exact (λ (e : Identity × MeterRow). IsMeter e.1) meter_bytes entry_at
unfolding meter_bytes entry_at
Exact-entry =
    Exact-chosen (λ (x : EntryFields). Some (entry_of x))
    (λ x y is e.
    subst (λ (z : Identity × MeterRow). IsMeter z.1 × ((((wire_of x.0.0.0.0 ++ byte x.0.0.0.1) ++ byte (address_byte x.0.0.1)) ++ counted x.0.1) ++ parts_bytes x.1
    ≡ (((wire_of z.0 ++ byte z.1.line) ++ byte (address_byte z.1.address)) ++ counted z.1.flat) ++ parts_bytes z.1.parts)) (some_is (entry_of x) y e)
    (record { line_is = is.0.0.0.1; address_is = is.0.0.1; flat_is = is.0.1; parts_are = is.1 }, refl))
    (λ y is. (((((y.0, y.1.line), y.1.address), y.1.flat), y.1.parts), ((((tt, is.line_is), is.address_is), is.flat_is), is.parts_are), refl, refl))
    (Exact-both (Exact-both (Exact-both (Exact-both Exact-identity Exact-line) Exact-address) Exact-flat) Exact-parts)

abbrev ReadingFields : Type 0
ReadingFields = ((ℕ × Identity) × List ℕ) × List PartRow

-- a reading whose serial fits eight bytes
pub record IsSpelledReading (r : ReadingRow) : Type 0 where
  pub is : IsReading r
  pub serial_fits : r.serial < 2 ^ 64

pub Exact-reading : Exact IsSpelledReading reading_bytes reading_at
unfolding reading_bytes reading_at
Exact-reading =
    Exact-chosen (λ (x : ReadingFields). Some (reading_of x))
    (λ x y is e.
    subst (λ (z : ReadingRow). IsSpelledReading z × (((long_bytes x.0.0.0 ++ wire_of x.0.0.1) ++ counted x.0.1) ++ parts_bytes x.1
    ≡ ((long_bytes z.serial ++ wire_of z.meter) ++ counted z.flat) ++ parts_bytes z.parts)) (some_is (reading_of x) y e)
    (record { is = record { flat_is = is.0.1; parts_are = is.1 }; serial_fits = is.0.0.0 }, refl))
    (λ y is. ((((y.serial, y.meter), y.flat), y.parts), (((is.serial_fits, tt), is.is.flat_is), is.is.parts_are), refl, refl))
    (Exact-both (Exact-both (Exact-both Exact-long Exact-identity) Exact-flat) Exact-parts)

pub Exact-entries : Exact (λ (es : List (Identity × MeterRow)). (length es < 2 ^ 32) × All (λ (e : Identity × MeterRow). IsMeter e.1) es) meters_bytes (listed count_at entry_at)
Exact-entries = Exact-listed Exact-count Exact-entry

pub Exact-readings : Exact (λ (rs : List ReadingRow). (length rs < 2 ^ 32) × All IsSpelledReading rs) readings_bytes (listed count_at reading_at)
Exact-readings = Exact-listed Exact-count Exact-reading

-- ---- the numbers and the last line

pub record IsHead (h : Head) : Type 0 where
  pub next_fits : h.next_serial ≤ end_of_numbers
  pub confirmed_fits : h.confirmed < h.next_serial
  pub number_fits : h.last_number < end_of_numbers
  pub line_fits : length h.last_line ≤ 120

head_test : (h : Head) → is_head h ≡ true → IsHead h
head_test h t =
    let a = and_parts (nat_le h.next_serial end_of_numbers) (nat_lt h.confirmed h.next_serial && (nat_lt h.last_number end_of_numbers && nat_le (length h.last_line) 120)) t in
    let b = and_parts (nat_lt h.confirmed h.next_serial) (nat_lt h.last_number end_of_numbers && nat_le (length h.last_line) 120) a.1 in
    let d = and_parts (nat_lt h.last_number end_of_numbers) (nat_le (length h.last_line) 120) b.1 in
    record { next_fits = grind (arith, nat_tests); confirmed_fits = grind (arith, nat_tests); number_fits = grind (arith, nat_tests); line_fits = grind (arith, nat_tests) }

head_passes : (h : Head) → IsHead h → is_head h ≡ true
head_passes h is =
    let next = is.next_fits in
    let confirmed = is.confirmed_fits in
    let number = is.number_fits in
    let line = is.line_fits in
    and_from (nat_le h.next_serial end_of_numbers) _ (grind (arith, nat_tests))
    (and_from (nat_lt h.confirmed h.next_serial) _ (grind (arith, nat_tests))
    (and_from (nat_lt h.last_number end_of_numbers) (nat_le (length h.last_line) 120) (grind (arith, nat_tests)) (grind (arith, nat_tests))))

abbrev head_spelling : Head → List ℕ
head_spelling h = ((long_bytes h.next_serial ++ long_bytes h.confirmed) ++ long_bytes h.last_number) ++ counted h.last_line

abbrev HeadFields : Type 0
HeadFields = ((ℕ × ℕ) × ℕ) × List ℕ

head_stands : (h : Head) → IsHead h → only is_head h ≡ Some h
head_stands h is = let passes = head_passes h is in rw passes refl

pub Exact-head : Exact IsHead head_spelling head_at
unfolding head_at
Exact-head =
    Exact-chosen (λ (x : HeadFields). only is_head (head_from x))
    (λ x h is e.
    let c = chosen_if (is_head (head_from x)) (head_from x) h e in
    subst (λ (k : Head). IsHead k × (((long_bytes x.0.0.0 ++ long_bytes x.0.0.1) ++ long_bytes x.0.1) ++ counted x.1 ≡ head_spelling k)) c.1 (head_test (head_from x) c.0, refl))
    (λ h is.
    let next = is.next_fits in
    let confirmed = is.confirmed_fits in
    let number = is.number_fits in
    let line = is.line_fits in
    ((((h.next_serial, h.confirmed), h.last_number), h.last_line), (((omega arith, omega arith), omega arith), omega arith), head_stands h is, refl))
    (Exact-both (Exact-both (Exact-both Exact-long Exact-long) Exact-long) Exact-counted)

-- ---- a state, piece by piece

-- the pieces of a state as they are read
pub record Reads (bytes : List ℕ) (s : State) : Type 0 where
  pub after_head : List ℕ
  pub after_meters : List ℕ
  pub head : head_at bytes ≡ Some (head_of s, after_head)
  pub meters : listed count_at entry_at after_head ≡ Some (s.meters, after_meters)
  pub readings : listed count_at reading_at after_meters ≡ Some (s.readings, [])

-- what is known of each piece
pub record ArePieces (s : State) : Type 0 where
  pub head_is : IsHead (head_of s)
  pub meters_are : All (λ (e : Identity × MeterRow). IsMeter e.1) s.meters
  pub readings_are : All IsSpelledReading s.readings

pub reads_takes : (bytes : List ℕ) (s : State) → IsBytes bytes → Reads bytes s → (bytes ≡ state_bytes s) × ArePieces s
reads_takes bytes s are read =
    let head = Exact-head.takes bytes (head_of s) read.after_head are read.head in
    let after_head_are = rest_are head are in
    let meters = Exact-entries.takes read.after_head s.meters read.after_meters after_head_are read.meters in
    let readings = Exact-readings.takes read.after_meters s.readings [] (rest_are meters after_head_are) read.readings in
    let whole : bytes ≡ state_bytes s =
    head.spelled ∙ ap (λ (l : List ℕ). head_bytes s ++ l) (meters.spelled ∙ ap (λ (l : List ℕ). meters_bytes s.meters ++ l) (readings.spelled ∙ append-nil (readings_bytes s.readings)))
    ∙ sym (append_assoc (head_bytes s) (meters_bytes s.meters) (readings_bytes s.readings)) in
    (whole, record { head_is = head.is; meters_are = meters.is.1; readings_are = readings.is.1 })

entries_are : (es : List (Identity × MeterRow)) → All IsMeter (values_of es) → All (λ (e : Identity × MeterRow). IsMeter e.1) es
entries_are [] all = All-nil (λ (e : Identity × MeterRow). IsMeter e.1)
entries_are (e ∷ es) all = All-cons (λ (e : Identity × MeterRow). IsMeter e.1) e es (All-head IsMeter e.1 (values_of es) all) (entries_are es (All-tail IsMeter e.1 (values_of es) all))

pub values_are : (es : List (Identity × MeterRow)) → All (λ (e : Identity × MeterRow). IsMeter e.1) es → All IsMeter (values_of es)
values_are [] all = All-nil IsMeter
values_are (e ∷ es) all =
    All-cons IsMeter e.1 (values_of es) (All-head (λ (e : Identity × MeterRow). IsMeter e.1) e es all) (values_are es (All-tail (λ (e : Identity × MeterRow). IsMeter e.1) e es all))

serials_fit : (confirmed next : ℕ) (rs : List ReadingRow) → next ≤ end_of_numbers → All IsReading rs → All (λ (r : ReadingRow). IsOpenSerial confirmed next r.serial) rs → All IsSpelledReading rs
serials_fit confirmed next [] fits all open_all = All-nil IsSpelledReading
serials_fit confirmed next (r ∷ rs) fits all open_all =
    let below = (All-head (λ (r : ReadingRow). IsOpenSerial confirmed next r.serial) r rs open_all).high in
    All-cons IsSpelledReading r rs (record { is = All-head IsReading r rs all; serial_fits = omega arith })
    (serials_fit confirmed next rs fits (All-tail IsReading r rs all) (All-tail (λ (r : ReadingRow). IsOpenSerial confirmed next r.serial) r rs open_all))

pub pieces_of : (budget : ℕ) (s : State) → IsState budget s → ArePieces s
pieces_of budget s is = record {
  head_is = record { next_fits = is.next_fits; confirmed_fits = is.confirmed_fits; number_fits = is.number_fits; line_fits = is.line_fits };
  meters_are = entries_are s.meters is.meters_are;
  readings_are = serials_fit s.confirmed s.next_serial s.readings is.next_fits is.readings_are is.serials_are;
}

count-le_sum : {X : Type 0} (f : X → ℕ) → ((x : X) → 1 ≤ f x) → (xs : List X) → length xs ≤ sum_by f xs
count-le_sum f one [] = omega arith
count-le_sum f one (x ∷ xs) = omega (arith, sum_by-cons f x xs, one x, count-le_sum f one xs)

meters_few : (s : State) → length s.meters ≤ size_of s
meters_few s = omega (arith, count-le_sum meter_size (λ m. omega arith) (values_of s.meters), length-values_of s.meters)

readings_few : (s : State) → length s.readings ≤ size_of s
readings_few s = omega (arith, count-le_sum reading_size (λ r. omega arith) s.readings)

pub reads_again : (budget : ℕ) (bytes : List ℕ) (s : State) → budget < 2 ^ 32 → SpellsState budget bytes s → Reads bytes s
reads_again budget bytes s narrow spells =
    let pieces = pieces_of budget s spells.is_state in
    let meters_fit : length s.meters < 2 ^ 32 = omega (arith, meters_few s, spells.is_state.size_fits) in
    let readings_fit : length s.readings < 2 ^ 32 = omega (arith, readings_few s, spells.is_state.size_fits) in
    let last = readings_bytes s.readings in
    record {
      after_head = meters_bytes s.meters ++ last;
      after_meters = last;
      head = ap head_at (spells.spelled ∙ append_assoc (head_bytes s) (meters_bytes s.meters) last) ∙ Exact-head.again (head_of s) (meters_bytes s.meters ++ last) pieces.head_is;
      meters = Exact-entries.again s.meters last (meters_fit, pieces.meters_are);
      readings = ap (listed count_at reading_at) (sym (append-nil last)) ∙ Exact-readings.again s.readings [] (readings_fit, pieces.readings_are);
    }

-- ---- a state has one spelling

abbrev state_from : Head → List (Identity × MeterRow) → List ReadingRow → State
state_from h meters readings =
    record { meters = meters; readings = readings; next_serial = h.next_serial; confirmed = h.confirmed; last_number = h.last_number; last_line = h.last_line }

pub one_state : (bytes : List ℕ) (s t : State) → Reads bytes s → Reads bytes t → s ≡ t
one_state bytes s t of_s of_t =
    let heads : (head_of s, of_s.after_head) ≡ (head_of t, of_t.after_head) = some_is _ _ (sym of_s.head ∙ of_t.head) in
    let head : head_of s ≡ head_of t = ap (λ (p : Head × List ℕ). p.0) heads in
    let after_head : of_s.after_head ≡ of_t.after_head = ap (λ (p : Head × List ℕ). p.1) heads in
    let lists : (s.meters, of_s.after_meters) ≡ (t.meters, of_t.after_meters) = some_is _ _ (sym of_s.meters ∙ ap (listed count_at entry_at) after_head ∙ of_t.meters) in
    let meters : s.meters ≡ t.meters = ap (λ (p : List (Identity × MeterRow) × List ℕ). p.0) lists in
    let after_meters : of_s.after_meters ≡ of_t.after_meters = ap (λ (p : List (Identity × MeterRow) × List ℕ). p.1) lists in
    let ends : (s.readings, []) ≡ (t.readings, []) = some_is _ _ (sym of_s.readings ∙ ap (listed count_at reading_at) after_meters ∙ of_t.readings) in
    let readings : s.readings ≡ t.readings = ap (λ (p : List ReadingRow × List ℕ). p.0) ends in
    ap (λ (h : Head). state_from h s.meters s.readings) head ∙ ap (λ (ms : List (Identity × MeterRow)). state_from (head_of t) ms s.readings) meters
    ∙ ap (λ (rs : List ReadingRow). state_from (head_of t) t.meters rs) readings

pub spelled_once : (budget budget' : ℕ) (bytes : List ℕ) (s t : State) → budget < 2 ^ 32 → budget' < 2 ^ 32 → SpellsState budget bytes s → SpellsState budget' bytes t → s ≡ t
spelled_once budget budget' bytes s t narrow narrow' of_s of_t = one_state bytes s t (reads_again budget bytes s narrow of_s) (reads_again budget' bytes t narrow' of_t)
