-- What is read agrees with the due-date table, tells each VIFE, and nothing that isn't certain.
use Rattle.std.proofs.Common.{◌≡◌, ◌≢◌, ◌%◌, ◌==◌, ◌||◌, ℕ, zero, suc, ◌+◌, ◌-◌, ◌<◌, ◌≤◌, Bool, cond, List, [], ◌∷◌, ◌++◌, length, take, Option, None, Some, false, true, refl, sym, ap, subst, ◌∙◌, arith, append-nil}
use Rattle.std.proofs.lemmas.List.{length-take}
use Rattle.dc_records.specs.Record.{Entry}
use Rattle.dc_units.specs.declared.point.Seen.{Seen}
use Rattle.dc_units.specs.declared.point.Seen.TheVariants.{Point as Known, Other}
use Rattle.dc_units.specs.declared.point.Point.{Point}
use Rattle.dc_units.specs.declared.value.Value.{Value}
use Rattle.dc_units.specs.declared.value.Value.TheVariants as value
use Rattle.dc_units.specs.Point.{seen_of}
use Rattle.dc_units.specs.Quantity.{unit_of}
use Rattle.mbdc_reading.specs.declared.codes.Kind.{Kind}
use Rattle.mbdc_reading.specs.declared.codes.Kind.TheVariants.{Number}
use Rattle.mbdc_reading.specs.declared.form.DataType.{DataType}
use Rattle.mbdc_reading.specs.declared.meaning.Meaning.{Meaning}
use Rattle.mbdc_reading.specs.declared.reading.Reading.{Reading}
use Rattle.mbdc_reading.specs.declared.reading.Found.{Found}
use Rattle.mbdc_reading.specs.declared.reading.Found.TheVariants as found
use Rattle.mbdc_reading.specs.declared.value.Datum.{Datum}
use Rattle.mbdc_reading.specs.declared.value.Datum.TheVariants as datum
use Rattle.mbdc_reading.specs.declared.vifes.Effect.{Effect}
use Rattle.mbdc_reading.specs.declared.vifes.Effect.TheVariants as effect
use Rattle.mbdc_reading.specs.Codes.{number_of}
use Rattle.mbdc_reading.specs.Meaning.{after, corrected, folded, is_block, is_extension, is_maker, is_unknown, meaning_of, number_after, scaled, step}
use Rattle.mbdc_reading.specs.Names.{names_of}
use Rattle.mbdc_reading.specs.Parts.{len_of, maker_in, maker_of, told_of, vifes_of}
use Rattle.mbdc_reading.specs.Reading.{HasNone, fault_of, or_unread, pointed, read_as, read_point, reading_of, type_at, if_meant}
use Rattle.mbdc_reading.specs.Text.{joined, unit_text}
use Rattle.mbdc_reading.specs.Vifes.{vife_at}

-- ---- agreement with the due-date table

pub as_point : (e : Entry) (len : ℕ) (p : Point) → seen_of e ≡ Known p → reading_of e len ≡ read_point e p
unfolding reading_of
as_point e len p is = ap (λ (seen : Seen). or_unread (read_as e len seen)) is

has_value : (v : Value) (d : Datum) → v ≢ value.None → pointed v d ≡ datum.Known v
has_value (value.Number n) d some = refl
has_value (value.Flags len bits) d some = refl
has_value (value.Day day) d some = refl
has_value (value.Minute day hour minute) d some = refl
has_value value.None d some = absurd (some refl)

has_none : (t : DataType) (v : Value) (d : Datum) → v ≡ value.None → HasNone (found.Value t (pointed v d))
has_none t value.None (datum.None fault) none = tt
has_none t value.None (datum.Known v) none = tt
has_none t value.None (datum.Second day hour minute second) none = tt
has_none t value.None (datum.Time hour minute second) none = tt
has_none t value.None datum.Digits none = tt
has_none t value.None datum.Text none = tt
has_none t value.None (datum.Letters i) none = tt
has_none t value.None (datum.Identity i) none = tt
has_none t (value.Number n) d none = absurd cc
has_none t (value.Flags len bits) d none = absurd cc
has_none t (value.Day day) d none = absurd cc
has_none t (value.Minute day hour minute) d none = absurd cc

pub point_value : (e : Entry) (len : ℕ) (p : Point) → seen_of e ≡ Known p → p.value ≢ value.None
    → (reading_of e len).found ≡ found.Value (type_at p.quantity) (datum.Known p.value)
point_value e len p is some =
    ap (λ (r : Reading). r.found) (as_point e len p is) ∙ ap (λ (d : Datum). found.Value (type_at p.quantity) d) (has_value p.value _ some)

pub point_none : (e : Entry) (len : ℕ) (p : Point) → seen_of e ≡ Known p → p.value ≡ value.None → HasNone (reading_of e len).found
point_none e len p is none = subst (λ (r : Reading). HasNone r.found) (sym (as_point e len p is)) (has_none (type_at p.quantity) p.value _ none)

unit_alone : (unit : List ℕ) → joined [] unit [] ≡ unit
unit_alone [] = refl
unit_alone (x ∷ rest) = append-nil (x ∷ rest)

pub point_unit : (e : Entry) (len : ℕ) (p : Point) → seen_of e ≡ Known p → unit_text (reading_of e len) e.vib ≡ unit_of p.quantity
unfolding unit_text
point_unit e len p is = ap (λ (r : Reading). unit_text r e.vib) (as_point e len p is) ∙ unit_alone (unit_of p.quantity)

-- ---- each VIFE is told

one_name_each : (after_fc : Bool) (vifes : List ℕ) → length (names_of after_fc vifes) ≡ length vifes
unfolding names_of
one_name_each after_fc [] = refl
one_name_each after_fc (vife ∷ others) = ap suc (one_name_each (is_extension after_fc vife) others)

or_later : (maker : Bool) (others : List ℕ) (later : Option (List ℕ)) → len_of later ≤ length others → len_of (cond maker (Some others) later) ≤ suc (length others)
or_later true others later h = omega arith
or_later false others later h = omega (arith, h)

maker_within : (after_fc : Bool) (vifes : List ℕ) → len_of (maker_in after_fc vifes) ≤ length vifes
maker_within after_fc [] = omega arith
maker_within after_fc (vife ∷ others) =
    or_later (is_maker after_fc vife) others (maker_in (is_extension after_fc vife) others) (maker_within (is_extension after_fc vife) others)

all_or : (all : Bool) (vifes : List ℕ) (later : Option (List ℕ)) → len_of later ≤ length vifes → len_of (cond all (Some vifes) later) ≤ length vifes
all_or true vifes later h = omega arith
all_or false vifes later h = h

maker_of_within : (vib : List ℕ) → len_of (maker_of vib) ≤ length (vifes_of vib)
maker_of_within [] = omega arith
maker_of_within (vif ∷ others) =
    all_or ((vif == 0x7F) || (vif == 0xFF)) (vifes_of (vif ∷ others)) (maker_in false (vifes_of (vif ∷ others))) (maker_within false (vifes_of (vif ∷ others)))

pub each_told : (vib : List ℕ) → length (names_of false (told_of vib)) + len_of (maker_of vib) ≡ length (vifes_of vib)
each_told vib =
    omega (arith, one_name_each false (told_of vib), length-take (length (vifes_of vib) - len_of (maker_of vib)) (vifes_of vib), maker_of_within vib)

-- ---- nothing unknown is read

after_none : (others : Meaning → Option Meaning) (next : Option Meaning) → ((m : Meaning) → others m ≡ None) → after others next ≡ None
after_none others None none = refl
after_none others (Some m) none = none m

by_effect : (m : Meaning) (e : Effect) (number : ℕ) (others : Meaning → Option Meaning) (later : Bool) → (later ≡ true → (n : Meaning) → others n ≡ None) → (is_block e || later) ≡ true
    → after others (step m e number) ≡ None
by_effect m effect.Block number others later none is = refl
by_effect m effect.Nothing number others later none is = after_none others (step m effect.Nothing number) (none is)
by_effect m effect.Tag number others later none is = after_none others (step m effect.Tag number) (none is)
by_effect m effect.Failure number others later none is = after_none others (step m effect.Failure number) (none is)
by_effect m effect.Unit number others later none is = after_none others (step m effect.Unit number) (none is)
by_effect m effect.Scale number others later none is = after_none others (step m effect.Scale number) (none is)
by_effect m effect.Moment number others later none is = after_none others (step m effect.Moment number) (none is)
by_effect m effect.Duration number others later none is = after_none others (step m effect.Duration number) (none is)
by_effect m effect.Count number others later none is = after_none others (step m effect.Count number) (none is)
by_effect m effect.Direction number others later none is = after_none others (step m effect.Direction number) (none is)
by_effect m effect.Phase number others later none is = after_none others (step m effect.Phase number) (none is)
by_effect m effect.Extension number others later none is = after_none others (step m effect.Extension number) (none is)
by_effect m effect.Maker number others later none is = after_none others (step m effect.Maker number) (none is)

by_tests : (maker extension : Bool) (m : Meaning) (now later next : Option Meaning) (first second : Bool) → (first ≡ true → later ≡ None) → (second ≡ true → next ≡ None)
    → cond maker false (cond extension first second) ≡ true → cond maker now (cond extension later next) ≡ None
by_tests true extension m now later next first second a b is = absurd cc
by_tests false true m now later next first second a b is = a is
by_tests false false m now later next first second a b is = b is

pub unknown : (after_fc : Bool) (m : Meaning) (vifes : List ℕ) → is_unknown after_fc vifes ≡ true → folded after_fc m vifes ≡ None
unfolding folded is_unknown
unknown after_fc m [] is = ap (λ (b : Bool). cond b None (Some m)) is
unknown after_fc m (vife ∷ others) is =
    let number : ℕ = number_after after_fc vife in
    by_tests (is_maker after_fc vife) (is_extension after_fc vife) m (Some m) (folded true m others)
    (after (λ n. folded false n others) (step m (vife_at number).effect number)) (is_unknown true others) (is_block (vife_at number).effect || is_unknown false others)
    (λ h. unknown true m others h)
    (λ h. by_effect m (vife_at number).effect number (λ n. folded false n others) (is_unknown false others) (λ k n. unknown false n others k) h) is

pub unread : (e : Entry) (len : ℕ) → seen_of e ≡ Other → meaning_of (number_of e.vib) (vifes_of e.vib) ≡ None → reading_of e len ≡ or_unread None
unfolding reading_of
unread e len other none =
    ap (λ (seen : Seen). or_unread (read_as e len seen)) other ∙ ap (λ (m : Option Meaning). or_unread (if_meant e len m)) none

-- ---- VIFE 00 and corrections

pub no_error : (m : Meaning) (others : List ℕ) → folded false m (0x80 ∷ others) ≡ folded false m others
unfolding folded vife_at
no_error m others = refl

is_scaled : (m : Meaning) (number : ℕ) (replaced : Bool) (kind : Kind) → replaced ≡ false → kind ≡ Number → corrected m replaced kind number ≡ scaled m number
is_scaled m number replaced kind p q = rw p (rw q refl)

after_scaled : (m : Meaning) (number : ℕ) (others : List ℕ) → m.is_replaced ≡ false → m.kind ≡ Number
    → after (λ n. folded false n others) (corrected m m.is_replaced m.kind number) ≡ after (λ n. folded false n others) (scaled m number)
after_scaled m number others p q = ap (λ (next : Option Meaning). after (λ n. folded false n others) next) (is_scaled m number m.is_replaced m.kind p q)

pub correction : (m : Meaning) (n : ℕ) (others : List ℕ) → n < 8 → m.is_replaced ≡ false → m.kind ≡ Number
    → folded false m ((0xF0 + n) ∷ others) ≡ after (λ k. folded false k others) (scaled m (0x70 + n))
unfolding folded vife_at
correction m zero others small p q = after_scaled m 0x70 others p q
correction m (suc zero) others small p q = after_scaled m 0x71 others p q
correction m (suc (suc zero)) others small p q = after_scaled m 0x72 others p q
correction m (suc (suc (suc zero))) others small p q = after_scaled m 0x73 others p q
correction m (suc (suc (suc (suc zero)))) others small p q = after_scaled m 0x74 others p q
correction m (suc (suc (suc (suc (suc zero))))) others small p q = after_scaled m 0x75 others p q
correction m (suc (suc (suc (suc (suc (suc zero)))))) others small p q = after_scaled m 0x76 others p q
correction m (suc (suc (suc (suc (suc (suc (suc zero))))))) others small p q = after_scaled m 0x77 others p q
correction m (suc (suc (suc (suc (suc (suc (suc (suc n)))))))) others small p q = absurd (omega (arith, small))
