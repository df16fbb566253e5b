-- What the walks over a house find, and what they keep (this product).
use Rattle.std.specs.Prelude.{◌≡◌, ◌↔◌, ◌⊎◌, ◌<◌, ◌≤◌, ℕ, ◌^◌, ◌==◌, ◌&&◌, Bool, true, false, not, nat_lt, if◌then◌else◌}
use Rattle.std.specs.Prelude.{List, [], ◌∷◌, ◌++◌, length, map, zip}
use Rattle.std.specs.Prelude.{Option, None, Some, Result, Ok, Err, OnOk, IsTrue, All, AllPairs, Any, Contains, ⊤, codes, decimal, slice_get}
use Rattle.std.specs.Option.{option_and_then}
use Rattle.std.specs.Str.{bytes_eq}
use Rattle.mbdc_audit.specs.Index.{at, flat_key}
use Rattle.mbdc_audit.specs.declared.apart.Fitted as fitted_type
use Rattle.mbdc_audit.specs.declared.apart.Lived as lived_type
use Rattle.mbdc_audit.specs.declared.apart.Met as met_type
use Rattle.mbdc_audit.specs.declared.curve.Amount as amount_type
use Rattle.mbdc_audit.specs.declared.fault.Stop.{Stop}
use Rattle.mbdc_audit.specs.declared.fault.Stop.TheVariants as stop
use Rattle.mbdc_audit.specs.declared.house.Part as part_type
use Rattle.mbdc_audit.specs.declared.house.Place as place_type
use Rattle.mbdc_audit.specs.declared.house.Value as value_type
use Rattle.mbdc_audit.specs.declared.line.Word.{Word}
use Rattle.mbdc_audit.specs.declared.line.Word.TheVariants as word
use Rattle.dc_records.specs.Record.{Entry}
use Rattle.mbdc_audit.specs.declared.evidence.Meant.{Meant}
use Rattle.mbdc_audit.specs.declared.evidence.Meant.TheVariants as meant
use Rattle.mbdc_audit.specs.declared.exact.Exact.{Exact}
use Rattle.mbdc_audit.specs.declared.number.Scale.{Scale}
use Rattle.mbdc_audit.specs.declared.numbers.Beside as beside_type
use Rattle.mbdc_audit.specs.declared.numbers.Beside.TheVariants as besides
use Rattle.mbdc_audit.specs.declared.uses.Unit.{Unit}
use Rattle.dc_units.specs.declared.decimal.Decimal.{Decimal}
use Rattle.dc_units.specs.Text.{decimal_text}
use Rattle.mbdc_audit.specs.declared.numbers.Holder as holder_type
use Rattle.mbdc_audit.specs.declared.numbers.Holder.TheVariants as holder
use Rattle.mbdc_audit.specs.declared.teller.Counts.{Counts}
use Rattle.mbdc_audit.specs.declared.uses.Counted.{Counted}
use Rattle.mbdc_audit.specs.House.{End, House, Number, Place, Run, Struck, Value, Window}
use Rattle.mbdc_audit.specs.Amount.{amount, known, mark}
use Rattle.mbdc_audit.specs.Evidence.{MayBeAt, MayHaveEnded, Rests}
use Rattle.mbdc_audit.specs.Grade.{grade_name, has_number}
use Rattle.mbdc_audit.specs.Published.{Holder, IsText, Open, is_part_user, quantity}
use Rattle.mbdc_audit.specs.Published.{sum, sum_of_house}
use Rattle.mbdc_audit.specs.File.{AsksNothing}
use Rattle.mbdc_audit.specs.Number.{scale_of}
use Rattle.mbdc_audit.specs.Reader.{IsRead}
use Rattle.mbdc_audit.specs.Sound.{Agree, Fitted, Lived}
use Rattle.mbdc_audit.specs.Published.{user, flat, house}
use Rattle.mbdc_audit.specs.View.{is_told_word, known_in, part_of, run_of, source_of, value_of, window_of}

-- ---- what is found

-- nothing was found
abbrev pub is_clean : Counts → Bool
is_clean c = (c.rules == 0) && ((c.differ == 0) && (c.refused == 0))

-- WHAT IS CHECKED HOLDS exactly if nothing is found that wasn't before
abbrev pub Checks : {X E : Type 0} → Result X E → Counts → Counts → Type 0 → Type 0
Checks result old new P = OnOk result (IsTrue (is_clean new) ↔ (IsTrue (is_clean old) × P))

-- nothing is found only if nothing was before, and what is checked holds; exactly then where no number asks
abbrev pub Sure : {X E : Type 0} → Result X E → Counts → Counts → Type 0 → Type 0 → Type 0
Sure result old new quiet P = OnOk result ((IsTrue (is_clean new) → IsTrue (is_clean old) × P)
    × (quiet → IsTrue (is_clean old) × P → IsTrue (is_clean new)))

-- THE OFFSETS OF DAYS that were seen: a day has the one that some end had
pub record IsSeen (offset : ℕ → Option ℕ) (seen : List End) : Type 0 where
  pub each : All (λ e. offset e.day ≡ Some e.offset) seen
  pub only : (day o : ℕ) → offset day ≡ Some o → Any (λ e. (e.day ≡ day) × (e.offset ≡ o)) seen

-- A CHECK of ends too: what is checked holds, and their offsets are those that were seen, exactly if nothing is found that
-- wasn't before
pub record Walks (old : Counts) (before : ℕ → Option ℕ) (new : Counts) (after : ℕ → Option ℕ) (ends : List End) (P : Type 0)
    : Type 0 where
  pub exact : (seen : List End) → (IsTrue (is_clean old) → IsSeen before seen)
      → IsTrue (is_clean new) ↔ (IsTrue (is_clean old) × P × Agree seen ends)
  pub seen : (seen : List End) → (IsTrue (is_clean old) → IsSeen before seen) → IsTrue (is_clean new)
      → IsSeen after (seen ++ ends)

-- ---- values

-- a value is refused, by what was looked for
abbrev pub IsRefused : Stop → Type 0
IsRefused (stop.Refused why) = ⊤
IsRefused _ = ⊥

-- a value of the code rests on what it says, with this amount
abbrev pub RestsOn : Run → Counted → ℕ → value_type.Value → Type 0
RestsOn run q n v = Rests run q (value_of n v) (source_of v)

abbrev pub is_found : {X E : Type 0} → Result X E → Bool
is_found (Ok x) = true
is_found (Err e) = false

abbrev pub is_read : Word → Bool
is_read word.Read = true
is_read _ = false

-- the same telegrams came at an earlier moment
abbrev pub is_repeat : value_type.Value → value_type.Value → Bool
is_repeat v u = (u.run == v.run) && (nat_lt u.moment v.moment
    && (is_found u.found && (is_read u.word && bytes_eq u.bodies.now v.bodies.now)))

abbrev pub of_result : {X E : Type 0} → Result X E → Option X
of_result (Ok x) = Some x
of_result (Err e) = None

-- what telegrams of a run show
abbrev pub shown_by : ℕ → value_type.Value → Option ℕ
shown_by run v = if (v.run == run) && is_told_word v.word then of_result v.found else None

-- another telegram of its run and moment shows another value
abbrev pub differs : {E : Type 0} → Option ℕ → Result ℕ E → Bool
differs None found = false
differs (Some m) (Err e) = false
differs (Some m) (Ok n) = not (m == n)

abbrev pub is_other : value_type.Value → value_type.Value → Bool
is_other v u = (u.moment == v.moment) && differs (shown_by v.run u) v.found

-- a value is found where it rests on something, and is the same otherwise
abbrev pub IsJudged : List Run → Counted → value_type.Value → value_type.Value → Type 0
IsJudged runs q v w = (w ≡ record v { found = w.found })
    × ((n : ℕ) → (w.found ≡ Ok n) ↔ ((r : Run) × (slice_get runs v.run ≡ Some r) × RestsOn r q n v))

abbrev pub AreJudged : List Run → Counted → List value_type.Value → List value_type.Value → Type 0
AreJudged runs q old new = (length new ≡ length old) × All (λ p. IsJudged runs q p.0 p.1) (zip old new)

-- below its run's size, and of 18 digits
abbrev pub IsSmall : ℕ → value_type.Value → Type 0
IsSmall size v = (n : ℕ) × (v.found ≡ Ok n) × (n < (if size == 0 then 10 ^ 18 else size))

-- it isn't struck, and no other telegram of its moment shows another value
abbrev pub IsOneValue : List value_type.Value → List Struck → value_type.Value → Type 0
IsOneValue values struck v = All (λ x. x.run ≡ v.run → x.moment ≡ v.moment → ⊥) struck
    × ((n : ℕ) → v.found ≡ Ok n → All (λ u. u.moment ≡ v.moment → (m : ℕ) → shown_by v.run u ≡ Some m → m ≡ n) values)

abbrev pub AreFound : List value_type.Value → Type 0
AreFound values = All (λ v. is_found v.found ≡ true) values

-- ---- amounts

-- a number and its mark
abbrev pub IsGraded : List Run → List Value → ℕ → ℕ → amount_type.Amount → Type 0
IsGraded runs values from to a = (a.grade ≡ mark runs values from to)
    × (a.amount ≡ (if has_number (mark runs values from to) then amount runs values from to else None))

abbrev pub AreGraded : List Run → List Value → List part_type.Part → Type 0
AreGraded runs values parts = All (λ x. IsGraded runs values x.from x.to x.amount) parts

abbrev pub holder_of : holder_type.Holder → Holder
holder_of (holder.User n) = user n
holder_of (holder.Flat name) = flat name.now
holder_of holder.House = house

-- ---- meters and tenancies

abbrev pub fit : fitted_type.Fitted → Fitted
fit f = record { used = f.used; run = run_of f.run }

abbrev pub live : lived_type.Lived → Lived
live x = record { flat = x.flat.now; part = part_of x.part }

-- what others may share: a part of a meter's identity, and a flat's key
abbrev pub key_of : Fitted → ℕ
key_of f = f.run.identity.number

abbrev pub key_lived : Lived → ℕ
key_lived x = flat_key x.flat

-- what was met is this, and each is found by its key
abbrev pub IsMet : {X Y A : Type 0} → (Y → ℕ) → (X → Y) → met_type.Met X A → List Y → Type 0
IsMet {Y = Y} key view m ys = (map view m.items.items ≡ ys)
    × ((k : ℕ) (y : Y) → slice_get ys k ≡ Some y → Contains (at m.index (key y)) k)

-- one more was added
abbrev pub IsAdded : {X A : Type 0} → ℕ → X → met_type.Met X A → met_type.Met X A → Type 0
IsAdded key x old new = (new.items.items ≡ old.items.items ++ x ∷ [])
    × ((k : ℕ) → at new.index k ≡ (if k == key then at old.index k ++ length old.items.items ∷ [] else at old.index k))

-- what comes after others has the relation among itself, and each of the others to it
abbrev pub GoesWith : {Y : Type 0} → (Y → Y → Type 0) → List Y → List Y → Type 0
GoesWith R xs ys = AllPairs R ys × All (λ y. All (λ x. R x y) xs) ys

-- this was compared with what was met before it, and is met
abbrev pub Meets : {X Y A : Type 0} → (Y → ℕ) → (X → Y) → (Y → Y → Type 0) → Counts → Counts → met_type.Met X A → List Y → List Y
    → Type 0
Meets key view R old new m xs ys = (IsTrue (is_clean new) ↔ (IsTrue (is_clean old) × GoesWith R xs ys)) × IsMet key view m (xs ++ ys)

-- ---- the values of a window

-- each is no earlier than the one before it, and of no earlier run at its moment
abbrev pub AreInOrder : value_type.Value → value_type.Value → Type 0
AreInOrder v u = (v.moment < u.moment) ⊎ ((v.moment ≡ u.moment) × (v.run ≤ u.run))

-- ---- numbers

abbrev pub IsGradedPlace : {A : Type 0} → place_type.Place A → Type 0
IsGradedPlace p = All (λ w. (known_in w.values.items ≡ known (window_of w).values)
    × AreGraded (map run_of p.runs.items) (known_in w.values.items) w.parts.items) p.windows.items

-- parts say what their places consumed
abbrev pub AreGradedAll : {A : Type 0} → List (place_type.Place A) → Type 0
AreGradedAll places = All IsGradedPlace places

-- a holder's parts of a flat
abbrev pub is_held_part : Holder → List ℕ → part_type.Part → Bool
is_held_part (user n) name x = is_part_user n x.user
is_held_part (flat other) name x = bytes_eq other name
is_held_part house name x = true

abbrev pub scale_in : House → ℕ → Unit → Option Scale
scale_in h used unit = option_and_then (λ q. scale_of q unit) (quantity h used)

abbrev pub sum_by_holder : House → Holder → ℕ → ℕ → Unit → Option Exact
sum_by_holder h house span used unit = sum_of_house h span used unit
sum_by_holder h who span used unit = sum h who span used unit

abbrev pub open_of : Place → Window → Open
open_of p w = record { place = p; window = w }

-- the fields beside a text
abbrev pub texts_beside : beside_type.Beside → List (List ℕ)
texts_beside besides.Nothing = []
texts_beside (besides.Mark g) = grade_name g ∷ []
texts_beside (besides.Counts without count) = decimal without ∷ decimal count ∷ []

abbrev pub decimal_or_dash : Option Decimal → List ℕ
decimal_or_dash None = codes "-"
decimal_or_dash (Some d) = decimal_text d

-- NO NUMBER of a house asks
pub record IsQuiet (h : House) : Type 0 where
  pub of_places : All (λ p. All (λ w. All AsksNothing w.numbers) p.windows) h.places
  pub of_house : All AsksNothing h.numbers

-- what is published is what holds
abbrev pub IsHeld : Number → Option Exact → List (List ℕ) → Type 0
IsHeld n x beside = IsText n.key x n.text × (n.beside ≡ beside)

-- a house that was read of a file, before anything was found; unless asking is allowed, it asks for nothing
pub record IsAudited (asks : Bool) (c : Counts) (input : List ℕ) (h : House) : Type 0 where
  pub clean : is_clean c ≡ true
  pub read : IsRead asks input h
  pub quiet : asks ≡ false → IsQuiet h

-- ---- evidence

abbrev pub day_meant : Meant → Option ℕ
day_meant (meant.Current moment) = None
day_meant (meant.Stored day) = Some day

-- own dates don't contradict what is meant
abbrev pub MayBe : Meant → List Entry → Type 0
MayBe (meant.Current moment) records = MayBeAt moment records
MayBe (meant.Stored day) records = MayHaveEnded day records
