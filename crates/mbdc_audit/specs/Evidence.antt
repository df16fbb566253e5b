-- The value that the telegrams of a line prove (this product; EN 13757-3).
use Rattle.std.specs.Prelude.{◌≡◌, ◌≤◌, ◌<◌, ℕ, ℤ, ◌+◌, ◌-◌, ◌*◌, ◌/◌, ◌%◌, ◌^◌, ◌==◌, ◌&&◌, ◌||◌, ⊤}
use Rattle.std.specs.Prelude.{Bool, true, false, nat_lt, nat_le, if◌then◌else◌, pos, negsuc}
use Rattle.std.specs.Prelude.{List, [], ◌∷◌, ◌++◌, length, filter, drop, Option, None, Some}
use Rattle.std.specs.Prelude.{All, flat_map, map, zip}
use Rattle.std.specs.List.{list_any, list_all}
use Rattle.dc_address.specs.declared.identity.Identity.{Identity}
use Rattle.dc_records.specs.Body.{continues}
use Rattle.dc_records.specs.Record.{Entry}
use Rattle.dc_records.specs.Telegram.{IsTelegram, Parsed}
use Rattle.dc_units.specs.Point.{seen_of}
use Rattle.dc_units.specs.declared.point.Point.{Point}
use Rattle.dc_units.specs.declared.point.Seen.{Seen}
use Rattle.dc_units.specs.declared.point.Seen.TheVariants.{Point as Known, Other}
use Rattle.dc_units.specs.declared.value.Value.TheVariants as value
use Rattle.mbdc_audit.specs.declared.moment.Dated.{Dated}
use Rattle.mbdc_audit.specs.Moment.{date_in}
use Rattle.mbdc_audit.specs.Smallest.{of_spelled}
use Rattle.mbdc_io.specs.Hex.{bytes_of}
use Rattle.mbdc_audit.specs.Field.{fields_of}
use Rattle.mbdc_audit.specs.Uses.{size_named, size_of}
use Rattle.mbdc_audit.specs.House.{Run, Spelled, Value}
use Rattle.mbdc_audit.specs.House.{Source, current, stored, ended, anew, put, first, last}
use Rattle.mbdc_audit.specs.declared.uses.Counted.{Counted}

-- ---- records

-- an instantaneous value of the whole meter
abbrev pub is_main : Entry → Bool
is_main e = (e.function == 0) && ((e.tariff == 0) && (e.subunit == 0))

abbrev pub main : List Parsed → List Entry
main telegrams = filter is_main (flat_map (λ t. t.records) telegrams)

-- VIFE 00 means no error, and counts as absent
abbrev pub bare : List ℕ → List ℕ
bare [] = []
bare (code ∷ []) = code ∷ []
bare (code ∷ vife ∷ []) = if code == 0xFB then code ∷ vife ∷ []
    else if (vife == 0) && nat_le 128 code then (code - 128) ∷ [] else code ∷ vife ∷ []
bare (byte ∷ next ∷ more ∷ rest) = byte ∷ bare (next ∷ more ∷ rest)

abbrev pub list_of : {X : Type 0} → Option X → List X
list_of None = []
list_of (Some x) = x ∷ []

abbrev pub date_seen : Seen → List Dated
date_seen (Known p) = list_of (date_in p.value)
date_seen Other = []

-- what a record's date says
abbrev pub date_in_record : Entry → List Dated
date_in_record e = date_seen (seen_of (record e { vib = bare e.vib }))

-- the days with which records date a storage
abbrev pub dates : ℕ → List Entry → List Dated
dates storage records = flat_map date_in_record (filter (λ e. e.storage == storage) records)

abbrev pub is_flow : ℕ → Bool
is_flow vife = (vife % 128 == 0x3B) || (vife % 128 == 0x3C)

-- the code behind FB
abbrev pub behind : List ℕ → List ℕ
behind [] = []
behind (code ∷ vifes) = if list_all is_flow vifes then 0xFB ∷ (code % 128) ∷ [] else []

-- the code of a VIB: VIFEs 3B and 3C count forward or backward flow alone, and are left out; there is none with others
abbrev pub code_of : List ℕ → List ℕ
code_of [] = []
code_of (vif ∷ rest) = if vif == 0xFB then behind rest
    else if list_all is_flow rest then (vif % 128) ∷ [] else []

-- a number times a power of ten is so many whole units
abbrev pub IsScaled : ℕ → ℕ → ℤ → ℕ → Type 0
IsScaled n size (pos power) amount = amount ≡ n * size * 10 ^ power
IsScaled n size (negsuc k) amount = amount * 10 ^ (k + 1) ≡ n * size

-- the code alone, or that of the VIB that is named
abbrev pub named : List ℕ → List ℕ → List ℕ
named [] vib = bare vib
named (byte ∷ rest) vib = code_of (byte ∷ rest)

abbrev pub IsNamed : List ℕ → List ℕ → Type 0
IsNamed [] vib = ⊤
IsNamed (byte ∷ rest) vib = bare vib ≡ byte ∷ rest

-- a point is so many smallest units of a quantity
pub record IsAmount (q : Counted) (seen : Seen) (amount : ℕ) : Type 0 where
  pub point : Point
  pub seen_as : seen ≡ Known point
  pub size : ℕ
  pub counted : size_of point.quantity ≡ Some (q, size)
  pub digits : ℕ
  pub power : ℤ
  pub number : point.value ≡ value.Number (record { mantissa = pos digits; exponent = power })
  pub scaled : IsScaled digits size power amount
  pub small : amount < 10 ^ 18

-- A RECORD COUNTS so many smallest units of a quantity
pub record Counts (vib : List ℕ) (q : Counted) (e : Entry) (amount : ℕ) : Type 0 where
  pub is_named : IsNamed vib e.vib
  pub is : IsAmount q (seen_of (record e { vib = named vib e.vib })) amount

-- ---- what telegrams give

-- storage 0 of the current value; else one above 0 that is dated with the day
abbrev pub is_meant : Option ℕ → List Entry → Entry → Bool
is_meant None records e = e.storage == 0
is_meant (Some day) records e =
    nat_lt 0 e.storage && list_any (λ d. d.day == day) (dates e.storage records)

-- a record is meant, and counts so many
abbrev pub IsIt : List ℕ → Counted → Option ℕ → List Entry → Entry → ℕ → Type 0
IsIt vib q day records e amount = (is_meant day records e ≡ true) × Counts vib q e amount

-- the first record that is meant and counts
pub record Gives (vib : List ℕ) (q : Counted) (day : Option ℕ) (records : List Entry) (amount : ℕ) : Type 0 where
  pub before : List Entry
  pub it : Entry
  pub after : List Entry
  pub parts : records ≡ before ++ (it ∷ after)
  pub meant : is_meant day records it ≡ true
  pub counts : Counts vib q it amount
  pub is_first : All (λ e. is_meant day records e ≡ true → (n : ℕ) → Counts vib q e n → ⊥) before

-- a permanent error (bit 3), or an application error (bits 1 and 0 are 2)
abbrev pub has_error : ℕ → Bool
has_error status = (status / 8 % 2 == 1) || (status % 4 == 2)

-- a body is this telegram of a meter, which reports no error
pub record IsOf (meter : Identity) (body : List ℕ) (t : Parsed) : Type 0 where
  pub is : IsTelegram body t
  pub of_meter : t.header.identity ≡ meter
  pub sound : has_error t.header.status ≡ false

-- telegrams of a meter, one after the other
pub record AreOf (meter : Identity) (bodies : List (List ℕ)) (telegrams : List Parsed) : Type 0 where
  pub all : length telegrams ≡ length bodies
  pub each : All (λ p. IsOf meter p.0 p.1) (zip bodies telegrams)
  pub adjacent : All (λ p. continues p.0.ending ≡ true) (zip telegrams (drop 1 telegrams))

-- no storage is dated with two days
abbrev pub AreDatedOnce : List Entry → Type 0
AreDatedOnce records = (storage : ℕ) → 0 < storage
    → All (λ p. p.0.day ≡ p.1.day) (zip (dates storage records) (drop 1 (dates storage records)))

-- a day and 14 hours
abbrev pub near : ℕ
near = 136800

-- own dates don't contradict a moment, or the end of a stored day
abbrev pub MayBeAt : ℕ → List Entry → Type 0
MayBeAt moment records =
    All (λ d. (s : ℕ) → d.second ≡ Some s → (s ≤ moment + near) × (moment ≤ s + near)) (dates 0 records)
    × ((storage : ℕ) → 0 < storage → All (λ d. (d.day + 1) * 86400 ≤ moment + near) (dates storage records))

abbrev pub MayHaveEnded : ℕ → List Entry → Type 0
MayHaveEnded day records = All (λ d. (s : ℕ) → d.second ≡ Some s → day * 86400 ≤ s) (dates 0 records)

-- hex digits as bytes
abbrev pub bytes_in : List ℕ → List ℕ
bytes_in digits = flat_map (λ bytes. bytes) (list_of (bytes_of digits))

-- telegrams are evidence of an amount
pub record Tell (run : Run) (q : Counted) (bodies : List ℕ) (day : Option ℕ) (may : List Entry → Type 0)
    (amount : ℕ) : Type 0 where
  pub telegrams : List Parsed
  pub readout : AreOf run.identity (map bytes_in (fields_of bodies)) telegrams
  pub dated_once : AreDatedOnce (main telegrams)
  pub gives : Gives (bytes_in run.vib) q day (main telegrams) amount
  pub dates : may (main telegrams)

-- ---- values that are put

pub record IsSpelled (q : Counted) (t : Spelled) (amount : ℕ) : Type 0 where
  pub few : t.decimals ≤ 9
  pub size : ℕ
  pub unit : size_named t.unit ≡ Some (q, size)
  pub is : of_spelled (record { digits = t.digits; decimals = t.decimals }) size ≡ Some amount

-- WHAT A VALUE RESTS ON
abbrev pub Rests : Run → Counted → Value → Source → Type 0
Rests run q v (current bodies) = Tell run q bodies None (MayBeAt v.moment) v.amount
Rests run q v (stored e bodies) = Tell run q bodies (Some e.day) (MayHaveEnded e.day) v.amount
Rests run q v (ended e bodies) = Tell run q bodies (Some e.day) (MayHaveEnded e.day) v.amount
Rests run q v anew = v.amount ≡ 0
Rests run q v (put guess t) = IsSpelled q t v.amount
Rests run q v (first guess t) = IsSpelled q t v.amount
Rests run q v (last guess t) = IsSpelled q t v.amount
