-- What a value information block says of its data (this product): its code, changed by the VIFEs one by one.
use Rattle.std.specs.Prelude.{ℕ, ◌+◌, ◌%◌, ◌==◌, ◌||◌, ◌&&◌, not, Bool, true, false, if◌then◌else◌, List, [], ◌∷◌}
use Rattle.std.specs.Prelude.{Option, Some, None, ℤ, pos, neg_ℤ, ◌+ℤ◌, ◌-ℤ◌, int_lt}
use Rattle.mbdc_reading.specs.declared.codes.Kind.{Kind}
use Rattle.mbdc_reading.specs.declared.codes.Kind.TheVariants.{Number, Words, AnyDate, Listed, Unread}
use Rattle.mbdc_reading.specs.declared.vifes.Effect.{Effect}
use Rattle.mbdc_reading.specs.declared.vifes.Effect.TheVariants.{Nothing, Tag, Failure, Unit, Scale, Moment}
use Rattle.mbdc_reading.specs.declared.vifes.Effect.TheVariants.{Duration, Count, Direction, Phase, Extension, Maker, Block}
use Rattle.mbdc_reading.specs.declared.meaning.Meaning.{Meaning}
use Rattle.mbdc_reading.specs.Codes.{Code, code_at}
use Rattle.mbdc_reading.specs.Vifes.{vife_at}

-- codes 70 to 77 are 10^-6 to 10^1, 7D is 10^3
abbrev pub power_of : ℕ → ℤ
power_of number = if number == 0x7D then pos 3 else pos (number % 8) -ℤ pos 6

-- a power of ten that a decimal has
abbrev pub fitting : ℤ → Option ℤ
fitting e = if int_lt e (neg_ℤ (pos 120)) then None else if int_lt (pos 120) e then None else Some e

abbrev pub with_exponent : Meaning → ℤ → Meaning
with_exponent m e = record m { exponent = e }

abbrev pub exponent_or_none : Meaning → Option ℤ → Option Meaning
exponent_or_none m None = None
exponent_or_none m (Some e) = Some (with_exponent m e)

abbrev pub scaled : Meaning → ℕ → Option Meaning
scaled m number = exponent_or_none m (fitting (m.exponent +ℤ power_of number))

abbrev pub replaced : Meaning → Kind → Option ℕ → Option Meaning
replaced m kind unit = if m.is_replaced then None
    else Some (record m { exponent = pos 0; kind = kind; is_replaced = true; unit = unit })

abbrev pub failed : Meaning → Option ℕ → ℕ → Meaning
failed m None number = record m { failure = Some number }
failed m (Some first) number = m

abbrev pub directed : Meaning → Option ℕ → ℕ → Option Meaning
directed m None number = Some (record m { direction = Some number })
directed m (Some first) number = None

abbrev pub phased : Meaning → Option ℕ → ℕ → Option Meaning
phased m None number = Some (record m { phase = Some number })
phased m (Some first) number = None

abbrev pub with_unit : Meaning → Bool → Kind → Option ℕ → ℕ → Option Meaning
with_unit m false Number None number = Some (record m { unit = Some number })
with_unit m _ _ _ number = None

abbrev pub corrected : Meaning → Bool → Kind → ℕ → Option Meaning
corrected m false Number number = scaled m number
corrected m false Words number = scaled m number
corrected m _ _ number = None

-- one VIFE: a unit only on a number, a correction only on a number or words, a unit, another kind, a direction and a
-- phase once each
abbrev pub step : Meaning → Effect → ℕ → Option Meaning
step m Nothing number = Some m
step m Tag number = Some m
step m Failure number = Some (failed m m.failure number)
step m Unit number = with_unit m m.is_replaced m.kind m.unit number
step m Scale number = corrected m m.is_replaced m.kind number
step m Moment number = replaced m AnyDate None
step m Duration number = replaced m Number (Some number)
step m Count number = replaced m Number None
step m Direction number = directed m m.direction number
step m Phase number = phased m m.phase number
step m Extension number = None
step m Maker number = None
step m Block number = None

-- what follows, where a step gave a meaning
abbrev pub after : (Meaning → Option Meaning) → Option Meaning → Option Meaning
after others None = None
after others (Some m) = others m

-- the number of a VIFE; those after FC are another table
abbrev pub number_after : Bool → ℕ → ℕ
number_after after_fc vife = if after_fc then 128 + vife % 128 else vife % 128

-- 7F and FF say that the VIFEs after them are the manufacturer's
abbrev pub is_maker : Bool → ℕ → Bool
is_maker after_fc vife = not after_fc && ((vife == 0x7F) || (vife == 0xFF))

abbrev pub is_extension : Bool → ℕ → Bool
is_extension after_fc vife = not after_fc && (vife == 0xFC)

-- the VIFEs one by one, up to a manufacturer's; the first may follow an FC
unfoldable pub folded : Bool → Meaning → List ℕ → Option Meaning
folded after_fc m [] = if after_fc then None else Some m
folded after_fc m (vife ∷ others) =
    if is_maker after_fc vife then Some m
    else if is_extension after_fc vife then folded true m others
    else after (λ n. folded false n others) (step m (vife_at (number_after after_fc vife)).effect (number_after after_fc vife))

abbrev pub begun : Code → Meaning
begun c = record {
  exponent = c.exponent;
  kind = c.kind;
  is_replaced = false;
  unit = None;
  failure = None;
  direction = None;
  phase = None;
}

abbrev pub read_as : Code → Kind → List ℕ → Option Meaning
read_as c Unread vifes = None
read_as c Listed vifes = None
read_as c _ vifes = folded false (begun c) vifes

-- what the code with this number says with these VIFEs
abbrev pub meaning_of : ℕ → List ℕ → Option Meaning
meaning_of number vifes = read_as (code_at number) (code_at number).kind vifes

-- ---- what isn't certain

abbrev pub is_block : Effect → Bool
is_block Block = true
is_block _ = false

-- a VIFE before a manufacturer's has a meaning that isn't certain, or none follows FC
unfoldable pub is_unknown : Bool → List ℕ → Bool
is_unknown after_fc [] = after_fc
is_unknown after_fc (vife ∷ others) =
    if is_maker after_fc vife then false
    else if is_extension after_fc vife then is_unknown true others
    else is_block (vife_at (number_after after_fc vife)).effect || is_unknown false others
