-- Which meter a name means in a register (this product).
use Rattle.std.specs.Prelude.{◌≡◌, ◌⊎◌, ℕ, ◌<◌, Bool, List, [], ◌∷◌, length, filter, nat_eq}
use Rattle.std.specs.List.{starts_with}
use Rattle.std.specs.Map.{keys_of}
use Rattle.dc_address.specs.Text.{text_of}
use Rattle.dc_address.specs.declared.identity.Identity.{Identity as Meter}
use Rattle.mbdc_change.specs.State.{State}
use Rattle.dc_meters.specs.declared.named.name.Named.{Named}
use Rattle.dc_meters.specs.declared.named.name.Named.TheVariants.{Identity, Number}
use Rattle.dc_meters.specs.declared.named.meaning.NameFault.{NameFault}
use Rattle.dc_meters.specs.declared.named.meaning.NameFault.TheVariants.{Unknown, Several, NoMemory}

-- an identity as it is printed begins with the eight digits of its number
abbrev pub has_number : List ℕ → Meter → Bool
has_number digits meter = starts_with nat_eq (text_of meter) digits

-- the registered meters with that number, in order of identity
abbrev pub having : List ℕ → State → List Meter
having digits state = filter (has_number digits) (keys_of state.meters)

-- THE METER THAT A NAME MEANS: an identity means itself, and a number the only registered meter that has it.
abbrev pub Means : State → Named → Meter → Type 0
Means state (Identity named) meter = meter ≡ named
Means state (Number digits) meter = having digits state ≡ meter ∷ []

-- why a number means none: no registered meter has it, or more than one have
abbrev pub IsNumberFault : State → List ℕ → NameFault → Type 0
IsNumberFault state digits (Unknown number) = (number ≡ digits) × (having digits state ≡ [])
IsNumberFault state digits (Several number) =
    (number ≡ digits) × (1 < length (having digits state))
IsNumberFault state digits NoMemory = Unit {0}

abbrev pub IsNameFault : State → Named → NameFault → Type 0
IsNameFault state (Identity named) fault = ⊥
IsNameFault state (Number digits) fault = IsNumberFault state digits fault

-- each name means the meter at its place
abbrev pub AreMeant : State → List Named → List Meter → Type 0
AreMeant state [] [] = Unit {0}
AreMeant state [] (meter ∷ meters) = ⊥
AreMeant state (name ∷ names) [] = ⊥
AreMeant state (name ∷ names) (meter ∷ meters) =
    Means state name meter × AreMeant state names meters

-- the first of the names that means no meter has this fault
abbrev pub IsFirstFault : State → List Named → NameFault → Type 0
IsFirstFault state [] fault = ⊥
IsFirstFault state (name ∷ names) fault = IsNameFault state name fault
    ⊎ ((meter : Meter) × Means state name meter × IsFirstFault state names fault)

-- why names mean no meters: that of the first that means none, unless memory ran out
abbrev pub AreUnmeant : State → List Named → NameFault → Type 0
AreUnmeant state names (Unknown number) = IsFirstFault state names (Unknown number)
AreUnmeant state names (Several number) = IsFirstFault state names (Several number)
AreUnmeant state names NoMemory = Unit {0}
