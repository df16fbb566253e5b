-- How a person names a meter (this product): by its identity, in capitals or small letters, or by its number alone.
use Rattle.std.specs.Prelude.{◌≡◌, ℕ, ◌-◌, List, true, ◌&&◌, length, map, nat_le, if◌then◌else◌}
use Rattle.std.specs.Char.{is_ascii_digit}
use Rattle.std.specs.List.{list_all}
use Rattle.dc_address.specs.Text.{text_of}
use Rattle.mbdc_change.specs.Fields.{IsOfBytes}
use Rattle.dc_meters.specs.declared.named.name.Named.{Named}
use Rattle.dc_meters.specs.declared.named.name.Named.TheVariants.{Identity, Number}

-- a to z as A to Z
abbrev pub capital : ℕ → ℕ
capital b = if nat_le 97 b && nat_le b 122 then b - 32 else b

abbrev pub capitals : List ℕ → List ℕ
capitals word = map capital word

-- a word that is these digits
abbrev pub SpellsNumber : List ℕ → List ℕ → Type 0
SpellsNumber word digits = (word ≡ digits) × (list_all is_ascii_digit digits ≡ true)

-- THE WORD SPELLS THE NAME
abbrev pub Spells : List ℕ → Named → Type 0
Spells word (Identity meter) = capitals word ≡ text_of meter
Spells word (Number digits) = SpellsNumber word digits

-- a name as a program holds it
abbrev pub IsName : Named → Type 0
IsName (Identity meter) = IsOfBytes meter
IsName (Number digits) = length digits ≡ 8
