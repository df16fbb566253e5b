-- Combinable VIFEs (EN 13757-3, tables of combinable VIFE codes, of the codes for record errors, and of the codes after FC).
use Rattle.std.specs.Prelude.{◌≡◌, ℕ, Bool, true, nat_le, if◌then◌else◌, List, [], ◌∷◌, length, map, codes}
use Rattle.std.specs.List.{list_all}
use Rattle.mbdc_reading.specs.declared.vifes.Vife as written
use Rattle.mbdc_reading.specs.declared.vifes.Effect.{Effect}
use Rattle.mbdc_reading.specs.declared.vifes.Effect.TheVariants.{Block}
use Rattle.mbdc_reading.specs.declared.vifes.TheConstants.{VIFES, LIMIT_VIFES, LATER_VIFES}

-- a VIFE: its name, its effect, and the text of the unit, the direction or the phase that it says
pub record Vife : Type 0 where
  pub name : List ℕ
  pub effect : Effect
  pub text : List ℕ

abbrev pub vife_view : written.Vife → Vife
vife_view v = record { name = v.name.now; effect = v.effect; text = v.text.now }

-- rows in rising order, each of the codes up to its last one that no earlier row has
pub record Row : Type 0 where
  pub last : ℕ
  pub vife : Vife

abbrev pub row_of : ℕ → List ℕ → Effect → List ℕ → Row
row_of last name effect text = record { last = last; vife = record { name = name; effect = effect; text = text } }

abbrev pub vife_in : List Row → ℕ → Vife
vife_in [] number = record { name = codes "reserved"; effect = Block; text = [] }
vife_in (r ∷ rows) number = if nat_le number r.last then r.vife else vife_in rows number

-- the VIFE with this number: its code without bit 7, and 80 more where it follows FC
unfoldable pub vife_at : ℕ → Vife
vife_at number =
    if nat_le number 0x3F then vife_in (map (λ r. row_of r.0 r.1.now r.2 r.3.now) VIFES) number
    else if nat_le number 0x6F then vife_in (map (λ r. row_of r.0 r.1.now r.2 r.3.now) LIMIT_VIFES) number
    else vife_in (map (λ r. row_of r.0 r.1.now r.2 r.3.now) LATER_VIFES) number

-- ---- for private clauses

-- the text of a row is short
abbrev pub is_short : Row → Bool
is_short r = nat_le (length r.vife.text) 16

abbrev pub AreShort : List Row → Type 0
AreShort rows = list_all is_short rows ≡ true
