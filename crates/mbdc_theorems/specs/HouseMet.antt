-- Houses that meet the premises (this product): one meter, or three on two lines, of two telegrams each, are registered
-- and read, though a reply is lost. A crash loses the first reading, and the house reads the meter anew.
use Rattle.std.specs.Prelude.{◌≡◌, ℕ, ◌==◌, if◌then◌else◌, Option, Some, None, List, [], ◌∷◌, ◌++◌, map}
use Rattle.std.specs.Str.{bytes_eq}
use Rattle.dc_address.specs.declared.identity.Identity.{Identity}
use Rattle.dc_address.specs.Identity.{wire_of}
use Rattle.mbdc_change.specs.Fields.{IsOfBytes}
use Rattle.mbdc_change.specs.State.{State, MeterRow, PartRow}
use Rattle.dc_core.specs.Core.{opened}
use Rattle.dc_core.specs.Transcript.{Turn, leads}
use Rattle.mbdc_theorems.specs.House.{Sends, Buses, House}
use Rattle.mbdc_theorems.specs.House.{bodies_of, SpeakForThemselves}

-- a telegram without records: its header, and how it ends
abbrev pub bare_body : Identity → List ℕ → List ℕ
bare_body meter end = wire_of meter ++ 1 ∷ 0 ∷ 0 ∷ 0 ∷ end

-- the telegram after which more follow (DIF 1F), and the last one
abbrev pub first_body : Identity → List ℕ
first_body meter = bare_body meter (0x1F ∷ [])

abbrev pub last_body : Identity → List ℕ
last_body meter = bare_body meter []

-- a meter sends the first in its first place, and the last in any other
abbrev pub sends_two : Sends
sends_two meter place body =
    if place == 0 then bytes_eq body (first_body meter) else bytes_eq body (last_body meter)

-- A HOUSE IN WHICH THE METER IS READ: it has one reading, of the two telegrams.
pub record IsRead (meter : Identity) : Type 0 where
  pub state : State
  pub turns : List Turn
  pub buses : Buses
  pub speak : SpeakForThemselves sends_two
  pub house : House 1000 sends_two state turns buses
  pub parts : List PartRow
  pub bodies : bodies_of parts ≡ first_body meter ∷ last_body meter ∷ []
  pub read : (leads (opened state) turns).committed.readings
      ≡ record { serial = 1; meter = meter; flat = 65 ∷ []; parts = parts } ∷ []

-- such a house exists for each meter
abbrev pub PremisesAreMet : Type 0
PremisesAreMet = (meter : Identity) → IsOfBytes meter → IsRead meter

-- an entry's meter, its line and its primary address
abbrev pub wiring_of : Identity × MeterRow → Identity × ℕ × Option ℕ
wiring_of entry = (entry.0, entry.1.line, entry.1.address)

-- A HOUSE IN WHICH THREE METERS ARE READ, on two bus lines. The second has no primary address and is on the line of the
-- first. Each has one reading, of its two telegrams.
pub record ThreeAreRead : Type 0 where
  pub state : State
  pub turns : List Turn
  pub buses : Buses
  pub speak : SpeakForThemselves sends_two
  pub house : House 1000 sends_two state turns buses
  pub first : Identity
  pub second : Identity
  pub third : Identity
  pub registered : map wiring_of (leads (opened state) turns).committed.meters
      ≡ (first, 1, Some 1) ∷ (second, 1, None) ∷ (third, 2, Some 1) ∷ []
  pub one : List PartRow
  pub two : List PartRow
  pub three : List PartRow
  pub bodies : (bodies_of one ≡ first_body first ∷ last_body first ∷ [])
      × (bodies_of two ≡ first_body second ∷ last_body second ∷ [])
      × (bodies_of three ≡ first_body third ∷ last_body third ∷ [])
  pub read : (leads (opened state) turns).committed.readings
      ≡ record { serial = 1; meter = first; flat = 65 ∷ []; parts = one }
      ∷ record { serial = 2; meter = second; flat = 66 ∷ []; parts = two }
      ∷ record { serial = 3; meter = third; flat = 67 ∷ []; parts = three } ∷ []
