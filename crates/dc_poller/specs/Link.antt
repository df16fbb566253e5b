-- The gateway of a script, on bus line 1 (this product).
use Rattle.std.specs.Prelude.{◌≡◌, ℕ, Bool, true, false, Option, None, Some, List, [], codes}

-- No bus; a bus that answers; or a lost bus, which is silent.
pub data Link : Type 0 where
  absent : Link
  linked : Link
  lost : Link

-- by whether it is lost
abbrev pub link_by : Bool → Link
link_by true = lost
link_by false = linked

-- there is a bus
abbrev pub HasBus : Link → Type 0
HasBus absent = ⊥
HasBus linked = Unit {0}
HasBus lost = Unit {0}

-- the possible answers of a bus
abbrev pub IsHeardOver : Link → List ℕ → Type 0
IsHeardOver absent bytes = ⊥
IsHeardOver linked bytes = Unit {0}
IsHeardOver lost bytes = bytes ≡ []

-- ---- the gateway of a script

-- the line of `--gateway`; no other line has a bus
abbrev pub gateway_line : ℕ
gateway_line = 1

-- a bus line has a bus: it is the gateway's, and there is one
abbrev pub IsLinked : Link → ℕ → Type 0
IsLinked link line = (line ≡ gateway_line) × HasBus link

-- by whether its bus is lost
abbrev pub link_of : {B : Type 0} → (B → Bool) → Option B → Link
link_of lost_is None = absent
link_of lost_is (Some bus) = link_by (lost_is bus)

-- a gateway that was asked nothing
abbrev pub link_at_first : {X : Type 0} → Option X → Link
link_at_first None = absent
link_at_first (Some ends) = linked

-- ---- a loss

abbrev pub loss_line : List ℕ
loss_line = codes "GATEWAY LOST\n"

-- the loss is printed once
abbrev pub loss_text : Link → Link → List ℕ
loss_text linked lost = loss_line
loss_text before behind = []
