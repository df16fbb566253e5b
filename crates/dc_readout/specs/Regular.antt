-- What `are_regular` requires of one meter, and of two.
use Rattle.std.specs.Prelude.{◌≡◌, ◌≢◌, ℕ, ◌≤◌, Bool, true, false, ◌||◌, List, length, Option, Some}
use Rattle.std.specs.Prelude.{None, slice_get, ◌==◌}
use Rattle.dc_linkframe.specs.Control.{selected}
use Rattle.dc_address.specs.Mask.{mask_of, matches}
use Rattle.dc_readout.specs.Meter.{Meter}
use Rattle.dc_linkframe.specs.Frame.{longest_body}

-- each body fits one frame
abbrev pub Fits : List (List ℕ) → Type 0
Fits bodies = (j : ℕ) (body : List ℕ) → slice_get bodies j ≡ Some body → length body ≤ longest_body

-- an own address isn't the address of the selected meters (253)
abbrev pub IsOwnOnly : Option ℕ → Type 0
IsOwnOnly own = (address : ℕ) → own ≡ Some address → address ≢ selected

abbrev pub IsFitting : Meter → Type 0
IsFitting meter = IsOwnOnly meter.address × Fits meter.bodies

abbrev pub shares : Option ℕ → Option ℕ → Bool
shares (Some one) (Some other) = one == other
shares (Some one) None = false
shares None other = false

-- one request may reach both
abbrev pub clashes : Meter → Meter → Bool
clashes one other = shares one.address other.address || matches
    (mask_of one.identity) other.identity

-- no request to the meter of this place reaches another
abbrev pub StandsApart : List Meter → ℕ → Type 0
StandsApart meters i =
    (j : ℕ) (one other : Meter) → slice_get meters i ≡ Some one → slice_get meters j ≡ Some other
    → clashes one other ≡ true → i ≡ j
