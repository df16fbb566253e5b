-- The bodies of a reading in a line of a journal (RFC 8259; this product): the member `bodies`, an array of texts of hex digits.
use Rattle.std.specs.Prelude.{ℕ, if◌then◌else◌, nat_le, List, [], ◌∷◌, length, Option, None, Some}
use Rattle.std.specs.Option.{option_and_then}
use Rattle.std.specs.Prelude.{codes}
use Rattle.json.specs.Find.{as_array, as_str, get}
use Rattle.json.specs.Json.{Json, Items, no_items, item}
use Rattle.mbdc_change.specs.Fields.{most_parts}
use Rattle.mbdc_io.specs.Hex.{bytes_of}

-- pairs of hex digits, at most 256
abbrev pub short_bytes : List ℕ → Option (List ℕ)
short_bytes text = if nat_le (length text) 512 then bytes_of text else None

abbrev pub body_in : Json → Option (List ℕ)
body_in json = option_and_then short_bytes (as_str json)

abbrev pub and_then_bodies : Option (List ℕ) → Option (List (List ℕ)) → Option (List (List ℕ))
and_then_bodies None bodies = None
and_then_bodies (Some body) None = None
and_then_bodies (Some body) (Some bodies) = Some (body ∷ bodies)

-- each item is a body
abbrev pub all_bodies : Items → Option (List (List ℕ))
all_bodies no_items = Some []
all_bodies (item json items) = and_then_bodies (body_in json) (all_bodies items)

-- a readout has at most so many
abbrev pub few_bodies : Option (List (List ℕ)) → List (List ℕ)
few_bodies None = []
few_bodies (Some bodies) = if nat_le (length bodies) most_parts then bodies else []

-- THE BODIES of a line that is this value; none where it has none
abbrev pub bodies_in : Json → List (List ℕ)
bodies_in json = few_bodies (option_and_then all_bodies (option_and_then as_array (get (codes "bodies") json)))
