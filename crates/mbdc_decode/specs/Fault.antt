-- A fault as JSON (this product).
use Rattle.std.specs.Prelude.{ℕ, List, [], ◌∷◌, codes}
use Rattle.json.specs.Json.{string}
use Rattle.mbdc_decode.specs.Object.{Field, object_of, count}

-- where a fault is found: in a line's digits, a frame or a body
unfoldable pub fault_fields : List ℕ → ℕ → List ℕ → List Field
fault_fields place number name = (codes "kind", string place) ∷ (codes "number", count number)
    ∷ (codes "name", string name) ∷ []

unfoldable pub fault_field : List ℕ → ℕ → List ℕ → Field
fault_field place number name = (codes "fault", object_of (fault_fields place number name))
