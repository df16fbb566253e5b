-- JSON objects as lists of fields, and their tokens (RFC 8259; this product).
use Rattle.std.specs.Prelude.{ℕ, List, [], ◌∷◌, ◌++◌, decimal}
use Rattle.json.specs.Json.{Json, number, object, array, Items, no_items, item, Members, no_members}
use Rattle.json.specs.Json.{member}
use Rattle.json.specs.Token.{Token}
use Rattle.json.specs.Tree.{json_tokens}

-- a name and its value
abbrev pub Field : Type 0
Field = List ℕ × Json

abbrev pub members_of : List Field → Members
members_of [] = no_members
members_of (field ∷ fields) = member field.0 field.1 (members_of fields)

-- the object with these fields, in this order
abbrev pub object_of : List Field → Json
object_of fields = object (members_of fields)

abbrev pub items_of : List Json → Items
items_of [] = no_items
items_of (value ∷ values) = item value (items_of values)

abbrev pub array_of : List Json → Json
array_of values = array (items_of values)

-- a whole number
abbrev pub count : ℕ → Json
count n = number (decimal n)

-- ---- for private clauses

-- the tokens of fields
unfoldable pub fields_tokens : List Field → List Token
fields_tokens [] = []
fields_tokens (field ∷ fields) = Token.key field.0 ∷ (json_tokens field.1 ++ fields_tokens fields)

-- the tokens of values, one after the other
unfoldable pub values_tokens : List Json → List Token
values_tokens [] = []
values_tokens (value ∷ values) = json_tokens value ++ values_tokens values
