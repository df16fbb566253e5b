-- Whether what is published is what holds, as the code compares it (this product).
use Rattle.std.specs.Prelude.{◌≡◌, ◌⊎◌, ℕ, ◌+◌, ◌==◌, ◌&&◌, ◌||◌, Bool, true, false, if◌then◌else◌, codes}
use Rattle.std.specs.Prelude.{List, [], ◌∷◌, Option, None, Some, is_some, ⊤}
use Rattle.mbdc_audit.specs.declared.exact.Exact.{Exact}
use Rattle.mbdc_audit.specs.Published.{Suffice}
use Rattle.std.specs.Str.{bytes_eq}
use Rattle.mbdc_audit.specs.declared.house.Value as value_type
use Rattle.mbdc_audit.specs.House.{Number}
use Rattle.mbdc_audit.specs.Walk.{of_result}

-- a text that begins with a question mark asks
abbrev pub is_asked : List ℕ → Bool
is_asked [] = false
is_asked (byte ∷ rest) = byte == 63

abbrev pub is_text_said : List ℕ → List ℕ → Bool
is_text_said said text = is_asked said || bytes_eq said text

abbrev pub are_said : List (List ℕ) → List (List ℕ) → Bool
are_said [] [] = true
are_said (field ∷ fields) (text ∷ texts) = (bytes_eq field (codes "?") || bytes_eq field text) && are_said fields texts
are_said _ _ = false

-- A NUMBER SAYS a text and what is beside it, or asks for them
abbrev pub is_said : Number → List (List ℕ) → Bool
is_said n [] = false
is_said n (text ∷ beside) = is_text_said n.text text && are_said n.beside beside

-- its decimals suffice; or its text is a dash, which no number's is
abbrev pub IsFine : Number → ℕ → Option Exact → Type 0
IsFine n decimals None = ⊤
IsFine n decimals (Some x) = (n.text ≡ codes "-") ⊎ Suffice n.key.word n.key.unit (Some x) decimals

-- the last value of a run, from 1, at a moment that has evidence
abbrev pub found_at : ℕ → ℕ → Option ℕ → value_type.Value → Option ℕ
found_at run moment before v = if (v.run + 1 == run) && ((v.moment == moment) && is_some (of_result v.found))
    then of_result v.found else before
