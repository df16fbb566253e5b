-- The bytes of a command's input and output, as contracts know them (this product). What a writer or a reader of std
-- holds is in no contract where it is a file, a socket or a terminal; where it is, no byte is left out of account.
use Rattle.std.specs.Prelude.{◌≡◌, ℕ, Bool, true, false, List, [], Option, None, Some, is_some}
use Rattle.std.specs.Io.KnownBytes.{Appends}

-- where the bytes are known and no write failed, they are there
abbrev pub has_text : (is_known is_well : Bool) → Option (List ℕ) → Bool
has_text false is_well bytes = true
has_text true false bytes = true
has_text true true bytes = is_some bytes

-- these bytes, where they are known; after a failed write none of them is
abbrev pub text_of : (is_known is_well : Bool) → Option (List ℕ) → Option (List ℕ)
text_of false is_well bytes = None
text_of true false bytes = Some []
text_of true true bytes = bytes

-- WHERE ALL WAS PRINTED, the writer was left with this text after the bytes that it had, and nothing else.
abbrev pub IsPrinted : {O : Type 0} → (O → Option (List ℕ)) → O → (is_printed : Bool) → List ℕ
    → Type 0
IsPrinted {O} contents out true text = (left : O) × Appends (contents out) (contents left) text
IsPrinted contents out false text = Unit {0}

-- all of a text is written out after what a buffer held, where contracts know that
abbrev pub IsWrittenOut : {O : Type 0} → (O → Option (List ℕ)) → (is_known : Bool)
    → (held : Option (List ℕ)) → (is_printed : Bool) → List ℕ → Type 0
IsWrittenOut {O} contents is_known held true text =
    (left : O) × (is_known ≡ true → Appends held (contents left) text)
IsWrittenOut contents is_known held false text = Unit {0}
