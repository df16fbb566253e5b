-- The parts of a value information block (EN 13757-3).
use Rattle.std.specs.Prelude.{ℕ, ◌-◌, ◌%◌, ◌==◌, ◌||◌, Bool, false, nat_lt, if◌then◌else◌, List, [], ◌∷◌, length, take}
use Rattle.std.specs.Prelude.{drop, Option, Some, None}
use Rattle.mbdc_reading.specs.Codes.{extends}
use Rattle.mbdc_reading.specs.Meaning.{is_maker, is_extension}

-- how many characters a length byte before text announces
abbrev pub label_len : ℕ → ℕ
label_len byte = if nat_lt byte 0xC0 then byte else byte % 16

-- the VIF of a unit in plain text
abbrev pub is_text : ℕ → Bool
is_text vif = (vif == 0x7C) || (vif == 0xFC)

-- the text of a unit in plain text, as it is sent
abbrev pub label_of : List ℕ → Option (List ℕ)
label_of [] = None
label_of (vif ∷ []) = None
label_of (vif ∷ len ∷ others) = if is_text vif then Some (take (label_len len) others) else None

-- the VIFEs after the code
abbrev pub vifes_of : List ℕ → List ℕ
vifes_of [] = []
vifes_of (vif ∷ []) = []
vifes_of (vif ∷ next ∷ others) =
    if extends vif then others else if is_text vif then drop (label_len next) others else next ∷ others

-- the bytes after a VIFE that says that they are the manufacturer's
abbrev pub maker_in : Bool → List ℕ → Option (List ℕ)
maker_in after_fc [] = None
maker_in after_fc (vife ∷ others) =
    if is_maker after_fc vife then Some others else maker_in (is_extension after_fc vife) others

-- after VIF 7F and FF all are the manufacturer's
abbrev pub maker_of : List ℕ → Option (List ℕ)
maker_of [] = None
maker_of (vif ∷ others) =
    if (vif == 0x7F) || (vif == 0xFF) then Some (vifes_of (vif ∷ others)) else maker_in false (vifes_of (vif ∷ others))

abbrev pub len_of : Option (List ℕ) → ℕ
len_of None = 0
len_of (Some bytes) = length bytes

-- the VIFEs that have names: all before the manufacturer's bytes
abbrev pub told_of : List ℕ → List ℕ
told_of vib = take (length (vifes_of vib) - len_of (maker_of vib)) (vifes_of vib)
