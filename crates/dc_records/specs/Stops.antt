-- Where a text stops being items and an end, and by which fault (the data record header of EN 13757-3; what is
-- refused in it is this product's).
use Rattle.std.specs.Prelude.{◌≡◌, ◌≢◌, ℕ, ◌%◌, ◌≤◌, List, [], ◌∷◌, ◌++◌, length, ◌⊎◌}
use Rattle.std.specs.List.{flat_map, AllByRecursion}
use Rattle.dc_records.specs.declared.fault.BodyFault.{BodyFault}
use Rattle.dc_records.specs.declared.fault.BodyFault.TheVariants.{ReservedDif, TooManyDife}
use Rattle.dc_records.specs.declared.fault.BodyFault.TheVariants.{TooManyVife, BadLength}
use Rattle.dc_records.specs.declared.fault.BodyFault.TheVariants.{PlainTextExtension, Cut}
use Rattle.dc_records.specs.Record.{Entry, Extends, IsVib, Spells}
use Rattle.dc_records.specs.Body.{Ending, IsEnd, Item, IsItem, text_of}

-- ---- the rule of each fault

-- a byte and those after it all have bit 7, which announces another
abbrev pub GoesOn : ℕ → List ℕ → Type 0
GoesOn first [] = 0x80 ≤ first
GoesOn first (next ∷ others) = (0x80 ≤ first) × GoesOn next others

-- a DIF with all its DIFEs
pub record IsHead (text : List ℕ) (dif : ℕ) : Type 0 where
  pub difes : List ℕ
  pub parts : text ≡ dif ∷ difes
  pub not_special : dif % 16 ≢ 15
  pub extends : Extends dif difes
  pub at_most_ten : length difes ≤ 10

-- A text begins with no item and no end: a special DIF that isn't known; a tenth DIFE or VIFE that announces another;
-- VIF FC; a length byte from F0 on, of VIF 7C or of data field D; or its end within a record.
pub data Stops (text : List ℕ) (f : BodyFault) : Type 0 where
  reserved : f ≡ ReservedDif → (dif : ℕ) (more : List ℕ) → text ≡ dif ∷ more → dif % 16 ≡ 15
      → dif ≢ 0x0F → dif ≢ 0x1F → dif ≢ 0x2F → Stops text f
  many_difes : f ≡ TooManyDife → (dif : ℕ) (ten more : List ℕ) → text ≡ dif ∷ (ten ++ more)
      → dif % 16 ≢ 15 → GoesOn dif ten → length ten ≡ 10 → Stops text f
  many_vifes : f ≡ TooManyVife → (head : List ℕ) (dif vif : ℕ) (ten more : List ℕ)
      → text ≡ head ++ (vif ∷ (ten ++ more)) → IsHead head dif → vif ≢ 0xFC → GoesOn vif ten
      → length ten ≡ 10 → Stops text f
  extension : f ≡ PlainTextExtension → (head : List ℕ) (dif : ℕ) (more : List ℕ)
      → text ≡ head ++ (0xFC ∷ more) → IsHead head dif → Stops text f
  text_length : f ≡ BadLength → (head : List ℕ) (dif byte : ℕ) (more : List ℕ)
      → text ≡ head ++ (0x7C ∷ (byte ∷ more)) → IsHead head dif → 0xF0 ≤ byte → Stops text f
  data_length : f ≡ BadLength → (head : List ℕ) (dif : ℕ) (vib : List ℕ) (byte : ℕ) (more : List ℕ)
      → text ≡ head ++ (vib ++ (byte ∷ more)) → IsHead head dif → IsVib vib → dif % 16 ≡ 0xD
      → 0xF0 ≤ byte → Stops text f
  cut : f ≡ Cut → (b : ℕ) (bs more : List ℕ) (e : Entry) (next : ℕ) → text ≡ b ∷ bs
      → Spells (text ++ (next ∷ more)) e → Stops text f

-- after whole items the text stops
pub record Fails (text : List ℕ) (f : BodyFault) : Type 0 where
  pub items : List Item
  pub rest : List ℕ
  pub parts : text ≡ flat_map text_of items ++ rest
  pub each : AllByRecursion IsItem items
  pub stops : Stops rest f

-- ---- the same in one rule for all faults

-- the text is an item, or it is an end
abbrev pub IsItemOrEnd : List ℕ → Type 0
IsItemOrEnd text = ((item : Item) × IsItem item × (text ≡ text_of item))
    ⊎ ((end : Ending) × IsEnd text end)

-- some continuation of the front is an item or an end
abbrev pub Continues : List ℕ → Type 0
Continues front = (more : List ℕ) × IsItemOrEnd (front ++ more)

-- A byte rules out every item and every end, which its front doesn't.
pub record HasBadByte (text : List ℕ) : Type 0 where
  pub front : List ℕ
  pub byte : ℕ
  pub more : List ℕ
  pub parts : text ≡ front ++ (byte ∷ more)
  pub goes_on : Continues front
  pub shut : Continues (front ++ byte ∷ []) → ⊥

-- No more whole items can be taken, and what is left is no end. Either it stops where it could still go on, and the
-- fault is Cut, or it has a byte that rules out every item and every end.
pub record IsFirstFault (text : List ℕ) (f : BodyFault) : Type 0 where
  pub items : List Item
  pub rest : List ℕ
  pub parts : text ≡ flat_map text_of items ++ rest
  pub each : AllByRecursion IsItem items
  pub longest : (others : List Item) (after : List ℕ) → text ≡ flat_map text_of others ++ after
      → AllByRecursion IsItem others → length others ≤ length items
  pub no_end : (end : Ending) → IsEnd rest end → ⊥
  pub place : ((f ≡ Cut) × Continues rest) ⊎ ((f ≢ Cut) × HasBadByte rest)
