-- Worked examples: a cold water meter in October 2026, in millilitres (this product).
use Rattle.std.specs.Prelude.{ℕ, false, List, [], ◌∷◌, None}
use Rattle.dc_address.specs.declared.identity.Identity.{Identity}
use Rattle.mbdc_audit.specs.House.{Run, Source, Value, current, put}
use Rattle.mbdc_audit.specs.Amount.{no_text}

-- a meter of this size, from which it goes on at 0; 0 where it has none
abbrev pub meter : Identity → ℕ → List Run
meter identity size = record {
  identity = identity;
  begin = 1773525600;
  over = None;
  most = 3125000;
  size = size;
  vib = [];
} ∷ []

abbrev pub october : ℕ
october = 1790805600

abbrev pub november : ℕ
november = 1793487600

abbrev pub value_at : ℕ → ℕ → Source → Value
value_at moment amount source = record { run = 0; moment = moment; amount = amount; source = source }

-- a telegram, told from others by a number
abbrev pub telegram : ℕ → Source
telegram n = current (n ∷ [])

-- values at both ends of October and after it, and this one in the middle
abbrev pub with_middle : ℕ → Source → List Value
with_middle amount source = value_at october 412070000 (telegram 1)
    ∷ value_at 1792101600 amount source
    ∷ value_at november 421380000 (telegram 3)
    ∷ value_at 1793574000 421700000 (telegram 4) ∷ []

abbrev pub by_hand : Source
by_hand = put false no_text
