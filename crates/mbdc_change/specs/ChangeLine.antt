-- The line of a change (this product): a command's or a telegram's.
use Rattle.std.specs.Prelude.{◌≡◌, ℕ, ◌≤◌, List, [], ◌∷◌, codes, length, decimal, Some}
use Rattle.std.specs.List.{join_with_byte}
use Rattle.mbdc_io.specs.Hex.{bytes_of}
use Rattle.mbdc_change.specs.Command.{line_of, NamesMeters}
use Rattle.mbdc_change.specs.Valid.{IsChange}
use Rattle.mbdc_change.specs.declared.change.Change.{Change}
use Rattle.mbdc_change.specs.declared.change.Change.TheVariants.{Telegram, Command as Numbered}

-- the length of the longest line that is read, in bytes
abbrev pub longest_change_line : ℕ
longest_change_line = 4096

-- the words `TELEGRAM part moment hex`; `hex` is the body in hex digits of either case
pub record SpellsTelegram (line : List ℕ) (part moment : ℕ) (bytes : List ℕ) : Type 0 where
  pub digits : List ℕ
  pub bytes_are : bytes_of digits ≡ Some bytes
  pub line_is : line ≡ join_with_byte 32
      (codes "TELEGRAM" ∷ decimal part ∷ decimal moment ∷ digits ∷ [])

abbrev pub Spells : List ℕ → Change → Type 0
Spells line (Telegram part moment body) = SpellsTelegram line part moment body.bytes
Spells line (Numbered number command) = NamesMeters command × (line ≡ line_of number command)

-- a line that isn't too long and spells a change
pub record IsLineOf (line : List ℕ) (change : Change) : Type 0 where
  pub fits : length line ≤ longest_change_line
  pub is_change : IsChange change
  pub spells : Spells line change
