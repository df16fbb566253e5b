-- Which bus line has which link (this product): the links by line, the first of line 1.
use Rattle.std.specs.Prelude.{◌≡◌, ◌≤◌, ◌+◌, ℕ, List, [], ◌∷◌, ◌++◌, codes, Option, Some, None, IsSome}
use Rattle.std.specs.List.{slice_index_or, slice_set}
use Rattle.mbdc_commands.specs.Link.{word_of, IsLink, IsMistake}
use Rattle.mbdc_commands.specs.declared.words.link.LinkName.{LinkName}
use Rattle.mbdc_commands.specs.declared.words.fault.LinkFault.{LinkFault}
use Rattle.mbdc_commands.specs.declared.words.fault.LinkFault.TheVariants.{NoLine, Twice, Scheme, Port, Path}

-- how a line's link is spelled: its digit, from 1, and the link
abbrev pub line_word : ℕ → LinkName → List ℕ
line_word place link = ((49 + place) ∷ []) ++ (codes "=" ++ word_of link)

-- a line that had no link has that one now, and each other line what it had
pub record Adds (place : ℕ) (link : LinkName) (old new : List (Option LinkName)) : Type 0 where
  pub within : place ≤ 7
  pub free : slice_index_or old place None ≡ None
  pub added : new ≡ slice_set old place (Some link)

-- the word has the digit of this line, `=`, and this text
pub record SpellsLine (place : ℕ) (text word : List ℕ) : Type 0 where
  pub line : place ≤ 7
  pub spelled : word ≡ (49 + place) ∷ (61 ∷ text)

-- a line has a link already
abbrev pub IsTaken : ℕ → List (Option LinkName) → Type 0
IsTaken place links = IsSome (slice_index_or links place None)

-- the word of a line whose link is at fault
abbrev pub HasBadLink : LinkFault → List ℕ → Type 0
HasBadLink fault word = (place : ℕ) × (text : List ℕ) × SpellsLine place text word × IsMistake fault text

-- the words that are refused for a mistake, where these links are given
abbrev pub IsLineMistake : LinkFault → List ℕ → List (Option LinkName) → Type 0
IsLineMistake NoLine word links = (place : ℕ) (text : List ℕ) → ¬ (SpellsLine place text word)
IsLineMistake Twice word links = (place : ℕ) × (link : LinkName) × SpellsLine place (word_of link) word
    × IsLink link × IsTaken place links
IsLineMistake Scheme word links = HasBadLink Scheme word
IsLineMistake Port word links = HasBadLink Port word
IsLineMistake Path word links = HasBadLink Path word
