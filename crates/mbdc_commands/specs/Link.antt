-- How a link is spelled (this product): a scheme and a place. A place is HOST:PORT; where the host is an IPv6 address,
-- the port follows the last colon.
use Rattle.std.specs.Prelude.{◌≡◌, ◌≢◌, ◌⊎◌, ◌<◌, ◌≤◌, ℕ, List, ◌∷◌, ◌++◌, length, codes}
use Rattle.std.specs.Str.Parse.{IsNumeral, digits_value}
use Rattle.mbdc_commands.specs.declared.words.link.LinkName.{LinkName}
use Rattle.mbdc_commands.specs.declared.words.link.LinkName.TheVariants.{Tcp, Serial, Blocks}
use Rattle.mbdc_commands.specs.declared.words.fault.LinkFault.{LinkFault}
use Rattle.mbdc_commands.specs.declared.words.fault.LinkFault.TheVariants.{NoLine, Twice, Scheme, Port, Path}

abbrev pub word_of : LinkName → List ℕ
word_of (Tcp place) = codes "tcp://" ++ place.now
word_of (Serial path) = codes "serial:" ++ path.now
word_of (Blocks place) = codes "blocks://" ++ place.now

-- a port: the decimal digits of a number from 1 to 65535
pub record IsPort (port : List ℕ) : Type 0 where
  pub digits : IsNumeral 10 port
  pub least : 1 ≤ digits_value 10 port
  pub most : digits_value 10 port ≤ 65535

-- a host of one character or more, a colon, and a port
pub record Places (place host port : List ℕ) : Type 0 where
  pub spelled : place ≡ host ++ (58 ∷ port)
  pub named : 0 < length host
  pub port_is : IsPort port

abbrev pub IsPlace : List ℕ → Type 0
IsPlace place = (host : List ℕ) × (port : List ℕ) × Places place host port

-- what may follow the scheme: a place, or the path of a terminal
abbrev pub IsLink : LinkName → Type 0
IsLink (Tcp place) = IsPlace place.now
IsLink (Serial path) = 0 < length path.now
IsLink (Blocks place) = IsPlace place.now

-- a word of this scheme names no place
abbrev pub LacksPlace : List ℕ → List ℕ → Type 0
LacksPlace scheme word = (place : List ℕ) × (word ≡ scheme ++ place) × ¬ (IsPlace place)

-- the words that are refused for a mistake; no link is refused for the last two
abbrev pub IsMistake : LinkFault → List ℕ → Type 0
IsMistake Scheme word = (rest : List ℕ) →
    (word ≢ codes "tcp://" ++ rest) × (word ≢ codes "blocks://" ++ rest) × (word ≢ codes "serial:" ++ rest)
IsMistake Port word = LacksPlace (codes "tcp://") word ⊎ LacksPlace (codes "blocks://") word
IsMistake Path word = word ≡ codes "serial:"
IsMistake NoLine word = ⊥
IsMistake Twice word = ⊥
