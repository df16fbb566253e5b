-- What is wrong with the words (this product).
use Rattle.mbdc_commands.specs.declared.words.fault.WordsFault.{WordsFault}
use Rattle.mbdc_commands.specs.declared.words.fault.WordsFault.TheVariants.{Clap, Link, Meter, Reached, NoLink}
use Rattle.mbdc_commands.specs.declared.words.fault.WordsFault.TheVariants.{Silence, Dash, Flat, Address, NoMemory}

-- what is said where they are a mistake of which `clap` knows nothing
abbrev pub IfMistake : WordsFault → Type 0 → Type 0
IfMistake (Clap error) said = Unit {0}
IfMistake (Link fault) said = said
IfMistake Meter said = said
IfMistake Reached said = said
IfMistake NoLink said = said
IfMistake Silence said = said
IfMistake Dash said = said
IfMistake Flat said = said
IfMistake Address said = said
IfMistake NoMemory said = Unit {0}
