-- A line's word is refused for the mistake of its link.
use Rattle.std.proofs.Common.{ℕ, List, Option}
use Rattle.mbdc_commands.specs.Link.{IsMistake}
use Rattle.mbdc_commands.specs.Links.{SpellsLine, IsLineMistake}
use Rattle.mbdc_commands.specs.declared.words.link.LinkName.{LinkName}
use Rattle.mbdc_commands.specs.declared.words.fault.LinkFault.{LinkFault}
use Rattle.mbdc_commands.specs.declared.words.fault.LinkFault.TheVariants.{NoLine, Twice, Scheme, Port, Path}

pub bad_link : (fault : LinkFault) (place : ℕ) (text word : List ℕ) (links : List (Option LinkName))
    → SpellsLine place text word → IsMistake fault text → IsLineMistake fault word links
bad_link NoLine place text word links spelled is = absurd is
bad_link Twice place text word links spelled is = absurd is
bad_link Scheme place text word links spelled is = (place, text, spelled, is)
bad_link Port place text word links spelled is = (place, text, spelled, is)
bad_link Path place text word links spelled is = (place, text, spelled, is)
