-- The links of a command, or its ending without them (this product).
use Rattle.std.specs.Prelude.{Result, Ok, Err}
use Rattle.mbdc_ending.specs.declared.ending.Ending.{Ending}
use Rattle.mbdc_ending.specs.declared.ending.Ending.TheVariants.{Gateway, Memory}
use Rattle.mbdc_raw.specs.declared.links.reach.connecting.Unconnected.{Unconnected}
use Rattle.mbdc_raw.specs.declared.links.reach.connecting.Unconnected.TheVariants.{Link, NoMemory}

-- Links that were connected are used; without them the command ends by a gateway, or where memory ran out by memory.
abbrev pub linked : {P E : Type 0} → Result P (Unconnected E) → Result P Ending
linked (Ok links) = Ok links
linked (Err (Link missed)) = Err Gateway
linked (Err NoMemory) = Err Memory
