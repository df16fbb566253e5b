use Rattle.std.proofs.Common.{◌≡◌, ◌++◌, List, length}
use Rattle.dc_address.specs.declared.identity.Identity.{Identity as Meter}
use Rattle.dc_meters.specs.Means.{AreMeant, IsFirstFault}
use Rattle.dc_meters.specs.declared.named.meaning.NameFault.{NameFault}
use Rattle.dc_meters.proofs.named.meaning.resolve_all.Given as goal

-- what the names that are left mean goes on what those so far mean, and a fault of one that is left is the first
abbrev pub invariant-names : goal.invariant-names
invariant-names g l = record {
  meant : (more : List Meter) → AreMeant l.house.state l.rest more → AreMeant l.house.state l.names (l.meters.items ++ more);
  first : (fault : NameFault) → IsFirstFault l.house.state l.rest fault → IsFirstFault l.house.state l.names fault;
}

abbrev pub decreases-names : goal.decreases-names
decreases-names g l = length l.rest
