use Rattle.std.proofs.Common.{◌≡◌, take, filter}
use Rattle.std.specs.Option.{option_to_list}
use Rattle.dc_address.specs.Mask.{matches}
use Rattle.dc_search.proofs.bus.matches_on.Given as goal

abbrev pub invariant-loop-meter : goal.invariant-loop-meter
invariant-loop-meter l = filter (matches l.mask) (take l.meter-index l.bus) ≡ option_to_list l.only
