use Rattle.dc_meters.proofs.Keeps.{IsKept-empty}
use Rattle.dc_meters.proofs.house.House.new.Goals as goal

pub invariant_of-result : goal.invariant_of-result
invariant_of-result g c = rw (c.new.ensures, c.new-2.ensures, c.empty.ensures) (IsKept-empty c.args.budget c.requires)
