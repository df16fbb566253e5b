use Rattle.std.proofs.Common.{◌≡◌, take, map, []}
use Rattle.dc_readout.specs.Meter.{first_position}
use Rattle.dc_readout.proofs.world.world.World.new.Given as goal

abbrev pub invariant-loop-i : goal.invariant-loop-i
invariant-loop-i g l = record { stand : l.positions.items ≡ map (λ meter. first_position) (take l.i l.scripts); none_open : l.open_parts.items ≡ map (λ meter. []) (take l.i l.scripts) }
