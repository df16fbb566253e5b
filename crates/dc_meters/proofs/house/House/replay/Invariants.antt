use Rattle.std.proofs.Common.{length}
use Rattle.dc_meters.specs.Replay.{IsApplied}
use Rattle.dc_meters.proofs.house.House.replay.Given as goal

abbrev pub invariant-loop-rest : goal.invariant-loop-rest
invariant-loop-rest g l = IsApplied l.fn.self l.self l.bytes l.rest

abbrev pub decreases-loop-rest : goal.decreases-loop-rest
decreases-loop-rest g l = length l.rest
