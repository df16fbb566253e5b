use Rattle.std.proofs.Common.{◌≡◌}
use Rattle.dc_sectors.specs.Memory.{pending_below, counts_of}
use Rattle.dc_sectors.proofs.memory.MemoryDisk.pending.Given as goal

abbrev pub invariant-loop-n : goal.invariant-loop-n
invariant-loop-n g l = l.pending.items ≡ pending_below (counts_of l.self-inside.writes.items) l.n
