use Rattle.std.proofs.Common.{◌≡◌, ◌<◌, ◌≤◌, ℕ, length}
use Rattle.dc_sectors.specs.Record.{image_of, writes_after}
use Rattle.dc_sectors.specs.Memory.{pending_below, picked_from}
use Rattle.dc_sectors.proofs.memory.pick_each.Given as goal

abbrev pub invariant-loop-n : goal.invariant-loop-n
invariant-loop-n l = record {
  next : l.next ≡ length (pending_below (writes_after l.events) l.n);
  few : l.next ≤ l.n;
  below : (m : ℕ) → m < l.n → image_of l.reads m ≡ picked_from (image_of l.start) l.events l.picks m;
  above : (m : ℕ) → l.n ≤ m → image_of l.reads m ≡ image_of l.fn.reads m;
}
