use Rattle.std.proofs.Common.{◌≡◌, ◌*◌, ◌≤◌, take}
use Rattle.mbdc_change.specs.Size.{parts_size}
use Rattle.dc_meters.proofs.part.parts_size.Given as goal

-- the sizes so far
abbrev pub invariant-loop-part : goal.invariant-loop-part
invariant-loop-part g l = (l.size ≡ parts_size (take l.part-index l.parts)) × (l.size ≤ 261 * l.part-index)
