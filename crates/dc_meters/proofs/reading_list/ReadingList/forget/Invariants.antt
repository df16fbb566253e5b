use Rattle.std.proofs.Common.{◌≡◌, ◌+◌, filter, nat_lt, sum_by, length}
use Rattle.mbdc_change.specs.Size.{reading_size}
use Rattle.dc_meters.proofs.reading_list.ReadingList.forget.Given as goal

-- those that are gone, and of those that are left the ones that stay
abbrev pub invariant-loop-reading : goal.invariant-loop-reading
invariant-loop-reading g l = record {
  size : l.size + sum_by reading_size l.self.items ≡ sum_by reading_size l.initial.self.items;
  kept : filter (λ r. nat_lt l.serial r.serial) l.self.items ≡ filter (λ r. nat_lt l.serial r.serial) l.initial.self.items;
}

abbrev pub decreases-loop-reading : goal.decreases-loop-reading
decreases-loop-reading g l = length l.self.items
