use Rattle.std.proofs.Common.{◌≡◌, ◌+◌, ◌-◌, ◌^◌, ◌≤◌, length, min}
use Rattle.mbdc_json.specs.LatestValues.{counted}
use Rattle.mbdc_json.proofs.latest.lines.put_unread.Given as goal

-- those so far, and those that are left, are all
abbrev pub invariant-loop-sent : goal.invariant-loop-sent
invariant-loop-sent g l = record {
  can : (goal.iterator-loop-sent g).can_next l._sent-iterator;
  ends : (goal.iterator-loop-sent g).is_finite l._sent-iterator;
  fits : l.count ≤ 2 ^ 64 - 1;
  all : min (l.count + length l._sent-iterator) (2 ^ 64 - 1) ≡ counted l.fn.unread;
}
