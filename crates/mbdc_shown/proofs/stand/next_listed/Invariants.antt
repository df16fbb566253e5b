use Rattle.std.proofs.Common.{◌≡◌}
use Rattle.mbdc_shown.specs.Stand.{listed}
use Rattle.mbdc_shown.proofs.stand.next_listed.Given as goal

-- no record so far is in the list
abbrev pub invariant-loop-sent : goal.invariant-loop-sent
invariant-loop-sent l = record {
  can : goal.iterator-loop-sent.can_next l.records;
  ends : goal.iterator-loop-sent.is_finite l.records;
  left : listed l.list l.records ≡ listed l.list l.initial.records;
}
