use Rattle.std.proofs.Common.{◌≡◌, ◌++◌, ◌-◌, drop, length, map}
use Rattle.mbdc_shown.specs.Stand.{bodies_sent, listed}
use Rattle.mbdc_shown.proofs.stand.ListedIterator.next.Given as goal

-- no telegram so far has a record of the list
abbrev pub invariant-bodies : goal.invariant-bodies
invariant-bodies l = record {
  list : l.self-inside.list ≡ l.initial.self-inside.list;
  bodies : l.self-inside.bodies ≡ l.initial.self-inside.bodies;
  left : listed l.self-inside.list (l.self-inside.records ++ bodies_sent (map (λ s. s.now) (drop l.self-inside.gone l.self-inside.bodies.now))) ≡ listed l.initial.self-inside.list (l.initial.self-inside.records ++ bodies_sent (map (λ s. s.now) (drop l.initial.self-inside.gone l.initial.self-inside.bodies.now)));
}

abbrev pub decreases-bodies : goal.decreases-bodies
decreases-bodies l = length l.self-inside.bodies.now - l.self-inside.gone
