use Rattle.std.proofs.Common.{◌≡◌, ◌++◌, drop, length}
use Rattle.mbdc_shown.specs.Stand.{bodies_of}
use Rattle.mbdc_shown.proofs.bodies.Bodies.of.Given as goal

-- those so far, and those that are left, are all
abbrev pub invariant-parts : goal.invariant-parts
invariant-parts g l = record {
  count : length l.bodies ≡ l.part-index;
  all : l.bodies ++ bodies_of (drop l.part-index l.parts) ≡ bodies_of l.parts;
}
