use Rattle.std.proofs.Common.{◌≡◌, ◌++◌, drop, length, map}
use Rattle.mbdc_json.proofs.journal.kept.Kept.bodies.Given as goal

-- those so far, and those that are left, are all
abbrev pub invariant-bodies : goal.invariant-bodies
invariant-bodies g l = record {
  count : length l.bodies ≡ l.body-index;
  all : l.bodies ++ map (λ b. b.items) (drop l.body-index l.body-items) ≡ l.self;
}
