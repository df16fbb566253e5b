use Rattle.std.proofs.Common.{◌≡◌, drop, map}
use Rattle.json.specs.Value.{items_view}
use Rattle.mbdc_json.specs.Bodies.{all_bodies}
use Rattle.mbdc_json.proofs.Bodies.{before}
use Rattle.mbdc_json.proofs.journal.kept.all_bodies.Given as goal

-- those so far, and those that are left, are all
abbrev pub invariant-items : goal.invariant-items
invariant-items g l = before (map (λ b. b.items) l.bodies.items) (all_bodies (items_view (drop l.item-index l.items))) ≡ all_bodies (items_view l.items)
