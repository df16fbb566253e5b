use Rattle.std.proofs.Common.{◌≡◌, ◌↔◌, IsTrue, take, map}
use Rattle.mbdc_audit.specs.Walk.{is_clean}
use Rattle.mbdc_audit.specs.View.{house_of, part_of}
use Rattle.mbdc_audit.proofs.Reached.{SoFar, end_after}
use Rattle.mbdc_audit.proofs.teller.Teller.check_parts.Given as goal

abbrev pub invariant-parts : goal.invariant-parts
invariant-parts g l = (l.reached ≡ end_after l.fn.time.0 (map part_of (take l.part-index l.parts)))
    × (IsTrue (is_clean l.self.counts) ↔ (IsTrue (is_clean l.initial.self.counts)
    × SoFar (house_of l.house) l.place.flat.now l.fn.time.0 l.end (map part_of (take l.part-index l.parts))))
