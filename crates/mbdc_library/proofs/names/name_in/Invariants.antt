use Rattle.std.proofs.Common.{◌≡◌, length, map}
use Rattle.mbdc_library.specs.Names.{name_in}
use Rattle.mbdc_library.proofs.names.name_in.Given as goal

-- the names that are left have the name at the place that is left
abbrev pub invariant-loop-names : goal.invariant-loop-names
invariant-loop-names l = name_in (map (λ s. s.now) l.names) l.left ≡ name_in (map (λ s. s.now) l.initial.names) l.place

abbrev pub decreases-loop-names : goal.decreases-loop-names
decreases-loop-names l = length l.names
