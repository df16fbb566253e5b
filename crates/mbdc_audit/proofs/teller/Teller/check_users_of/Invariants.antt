use Rattle.std.proofs.Common.{List, map, take}
use Rattle.mbdc_audit.specs.Sound.{IsOneTenancy, Lived}
use Rattle.mbdc_audit.specs.View.{part_of}
use Rattle.mbdc_audit.specs.Walk.{IsMet, Meets, key_lived, live}
use Rattle.mbdc_audit.proofs.teller.Teller.check_users_of.Given as goal

abbrev pub invariant-parts : goal.invariant-parts
invariant-parts g l = (xs : List Lived) → IsMet key_lived live l.initial.met xs → Meets key_lived live IsOneTenancy l.initial.self.counts
    l.self.counts l.met xs (map (λ x. record { flat = l.flat; part = part_of x }) (take l.part-index l.parts))
