use Rattle.std.proofs.Common.{List, flat_map, map, take}
use Rattle.mbdc_audit.specs.Sound.{IsOneTenancy, Lived}
use Rattle.mbdc_audit.specs.View.{part_of}
use Rattle.mbdc_audit.specs.Walk.{IsMet, Meets, key_lived, live}
use Rattle.mbdc_audit.proofs.teller.Teller.check_tenancy.Given as goal

abbrev pub invariant-windows : goal.invariant-windows
invariant-windows g l = (xs : List Lived) → IsMet key_lived live l.initial.met xs → Meets key_lived live IsOneTenancy l.initial.self.counts
    l.self.counts l.met xs (flat_map (λ w. map (λ x. record { flat = l.place.flat.now; part = part_of x }) w.parts.items)
    (take l.window-index l.place.windows.items))
