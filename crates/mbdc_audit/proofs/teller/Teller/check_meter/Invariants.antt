use Rattle.std.proofs.Common.{◌↔◌, List, All, IsTrue, take, slice_get}
use Rattle.std.specs.Prelude.{IfSome}
use Rattle.mbdc_audit.specs.Sound.{Fitted, IsOnce}
use Rattle.mbdc_audit.specs.Walk.{IsMet, fit, is_clean, key_of}
use Rattle.mbdc_audit.proofs.teller.Teller.check_meter.Given as goal

abbrev pub invariant-numbers : goal.invariant-numbers
invariant-numbers g l = (xs : List Fitted) → IsMet key_of fit l.met xs → IsTrue (is_clean l.self.counts)
    ↔ (IsTrue (is_clean l.initial.self.counts) × All (λ n. IfSome (slice_get xs n) (λ x. IsOnce x (fit l.one))) (take l.number-index l.numbers))
