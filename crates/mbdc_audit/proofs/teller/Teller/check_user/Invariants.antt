use Rattle.std.proofs.Common.{◌↔◌, List, All, IsTrue, take, slice_get}
use Rattle.std.specs.Prelude.{IfSome}
use Rattle.mbdc_audit.specs.Sound.{IsOneTenancy, Lived}
use Rattle.mbdc_audit.specs.Walk.{IsMet, is_clean, key_lived, live}
use Rattle.mbdc_audit.proofs.teller.Teller.check_user.Given as goal

abbrev pub invariant-numbers : goal.invariant-numbers
invariant-numbers g l = (xs : List Lived) → IsMet key_lived live l.met xs → IsTrue (is_clean l.self.counts)
    ↔ (IsTrue (is_clean l.initial.self.counts) × All (λ n. IfSome (slice_get xs n) (λ x. IsOneTenancy x (live l.one))) (take l.number-index l.numbers))
