use Rattle.std.proofs.Common.{◌≡◌, ◌↔◌, AllPairs, IsTrue, take}
use Rattle.mbdc_audit.specs.Walk.{is_clean}
use Rattle.mbdc_audit.proofs.teller.Teller.check_users.Given as goal

abbrev pub invariant-users : goal.invariant-users
invariant-users g l = IsTrue (is_clean l.self.counts) ↔ (IsTrue (is_clean l.initial.self.counts)
    × AllPairs (λ a b. a.flat.now ≡ b.flat.now → a.area ≡ b.area) (take l.i l.users))
