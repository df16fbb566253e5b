use Rattle.std.proofs.Common.{◌≡◌, drop}
use Rattle.mbdc_audit.specs.Totals.{basis_of, basis_on}
use Rattle.mbdc_audit.proofs.totals.Sums.basis.Given as goal

-- what the users so far give, and those that are left, make the whole
abbrev pub invariant-users : goal.invariant-users
invariant-users g l = basis_on l.self.house.now.places.items l.basis (drop l.i l.self.house.now.users.items) ≡ basis_of l.span l.used l.self.house.now.places.items l.self.house.now.users.items
