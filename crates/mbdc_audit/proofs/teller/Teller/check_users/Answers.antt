use Rattle.std.proofs.Common.{◌≡◌, ◌<◌, ◌≤◌, length, arith}
use Rattle.mbdc_audit.proofs.Checks.{link, same, pairs_at, pairs_full}
use Rattle.mbdc_audit.proofs.teller.Teller.check_users.Goals as goal

pub users-preserved : goal.users-preserved
users-preserved g c =
    let below : c.users.i < length c.args.users.now = omega arith in
    link c.users.invariant (same c.in_ok-unless.ensures c.is_one_flat.ensures)
    (pairs_at (λ a b. a.flat.now ≡ b.flat.now → a.area ≡ b.area) c.args.users.now c.users.i _ below)

pub returns : goal.returns
returns g c =
    let past : length c.args.users.now ≤ c.users.i = omega arith in
    same c.users.invariant (pairs_full (λ a b. a.flat.now ≡ b.flat.now → a.area ≡ b.area) c.args.users.now c.users.i past)
