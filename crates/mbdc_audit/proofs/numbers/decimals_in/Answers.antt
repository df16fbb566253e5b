use Rattle.std.proofs.Common.{arith}
use Rattle.mbdc_audit.proofs.TextsOf.{none_at, some_at}
use Rattle.mbdc_audit.proofs.numbers.decimals_in.Goals as goal

pub returns-in_default-clause-all : goal.returns-in_default-clause-all
returns-in_default-clause-all c = λ x d few is. none_at x d c.args.text.now is c.in_default.ensures

pub returns-then-decimals-le-MOST_DECIMALS-clause-all : goal.returns-then-decimals-le-MOST_DECIMALS-clause-all
returns-then-decimals-le-MOST_DECIMALS-clause-all c = λ x d few is.
    let e = some_at x d c.in-Some.point c.args.text.now is c.in-Some.ensures in
    omega (arith, e, c.saturating_sub.ensures, c.saturating_sub-decimals.ensures)

pub returns-else-decimals-le-MOST_DECIMALS-clause-all : goal.returns-else-decimals-le-MOST_DECIMALS-clause-all
returns-else-decimals-le-MOST_DECIMALS-clause-all c = λ x d few is.
    let e = some_at x d c.in-Some.point c.args.text.now is c.in-Some.ensures in
    absurd (omega (arith, e, few, c.saturating_sub.ensures, c.saturating_sub-decimals.ensures, c.if-decimals-le-MOST_DECIMALS.false))
