use Rattle.std.proofs.Common.{◌≡◌, None, Some, sym, ap, ◌∙◌}
use Rattle.std.specs.Prelude.{◌==◌, find}
use Rattle.mbdc_audit.specs.declared.exact.Exact.{Exact}
use Rattle.mbdc_audit.proofs.Mean.{few, given_by, mean, no_area, no_user}
use Rattle.mbdc_audit.proofs.totals.Sums.mean.Goals as goal

pub returns-in_default-clause-found : goal.returns-in_default-clause-found
returns-in_default-clause-found g c = λ graded.
    let found : find (λ u. u.number == c.args.number.now.user) c.args.self.now.house.now.users.items ≡ None = sym c.user.ensures ∙ c.in_default.is in
    sym (no_user c.args.self.now.house.now c.args.number.now.span c.args.number.now.used c.args.number.now.unit c.args.number.now.user found)

pub returns-in_default-area-clause-found : goal.returns-in_default-area-clause-found
returns-in_default-area-clause-found g c = λ graded.
    let found : find (λ u. u.number == c.args.number.now.user) c.args.self.now.house.now.users.items ≡ Some c.in-Some.user = sym c.user.ensures ∙ c.in-Some.is in
    sym (no_area c.args.self.now.house.now c.args.number.now.span c.args.number.now.used c.args.number.now.unit c.args.number.now.user c.in-Some.user found c.in_default-area.is)

pub returns-in-Some-declared-clause-found : goal.returns-in-Some-declared-clause-found
returns-in-Some-declared-clause-found g c = λ graded.
    let found : find (λ u. u.number == c.args.number.now.user) c.args.self.now.house.now.users.items ≡ Some c.in-Some.user = sym c.user.ensures ∙ c.in-Some.is in
    given_by c.args.self.now.house.now c.args.number.now.span c.args.number.now.used c.args.number.now.unit c.args.number.now.user c.in-Some.user c.in-Some-area.area c.in-Some-declared.average
    c.from.result c.from-in-Some-declared.result found c.in-Some-area.is (sym c.in-Some-declared.ensures) c.from.ensures c.from-in-Some-declared.ensures

pub returns-then-basis-lt-FEWEST_COMPARED-clause-found : goal.returns-then-basis-lt-FEWEST_COMPARED-clause-found
returns-then-basis-lt-FEWEST_COMPARED-clause-found g c = λ graded.
    let found : find (λ u. u.number == c.args.number.now.user) c.args.self.now.house.now.users.items ≡ Some c.in-Some.user = sym c.user.ensures ∙ c.in-Some.is in
    sym (few c.args.self.now.house.now c.args.number.now.span c.args.number.now.used c.args.number.now.unit c.args.number.now.user c.in-Some.user c.in-Some-area.area c.in_ok-basis.basis
    found c.in-Some-area.is (sym c.in_default-declared.ensures) graded c.in_ok-basis.ensures.found c.if-basis-lt-FEWEST_COMPARED.true)

pub returns-clause-found : goal.returns-clause-found
returns-clause-found g c = λ graded.
    let found : find (λ u. u.number == c.args.number.now.user) c.args.self.now.house.now.users.items ≡ Some c.in-Some.user = sym c.user.ensures ∙ c.in-Some.is in
    ap (λ (x : Exact). Some x) c.in_ok-times.ensures
    ∙ sym (mean c.args.self.now.house.now c.args.number.now.span c.args.number.now.used c.args.number.now.unit c.args.number.now.user c.in-Some.user c.in-Some-area.area c.in_ok-basis.basis c.in_ok-exact.exact
    found c.in-Some-area.is (sym c.in_default-declared.ensures) graded c.in_ok-basis.ensures.found c.if-basis-lt-FEWEST_COMPARED.false c.in_ok-exact.ensures)
