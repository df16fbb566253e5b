use Rattle.mbdc_audit.proofs.AllOpened.{house_beside, mark_beside}
use Rattle.mbdc_audit.proofs.totals.Sums.summed.Goals as goal

pub returns-in-House-clause-beside : goal.returns-in-House-clause-beside
returns-in-House-clause-beside g c = λ sound graded.
    house_beside c.args.self.now.house.now c.args.holder c.args.number.now.span c.args.number.now.used c.in_ok-exact.total c.in-House.is sound graded (c.in_ok-exact.ensures.total sound)

pub returns-in_default : goal.returns-in_default
returns-in_default g c = record {
  exact = c.in_ok-exact.ensures.sum;
  beside = λ sound graded.
      mark_beside c.args.self.now.house.now c.args.holder c.args.number.now.span c.args.number.now.used c.in_ok-exact.total c.in_default.not-House graded (c.in_ok-exact.ensures.total sound);
}
