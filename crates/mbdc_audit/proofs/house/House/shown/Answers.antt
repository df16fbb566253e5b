use Rattle.mbdc_audit.specs.View.{house_of, key_of}
use Rattle.mbdc_audit.proofs.Shown.{a_mark, a_number, graded, no_number}
use Rattle.mbdc_audit.proofs.house.House.shown.Goals as goal

pub returns-in_default : goal.returns-in_default
returns-in_default g c = λ same order le.
    let is = graded c.args.place.now c.args.window.now c.as_slice-runs.result.now c.as_slice-values.result.now c.args.number.now.from c.args.number.now.to c.in_ok-amount.amount
    c.as_slice-runs.ensures.value c.as_slice-values.ensures.value same order le c.in_ok-amount.ensures in (
      no_number (house_of c.args.self.now) c.args.place.now c.args.window.now (key_of c.args.number.now) c.in_ok-amount.amount is c.in_default.is,
      a_mark c.args.place.now c.args.window.now (key_of c.args.number.now) c.in_ok-amount.amount is,
    )

pub returns : goal.returns
returns g c = λ same order le.
    let is = graded c.args.place.now c.args.window.now c.as_slice-runs.result.now c.as_slice-values.result.now c.args.number.now.from c.args.number.now.to c.in_ok-amount.amount
    c.as_slice-runs.ensures.value c.as_slice-values.ensures.value same order le c.in_ok-amount.ensures in (
      a_number (house_of c.args.self.now) c.args.place.now c.args.window.now (key_of c.args.number.now) c.in_ok-amount.amount c.in-Some.plain c.from.result c.from-2.result c.from-3.result c.in_ok-exact.exact
          is c.in-Some.is c.from.ensures c.from-2.ensures c.from-3.ensures c.in_ok-exact.ensures,
      a_mark c.args.place.now c.args.window.now (key_of c.args.number.now) c.in_ok-amount.amount is,
    )
