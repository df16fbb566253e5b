use Rattle.std.proofs.Common.{◌≡◌, [], true, refl}
use Rattle.mbdc_audit.specs.Published.{IsValueOf}
use Rattle.mbdc_audit.specs.View.{number_of}
use Rattle.mbdc_audit.proofs.PlacedNumbers.{checks_same, value_is}
use Rattle.mbdc_audit.proofs.Said.{text_by}
use Rattle.mbdc_audit.proofs.teller.Teller.judge_value.Goals as goal

pub returns-clause-right : goal.returns-clause-right
returns-clause-right g c = λ none all pairs o same.
    checks_same c.end_number.result c.args.self.now.counts c.end_number.new.self.counts
    (c.is_value-is_right.result ≡ true) (IsValueOf o (number_of c.args.number.now))
    (value_is o c.args.number.now c.args.window.now.values.items c.as_slice.result.now _ c.found_at-found.result c.is_value-is_right.result
    none all pairs same c.as_slice.ensures.value
    (text_by c.args.number.now c.args.number.now.said (record { ref_ptr = (0, 0); now = [] }) refl)
    c.found_at-found.ensures c.is_value-is_right.ensures) c.end_number.ensures
