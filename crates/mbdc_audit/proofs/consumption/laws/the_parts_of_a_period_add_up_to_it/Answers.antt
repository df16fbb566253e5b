use Rattle.mbdc_audit.specs.Consumption.Curve.{curve}
use Rattle.mbdc_audit.proofs.Consumed.Rising.{two_periods}
use Rattle.mbdc_audit.proofs.Consumed.Risen.{rising_curve}
use Rattle.mbdc_audit.proofs.Consumed.House.{place_by_periods}
use Rattle.mbdc_audit.proofs.consumption.laws.the_parts_of_a_period_add_up_to_it.Goals as goal

pub returns : goal.returns
returns c = record {
  two = λ entries from middle to order. two_periods (curve entries) (rising_curve entries order) from middle to;
  many = place_by_periods;
}
