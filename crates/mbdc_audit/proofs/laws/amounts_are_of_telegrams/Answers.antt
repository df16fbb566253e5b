use Rattle.mbdc_audit.proofs.Consumed.Rising.{two_periods}
use Rattle.mbdc_audit.proofs.Consumed.Risen.{rising_curve}
use Rattle.mbdc_audit.specs.Consumption.Curve.{curve}
use Rattle.mbdc_audit.specs.Amount.{entries}
use Rattle.mbdc_audit.proofs.Parts.{add_up}
use Rattle.mbdc_audit.proofs.Records.{one_amount}
use Rattle.mbdc_audit.proofs.Tiles.{tile}
use Rattle.mbdc_audit.proofs.Told.{alone, free}
use Rattle.mbdc_audit.proofs.laws.amounts_are_of_telegrams.Goals as goal

pub returns : goal.returns
returns c = record {
  alone = alone;
  free = free;
  records = one_amount;
  parts = λ runs values. add_up (entries runs values);
  periods = λ runs values from middle to order.
      two_periods (curve (entries runs values)) (rising_curve (entries runs values) order) from middle to;
  spans = tile;
}
