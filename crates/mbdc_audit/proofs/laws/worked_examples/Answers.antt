use Rattle.std.proofs.Common.{refl}
use Rattle.mbdc_audit.specs.Consumption.Curve.{curve}
use Rattle.mbdc_audit.specs.Consumption.Step.{total_by}
use Rattle.mbdc_audit.proofs.laws.worked_examples.Goals as goal

pub returns : goal.returns
unfolding curve total_by
returns c = record {
  amount = λ i. refl;
  measured = λ i. refl;
  between = λ i. refl;
  turned = λ i. refl;
  turned_by_hand = λ i. refl;
  backwards = λ i. refl;
  again = λ i. refl;
}
