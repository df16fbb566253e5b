use Rattle.mbdc_audit.proofs.Consumed.Refuted.{above_the_next, alone, below_the_one_before}
use Rattle.mbdc_audit.proofs.consumption.laws.a_refuted_value_marks_its_steps.Goals as goal

pub returns : goal.returns
returns c = record { above = above_the_next; below = below_the_one_before; alone = alone }
