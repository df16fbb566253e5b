use Rattle.std.proofs.Common.{◌∙◌, Err, inl, inr, ap, refl, sym}
use Rattle.mbdc_log.specs.declared.fault.FormatFault.TheVariants.{TooSmall}
use Rattle.mbdc_log.specs.declared.rescuing.RenewFault.TheVariants.{Format}
use Rattle.mbdc_commands.proofs.rescue.rescue_over.Goals as goal

pub returns-in-Err-clause-refused : goal.returns-in-Err-clause-refused
returns-in-Err-clause-refused g c = inl (record {
  fault = c.in-Err.fault;
  ends = c.ending_of.ensures;
  small = λ few. let no = sym c.in-Err.is ∙ c.rescue.ensures.small few in cc;
  device = λ e. c.rescue.ensures.counts.failed (c.in-Err.is ∙ ap (λ f. Err f) e);
  lost = c.in-Err.ensures.lost;
})

pub returns-then-count-clause-refused : goal.returns-then-count-clause-refused
returns-then-count-clause-refused g c = inr (Format TooSmall, refl)
