use Rattle.std.proofs.Common.{◌∙◌, ap, sym, subst}
use Rattle.std.specs.Prelude.{is_some}
use Rattle.std.proofs.lemmas.Bool.{not-true}
use Rattle.mbdc_poll.specs.Filtered.{goes_out}
use Rattle.mbdc_poll.proofs.filtered.FilteredHalfBus.send.Goals as goal

pub returns-in-Some-clause-step : goal.returns-in-Some-clause-step
returns-in-Some-clause-step g c = goes_out c.in-Some.out (sym c.if-is_lost.ensures.lost)
    (subst (λ out. g.F.Filter.asks c.args.self.now.filter c.args.request.now out c.ask-out.new.self) c.in-Some.is c.ask-out.ensures.step) c.send-in-Some.ensures.step
    (not-true c.is_none-self.result (sym c.is_none-self.ensures ∙ ap is_some c.in-Some.is))
