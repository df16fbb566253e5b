use Rattle.std.proofs.Common.{◌∙◌, ap, sym, subst}
use Rattle.mbdc_poll.specs.Filtered.{of_bus, of_lost}
use Rattle.mbdc_poll.proofs.filtered.FilteredHalfBus.hear.Goals as goal
use Rattle.mbdc_poll.proofs.filtered.FilteredHalfBus.hear.Goals.{then-was_lost, else-was_lost}

pub returns-clause-answer : goal.returns-clause-answer
returns-clause-answer g c = elim c.if-was_lost.branch [
  | then-was_lost w ↦ of_lost c.if-self.false (sym w.if-was_lost.ensures.lost)
      (subst (λ bus. g.B.HalfBus.gives c.args.self.now.bus c.if-was_lost.result bus) (sym (ap (λ s. s.bus) w.self-is))
      (subst (λ bytes. g.B.HalfBus.gives c.args.self.now.bus bytes c.hear.new.self) (sym w.result-is) c.in_ok-answer.ensures.answer))
      (w.self-is ∙ ap (λ bus. record { bus = bus; filter = c.args.self.now.filter; withholds = c.args.self.now.withholds }) (sym (ap (λ s. s.bus) w.self-is)))
  | else-was_lost w ↦ of_bus c.in_ok-answer.answer c.if-self.false (sym w.if-was_lost.ensures.lost)
      (subst (λ bus. g.B.HalfBus.gives c.args.self.now.bus c.in_ok-answer.answer bus) (sym (ap (λ s. s.bus) w.self-is)) c.in_ok-answer.ensures.answer)
      (subst (λ filter. g.F.Filter.hears c.args.self.now.filter c.in_ok-answer.answer c.if-was_lost.result filter) (sym (ap (λ s. s.filter) w.self-is))
      (subst (λ bytes. g.F.Filter.hears c.args.self.now.filter c.in_ok-answer.answer bytes w.hear-else-was_lost.new.self) (sym w.result-is) w.hear-else-was_lost.ensures.step))
      (ap (λ s. s.withholds) w.self-is ∙ c.if-self.false)
]
