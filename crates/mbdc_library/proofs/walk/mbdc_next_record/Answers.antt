use Rattle.std.proofs.Common.{◌≡◌, ℕ, Some, sym, ap, ◌∙◌, arith}
use Rattle.mbdc_reading.specs.declared.content.content.Content.{Content}
use Rattle.mbdc_reading.specs.Content.{content_of, content_view, variable, variable_view}
use Rattle.mbdc_library.proofs.Bodies.{narrow, sent_is_next}
use Rattle.mbdc_library.proofs.walk.mbdc_next_record.Goals as goal

pub returns-in-Some-Variable-clause-next : goal.returns-in-Some-Variable-clause-next
returns-in-Some-Variable-clause-next c = λ done.
    let seen : content_of c.args.ci c.args.body.now ≡ Some (variable (variable_view c.in-Some-Variable.variable)) =
    sym (c.in-Some-Variable.ensures ∙ ap (λ (k : ℕ). content_of k c.args.body.now) c.min.ensures ∙ narrow c.args.ci c.args.body.now)
    ∙ ap (λ (x : Content). Some (content_view x)) c.in-Some-Variable.field-0-is in
    sent_is_next c.args.ci c.args.body.now c.args.at (variable_view c.in-Some-Variable.variable) c.next_sent.new.out seen (c.next_sent.ensures.next done)
