use Rattle.std.proofs.Common.{◌+◌, ◌∙◌, Option, ap, arith, drop, map, option_map, sym}
use Rattle.mbdc_reading.specs.Sent.{Sent, sent_view}
use Rattle.mbdc_reading.specs.Headline.{next_in}
use Rattle.mbdc_shown.specs.Stand.{bodies_sent}
use Rattle.mbdc_shown.proofs.Sents.{next_turn, next_last}
use Rattle.mbdc_shown.proofs.stand.next_of.Goals as goal

pub loop-body-preserved : goal.loop-body-preserved
loop-body-preserved c =
    let best = option_map sent_view c.loop-body.best in
    let bodies = c.args.bodies.now in
    let i = c.loop-body.body-index in
    ap (λ (b : Option Sent). next_in c.args.main c.args.last b (bodies_sent (map (λ s. s.now) (drop (i + 1) bodies))))
    (c.next_in-best.ensures ∙ ap (next_in c.args.main c.args.last best) c.of_body.ensures)
    ∙ sym (next_turn (λ s. s.now) c.args.main c.args.last best bodies i _ c.loop-body-test.true)
    ∙ c.loop-body.invariant

pub returns : goal.returns
returns c =
    sym (next_last (λ s. s.now) c.args.main c.args.last (option_map sent_view c.loop-body.best) c.args.bodies.now c.loop-body.body-index (omega (arith, c.loop-body-test.false, c.loop-body.auto.body-index-end)))
    ∙ c.loop-body.invariant
