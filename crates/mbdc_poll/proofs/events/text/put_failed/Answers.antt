use Rattle.std.proofs.Common.{List, ℕ, codes, subst, arith, ◌∙◌}
use Rattle.mbdc_io.proofs.Pieces.{puts_front-first}
use Rattle.mbdc_io.specs.Stream.{PutsFront}
use Rattle.mbdc_poll.proofs.EventLines.{begun_as}
use Rattle.mbdc_poll.specs.Text.{failed_line, why_end}
use Rattle.mbdc_poll.proofs.events.text.put_failed.Goals as goal

pub returns-in_err-put_pieces : goal.returns-in_err-put_pieces
unfolding failed_line
returns-in_err-put_pieces g c =
    let before = g.W.Sink.written c.args.out.now in
    let after = g.W.Sink.written c.put_pieces.new.out in
    let rest : List ℕ = why_end c.args.why in
    let front : PutsFront before after (failed_line c.args.meter.now c.args.why) =
    subst (λ (line : List ℕ). PutsFront before after line) (begun_as (codes "FAILED ") rest c.text.ensures (c.from.ensures ∙ c.number.ensures)) (puts_front-first rest c.in_err-put_pieces.ensures.2) in
    grind arith
