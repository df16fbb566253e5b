use Rattle.std.proofs.Common.{List, ℕ, ◌++◌, codes, subst, arith, ◌∙◌}
use Rattle.mbdc_io.proofs.Pieces.{puts_front-first}
use Rattle.mbdc_io.specs.Stream.{PutsFront}
use Rattle.mbdc_poll.proofs.EventLines.{begun_as}
use Rattle.mbdc_poll.specs.Refusal.{refusal_name}
use Rattle.mbdc_poll.specs.Text.{refused_line}
use Rattle.mbdc_poll.proofs.events.text.put_refused.Goals as goal

pub returns-in_err-put_pieces : goal.returns-in_err-put_pieces
unfolding refused_line
returns-in_err-put_pieces g c =
    let before = g.W.Sink.written c.args.out.now in
    let after = g.W.Sink.written c.put_pieces.new.out in
    let rest : List ℕ = refusal_name c.args.refusal ++ codes "\n" in
    let front : PutsFront before after (refused_line c.args.meter.now c.args.refusal) =
    subst (λ (line : List ℕ). PutsFront before after line) (begun_as (codes "REFUSED ") rest c.text.ensures (c.from.ensures ∙ c.code-number.ensures.number)) (puts_front-first rest c.in_err-put_pieces.ensures.2) in
    grind arith
