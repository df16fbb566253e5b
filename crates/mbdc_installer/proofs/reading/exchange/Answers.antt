use Rattle.std.proofs.Common.{◌≡◌, sym, subst, refl, rules, arith}
use Rattle.dc_readout.specs.Summary.{Verdict, again, ready, verdict_by}
use Rattle.mbdc_io.specs.Stream.{Puts}
use Rattle.mbdc_io.proofs.Pieces.{puts-none}
use Rattle.mbdc_installer.specs.Read.{printed}
use Rattle.std.proofs.lemmas.Grind.{common_steps}
use Rattle.mbdc_installer.proofs.reading.exchange.Goals as goal

-- nothing is printed where a telegram came again, or where the meter is ready
pub returns-in-Again-clause-exchanged : goal.returns-in-Again-clause-exchanged
returns-in-Again-clause-exchanged g c =
    let at = g.W.Sink.written c.args.out.now in
    let is : verdict_by c.args.session.now c.ask-answer.result ≡ again = search rules in
    let nothing : Puts at at (printed (verdict_by c.args.session.now c.ask-answer.result) c.ask-answer.result) =
    subst (λ (verdict : Verdict). Puts at at (printed verdict c.ask-answer.result)) (sym is) (puts-none at) in
    (c.ask-answer.result, c.ask-answer.ensures.asked, (search rules, search rules, search rules), (nothing, refl, tt, tt))

pub returns-in-Ready-clause-exchanged : goal.returns-in-Ready-clause-exchanged
returns-in-Ready-clause-exchanged g c =
    let at = g.W.Sink.written c.args.out.now in
    let is : verdict_by c.args.session.now c.ask-answer.result ≡ ready = search rules in
    let nothing : Puts at at (printed (verdict_by c.args.session.now c.ask-answer.result) c.ask-answer.result) =
    subst (λ (verdict : Verdict). Puts at at (printed verdict c.ask-answer.result)) (sym is) (puts-none at) in
    (c.ask-answer.result, c.ask-answer.ensures.asked, (search rules, search rules, search rules), (nothing, refl, tt, tt))

pub ask-answer-requires : goal.ask-answer-requires
ask-answer-requires g c = grind (arith, common_steps)

pub as_slice-requires : goal.as_slice-requires
as_slice-requires g c = grind (arith, common_steps)

pub hear-heard-requires : goal.hear-heard-requires
hear-heard-requires g c = grind (arith, common_steps)

pub as_slice-requires-in-New : goal.as_slice-requires-in-New
as_slice-requires-in-New g c = grind (arith, common_steps)

pub put_frames-requires : goal.put_frames-requires
put_frames-requires g c κs = grind (arith, common_steps)

pub settle-requires : goal.settle-requires
settle-requires g c = grind (arith, common_steps)

pub put_heard-requires : goal.put_heard-requires
put_heard-requires g c κs = grind (arith, common_steps)

pub is_missing-requires : goal.is_missing-requires
is_missing-requires g c = grind (arith, common_steps)

pub as_slice-requires-then-is_missing : goal.as_slice-requires-then-is_missing
as_slice-requires-then-is_missing g c = grind (arith, common_steps)

pub count-requires : goal.count-requires
count-requires g c = grind (arith, common_steps)

pub as_slice-requires-in-Again : goal.as_slice-requires-in-Again
as_slice-requires-in-Again g c = grind (arith, common_steps)

pub count-requires-in-Again : goal.count-requires-in-Again
count-requires-in-Again g c = grind (arith, common_steps)

pub returns-then-is_missing-clause-fewer : goal.returns-then-is_missing-clause-fewer
returns-then-is_missing-clause-fewer g c = grind (arith, common_steps)

pub returns-then-is_missing-clause-exchanged : goal.returns-then-is_missing-clause-exchanged
returns-then-is_missing-clause-exchanged g c = grind (arith, common_steps)

pub returns-else-is_missing-clause-fewer : goal.returns-else-is_missing-clause-fewer
returns-else-is_missing-clause-fewer g c = grind (arith, common_steps)

pub returns-else-is_missing-clause-exchanged : goal.returns-else-is_missing-clause-exchanged
returns-else-is_missing-clause-exchanged g c = grind (arith, common_steps)

pub returns-in-Again-clause-fewer : goal.returns-in-Again-clause-fewer
returns-in-Again-clause-fewer g c = grind (arith, common_steps)

pub returns-in-Ready-clause-fewer : goal.returns-in-Ready-clause-fewer
returns-in-Ready-clause-fewer g c = grind (arith, common_steps)
