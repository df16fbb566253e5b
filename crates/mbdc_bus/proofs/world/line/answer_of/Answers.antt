use Rattle.std.proofs.Common.{◌≤◌, ◌++◌, length, arith, ap, ◌∙◌}
use Rattle.std.specs.Prelude.{take}
use Rattle.std.proofs.lemmas.List.{take_all}
use Rattle.mbdc_bus.specs.Limits.{most_answer}
use Rattle.dc_readout.specs.Reply.{bytes_heard}
use Rattle.mbdc_bus.proofs.world.line.answer_of.Goals as goal

pub returns : goal.returns
returns c =
    let heard = bytes_heard c.args.heard.now in
    let fits : length heard ≤ most_answer = omega (arith, c.as_slice.ensures.fits) in
    c.append.ensures ∙ ap (λ old. take most_answer (old ++ c.as_slice.result.now)) c.new-answer.ensures
    ∙ ap (take most_answer) c.as_slice.ensures.bytes ∙ take_all most_answer heard fits
