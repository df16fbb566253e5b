use Rattle.std.proofs.Common.{List, ℕ, subst}
use Rattle.mbdc_bus.specs.Talk.{IsContent}
use Rattle.mbdc_bus.proofs.Served.{served}
use Rattle.mbdc_bus.proofs.world.serving.serve.Goals as goal

pub returns : goal.returns
returns g c =
    let content = subst (λ (before : List ℕ). IsContent (g.R.Source.left c.take_length.new.reader) (g.R.Source.left c.take_content.new.reader) c.in_ok-count.count before c.take_content.new.answer) c.new-request.ensures c.in_ok-take_content.ensures.content in
    served _ _ _ _ _ _ _ c.as_slice.result.now c.take_content.new.answer c.hear-answer.result c.in_ok-count.count c.in_ok-put.put
    c.in_ok-count.ensures.bytes content c.in_ok-take_content.ensures.byte c.as_slice.ensures.bytes c.hear-answer.ensures c.in_ok-put.ensures
