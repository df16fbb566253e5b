use Rattle.std.proofs.Common.{length, ap, ◌∙◌}
use Rattle.dc_address.specs.Mask.{are_sent, mask_at}
use Rattle.dc_address.proofs.Masks.{mask_at-mask_wire}
use Rattle.mbdc_bus.specs.declared.world.order.Order.TheVariants.{Select}
use Rattle.mbdc_bus.proofs.Orders.{eight_sent, sent}
use Rattle.mbdc_bus.proofs.world.order.selection_in.Goals as goal

pub returns-then-body-ne-WIRE_LEN : goal.returns-then-body-ne-WIRE_LEN
returns-then-body-ne-WIRE_LEN c = λ mask is body. absurd (c.if-body-ne-WIRE_LEN.true (ap length body ∙ eight_sent mask is))

pub returns-in-Some : goal.returns-in-Some
returns-in-Some c = λ mask is body. ap Select (c.in-Some.ensures.1 ∙ ap mask_at (c.copy_from_slice.ensures.after ∙ body) ∙ mask_at-mask_wire mask is)

pub returns-in-None : goal.returns-in-None
returns-in-None c = λ mask is body. absurd (c.in-None.ensures (ap are_sent (c.copy_from_slice.ensures.after ∙ body) ∙ sent mask is))
