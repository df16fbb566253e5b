use Rattle.std.proofs.Common.{ap, sym, ◌∙◌}
use Rattle.dc_address.specs.Mask.{mask_wire}
use Rattle.dc_linkframe.specs.Control.{selection_by}
use Rattle.dc_linkframe.specs.Fault.{fault_of}
use Rattle.dc_linkframe.specs.Frame.{seen}
use Rattle.dc_linkframe.proofs.Spellings.{fault_of-spelling, same_frame}
use Rattle.mbdc_bus.proofs.world.order.order_of.Goals as goal

pub returns-in-Ok-clause-select : goal.returns-in-Ok-clause-select
returns-in-Ok-clause-select c = λ mask is sent.
    c.order_in.ensures.select mask is (same_frame (seen c.in-Ok.frame) (selection_by (mask_wire mask)) (sym c.in-Ok.ensures.found.spelled ∙ sent))

pub returns-in-Err-clause-select : goal.returns-in-Err-clause-select
returns-in-Err-clause-select c = λ mask is sent.
    let no = sym c.in-Err.ensures.refused ∙ ap fault_of sent ∙ fault_of-spelling (selection_by (mask_wire mask)) in cc
