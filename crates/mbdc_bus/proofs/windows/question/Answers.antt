use Rattle.std.proofs.Common.{◌≡◌, ◌==◌, ◌&&◌, ℕ, Bool, not, List, Some, length, sym, ap, ◌∙◌, arith}
use Rattle.std.specs.Prelude.{option_map}
use Rattle.std.proofs.lemmas.Grind.{common_steps}
use Rattle.dc_address.specs.Mask.{MaskParts, mask_wire}
use Rattle.dc_linkframe.specs.Control.{selection_by}
use Rattle.dc_linkframe.specs.Frame.{spelling}
use Rattle.dc_search.specs.Prefix.{mask_of_digits}
use Rattle.dc_search.specs.Request.{request_by}
use Rattle.dc_search.specs.State.{SearchState, step_of}
use Rattle.dc_search.specs.declared.step.Step.{Step}
use Rattle.dc_search.specs.declared.step.Step.TheVariants.{Select}
use Rattle.dc_search.proofs.Sweeps.{due_select}
use Rattle.mbdc_bus.specs.Windows.{selection_of, selects}
use Rattle.mbdc_bus.proofs.windows.question.Goals as goal

some_is : {X : Type 0} (x y : X) → Some x ≡ Some y → x ≡ y
some_is x y e = cc

selection : (s : SearchState) (mask : MaskParts) (digits request : List ℕ) → step_of s ≡ Select mask → option_map spelling (request_by (step_of s)) ≡ Some request → mask ≡ mask_of_digits digits
    → request ≡ selection_of digits
selection s mask digits request is due mask_is =
    sym (some_is (spelling (selection_by (mask_wire mask))) request (sym (ap (λ (step : Step). option_map spelling (request_by step)) is) ∙ due))
    ∙ ap (λ (m : MaskParts). spelling (selection_by (mask_wire m))) mask_is

pub returns-then-are_several-clause-asked : goal.returns-then-are_several-clause-asked
returns-then-are_several-clause-asked g c =
    let s : SearchState = c.args.search.now in
    let due = due_select s c.in-Select.field-0 (sym c.in-Select.ensures) in
    let several : Bool → Bool = λ (b : Bool). b && not (length due.0 == 8) in
    selects due.0 (selection s c.in-Select.field-0 due.0 c.args.request.now (sym c.in-Select.ensures) c.requires.due due.4) c.insist-answer.ensures.asked
    (ap not (c.is_full.ensures due.0 due.1 due.2) ∙ sym (ap several (sym c.are_several.ensures ∙ c.if-are_several.true)))

pub returns-else-are_several-clause-asked : goal.returns-else-are_several-clause-asked
returns-else-are_several-clause-asked g c =
    let s : SearchState = c.args.search.now in
    let due = due_select s c.in-Select.field-0 (sym c.in-Select.ensures) in
    let several : Bool → Bool = λ (b : Bool). b && not (length due.0 == 8) in
    selects due.0 (selection s c.in-Select.field-0 due.0 c.args.request.now (sym c.in-Select.ensures) c.requires.due due.4) c.insist-answer.ensures.asked
    (c.if-are_several.false ∙ sym (ap several (sym c.are_several.ensures ∙ c.if-are_several.false)))

pub returns-in_default : goal.returns-in_default
returns-in_default g c = grind (arith, common_steps)

pub returns-in_default-2 : goal.returns-in_default-2
returns-in_default-2 g c = grind (arith, common_steps)
