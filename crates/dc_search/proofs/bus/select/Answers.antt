-- The received bytes lead where a selection on the bus does.
use Rattle.std.proofs.Common.{Result, Ok, Err, [], ◌∷◌, filter, ap, ◌∙◌}
use Rattle.std.specs.Result.{OnOk}
use Rattle.dc_search.specs.Answer.{answer_of}
use Rattle.dc_search.specs.State.{after}
use Rattle.dc_address.specs.Mask.{matches}
use Rattle.dc_search.proofs.Sweeps.{heard_byte, heard_more, heard_one, noise}
use Rattle.dc_search.proofs.bus.select.Goals as goal

on_ok : {T E P Q : Type 0} (r : Result T E) → (P → Q) → OnOk r P → OnOk r Q
on_ok (Ok x) f p = f p
on_ok (Err e) f p = p

pub returns-in_ok-heard-in-One : goal.returns-in_ok-heard-in-One
returns-in_ok-heard-in-One g c =
    on_ok c.heard-in-One-2.result
    (λ heard. heard
    ∙ ap (after c.as_slice.result.now) (c.in_ok-heard-in-One.ensures.ok ∙ heard_byte c.args.search.now c.args.mask.now 229 c.requires)
    ∙ heard_one c.args.search.now c.args.mask.now c.args.bus.now c.in-One.meter c.as_slice.result.now c.requires c.in-One.ensures
    (ap answer_of c.as_slice.ensures.bytes ∙ c.telegram_of.ensures))
    c.heard-in-One-2.ensures.ok

pub returns-in_ok-heard-in-More : goal.returns-in_ok-heard-in-More
returns-in_ok-heard-in-More g c =
    on_ok c.heard-in-More-2.result
    (λ heard. heard
    ∙ ap (after (0 ∷ [])) (c.in_ok-heard-in-More.ensures.ok ∙ heard_byte c.args.search.now c.args.mask.now 229 c.requires)
    ∙ heard_more c.args.search.now c.args.mask.now (filter (matches c.args.mask.now) c.args.bus.now) (0 ∷ []) c.requires c.in-More.ensures noise)
    c.heard-in-More-2.ensures.ok
