use Rattle.std.proofs.Common.{◌∙◌, arith, rules}
use Rattle.mbdc_change.specs.Spelled.{SpellsState}
use Rattle.dc_meters.specs.Language.{one_register}
use Rattle.mbdc_fit.proofs.Copies.{same_held}
use Rattle.mbdc_fit.proofs.list.wish.copy_of.Goals as goal

pub returns-in-Ok-decode : goal.returns-in-Ok-decode
returns-in-Ok-decode g c =
    let spelled : SpellsState c.budget-budget.result c.as_slice.result.now c.args.house.now.state = search rules in
    let same = one_register c.budget-budget.result c.as_slice.result.now c.in-Ok-decode.copy.state c.args.house.now.state (omega arith) c.in-Ok-decode.ensures.found.0 spelled in
    same_held c.in-Ok-decode.copy c.args.house.now same (c.in-Ok-decode.ensures.found.1 ∙ c.budget-budget.ensures.budget)
