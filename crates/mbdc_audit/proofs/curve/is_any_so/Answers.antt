use Rattle.std.proofs.Common.{rules, tests, ◌&&◌, ◌∙◌}
use Rattle.std.proofs.lemmas.Iterator.{YieldsList-from_slice}
use Rattle.std.proofs.lemmas.Iterator.Search.{any_from_yields_List}
use Rattle.mbdc_audit.specs.Kept.{is_so, known_source}
use Rattle.mbdc_audit.specs.Walk.{is_found}
use Rattle.mbdc_audit.specs.declared.house.Value as value_type
use Rattle.mbdc_audit.proofs.Alone.{any_known}
use Rattle.mbdc_audit.proofs.curve.is_any_so.Goals as goal

pub returns : goal.returns
returns c =
    let xs = c.args.values.now in
    let any = any_from_yields_List (λ (v : value_type.Value). is_found v.found && is_so c.args.is_guess (known_source v)) _ _ c.any.result c.any.ensures.ran (YieldsList-from_slice xs cc) (λ x b q k. search (rules, tests)) in
    any ∙ any_known c.args.is_guess xs
