use Rattle.std.proofs.Common.{rules, tests}
use Rattle.std.proofs.lemmas.Iterator.{YieldsList-from_slice}
use Rattle.std.proofs.lemmas.Iterator.Search.{any_from_yields_List}
use Rattle.mbdc_audit.specs.Walk.{is_repeat}
use Rattle.mbdc_audit.proofs.readings.is_repeated.Goals as goal

pub returns-in-Read-Ok : goal.returns-in-Read-Ok
returns-in-Read-Ok c =
    let any = any_from_yields_List (is_repeat c.args.value.now) _ _ c.any.result c.any.ensures.ran
    (YieldsList-from_slice c.args.values.now cc) (λ x b q k. search (rules, tests)) in
    rw (c.in-Read-Ok.is-0, c.in-Read-Ok.is-1) any
