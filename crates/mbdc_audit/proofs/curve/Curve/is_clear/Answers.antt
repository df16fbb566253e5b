use Rattle.std.proofs.Common.{rules, tests, ◌≡◌, ◌∙◌, ◌&&◌, List, length, map, ap}
use Rattle.std.specs.Prelude.{◌==◌}
use Rattle.mbdc_audit.specs.Consumption.Mark.{exchanges_in}
use Rattle.mbdc_audit.specs.declared.consumption.entry.Entry.{Entry}
use Rattle.mbdc_audit.specs.Amount.{are_whole, due, is_below}
use Rattle.mbdc_audit.specs.View.{known_in, run_of}
use Rattle.mbdc_audit.proofs.Marks.{clear_none, clear_other, clear_some}
use Rattle.mbdc_audit.proofs.curve.Curve.is_clear.Goals as goal

pub returns-then-exchanges-due : goal.returns-then-exchanges-due
returns-then-exchanges-due g c =
    let v = c.args.self.now in
    let small : c.is_none_or.result ≡ is_below c.args.amount = search (rules, tests) in
    clear_some (are_whole c.args.from c.args.to (known_in v.values.items) 0 (map run_of v.runs.now))
    (length (exchanges_in v.entries.items c.args.from c.args.to)) (due c.args.from c.args.to (map run_of v.runs.now))
    c.in-Some.due c.exchanges.result c.is_none_or.result (is_below c.args.amount) c.in-Some.ensures
    (c.exchanges.ensures ∙ ap (λ (l : List Entry). length (exchanges_in l c.args.from c.args.to)) c.as_slice.ensures.value)
    c.if-exchanges-due.true small

pub returns-else-exchanges-due : goal.returns-else-exchanges-due
returns-else-exchanges-due g c =
    let v = c.args.self.now in
    clear_other (are_whole c.args.from c.args.to (known_in v.values.items) 0 (map run_of v.runs.now))
    (length (exchanges_in v.entries.items c.args.from c.args.to)) (due c.args.from c.args.to (map run_of v.runs.now))
    c.in-Some.due c.exchanges.result (is_below c.args.amount) c.in-Some.ensures
    (c.exchanges.ensures ∙ ap (λ (l : List Entry). length (exchanges_in l c.args.from c.args.to)) c.as_slice.ensures.value)
    c.if-exchanges-due.false

pub returns-in-None : goal.returns-in-None
returns-in-None g c =
    let v = c.args.self.now in
    clear_none (are_whole c.args.from c.args.to (known_in v.values.items) 0 (map run_of v.runs.now))
    (due c.args.from c.args.to (map run_of v.runs.now))
    ((length (exchanges_in v.entries.items c.args.from c.args.to) == due c.args.from c.args.to (map run_of v.runs.now))
    && is_below c.args.amount) c.in-None.ensures
