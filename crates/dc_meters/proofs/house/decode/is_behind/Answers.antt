use Rattle.std.proofs.Common.{◌-◌, length, ap, sym, ◌∙◌, arith}
use Rattle.std.specs.Ordering.{is_gt}
use Rattle.std.proofs.lemmas.Grind.{common_steps}
use Rattle.dc_meters.proofs.Ascending.{not_behind}
use Rattle.dc_meters.proofs.house.decode.is_behind.Goals as goal

pub returns-in-Some-clause-no : goal.returns-in-Some-clause-no
returns-in-Some-clause-no g c = λ no_gt all.
    let entries = c.args.meters.now.entries in
    not_behind entries (length entries - 1) c.in-Some.last.now c.args.meter.now c.in-Some.field-0-1.now (rw c.rows.ensures at c.in-Some.ensures.last) (ap is_gt (sym c.cmp.ensures) ∙ sym c.is_gt.ensures ∙ no_gt) all

pub returns-in-Some-clause-yes : goal.returns-in-Some-clause-yes
returns-in-Some-clause-yes g c = grind (arith, common_steps)

pub returns-in-None-clause-yes : goal.returns-in-None-clause-yes
returns-in-None-clause-yes g c = grind (arith, common_steps)
