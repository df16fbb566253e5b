use Rattle.dc_records.specs.Record.{view}
use Rattle.std.proofs.Common.{◌∙◌}
use Rattle.dc_units.proofs.ValueRows.{seen_of-found, seen_of-only}
use Rattle.dc_units.proofs.point.point_of.Goals as goal

pub returns-clause-found : goal.returns-clause-found
returns-clause-found c = seen_of-found (view c.args.record.now) c.look_up.result c.look_up.ensures

pub returns-clause-only : goal.returns-clause-only
returns-clause-only c = λ p is. c.look_up.ensures ∙ seen_of-only (view c.args.record.now) p is
