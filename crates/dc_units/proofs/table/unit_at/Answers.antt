use Rattle.std.proofs.Common.{arith, sym, ap, ◌∙◌}
use Rattle.std.proofs.lemmas.Grind.{common_steps}
use Rattle.dc_units.specs.Table.{unit_at, row_of}
use Rattle.dc_units.proofs.Pieces.{one_byte}
use Rattle.dc_units.proofs.table.unit_at.Goals as goal

pub returns-in-len1 : goal.returns-in-len1
returns-in-len1 c = c.primary.ensures ∙ ap unit_at (sym (one_byte c.args.vib.now (omega arith)))

pub returns-in-251 : goal.returns-in-251
unfolding row_of
returns-in-251 c = grind (arith, common_steps)
