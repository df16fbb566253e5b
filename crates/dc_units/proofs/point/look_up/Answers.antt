use Rattle.std.proofs.Common.{◌≡◌, rules, sym, ◌∙◌, FitsSigned, w8, to_z, of_z}
use Rattle.std.proofs.lemmas.Int.{to_z-of_z}
use Rattle.dc_records.specs.Record.{view}
use Rattle.dc_units.specs.Table.{row_of}
use Rattle.dc_units.proofs.Points.{seen_in-point}
use Rattle.dc_units.proofs.point.look_up.Goals as goal

pub returns : goal.returns
returns c =
    let e = view c.args.record.now in
    let fits : FitsSigned w8 c.in-Some.exponent = search rules in
    let same : to_z w8 (of_z w8 c.in-Some.exponent) ≡ c.in-Some.exponent = to_z-of_z w8 c.in-Some.exponent fits in
    seen_in-point e (row_of e.vib) c.in-Some.quantity c.in-Some.exponent c.value_in.result (sym c.in-Some.ensures) (sym c.if-not-takes.ensures) (c.if-content-width.false ∙ c.width.ensures) (rw same at c.value_in.ensures)
