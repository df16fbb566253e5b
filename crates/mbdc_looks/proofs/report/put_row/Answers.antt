use Rattle.std.proofs.Common.{List, ◌∙◌, subst, ℕ}
use Rattle.mbdc_io.specs.Written.{Wrote}
use Rattle.mbdc_looks.proofs.Rows.{row_as}
use Rattle.mbdc_looks.proofs.report.put_row.Goals as goal

pub returns : goal.returns
returns g c =
    let P : List ℕ → Type 0 = λ text. Wrote g.W.Sink c.put_line.result c.args.out.now c.put_line.new.out text in
    subst P
    (row_as c.args.date c.args.row.now c.as_slice.result.now c.from.result c.from-2.result c.as_bytes.result.now c.as_bytes-2.result.now
    c.as_slice.ensures.name c.from.ensures c.from-2.ensures (c.as_bytes.ensures.value ∙ c.function_name.ensures) (c.as_bytes-2.ensures.value ∙ c.unit.ensures))
    c.put_line.ensures
