use Rattle.std.proofs.Common.{◌≡◌, ◌+◌, ◌∷◌, ◌∙◌, List, ap, arith, drop, sym}
use Rattle.std.proofs.lemmas.List.{drop_more}
use Rattle.std.specs.List.{flat_map}
use Rattle.mbdc_io.specs.Stream.{PutsFront}
use Rattle.dc_report.specs.declared.row.Row.{Row}
use Rattle.mbdc_looks.specs.Report.{row_line}
use Rattle.mbdc_json.proofs.Fronts.{front_of_all}
use Rattle.mbdc_looks.proofs.report.put_due_objects.Goals as goal

pub returns-in_err-put_row : goal.returns-in_err-put_row
returns-in_err-put_row g c =
    let all : List Row = c.args.rows.now in
    let at = c.loop-row.row-index in
    let row : Row = c.row-item.result in
    let next : drop at all ≡ row ∷ drop (at + 1) all = drop_more all at row (omega (arith, c.loop-row-test.true)) ∙ ap (λ (r : Row). r ∷ drop (at + 1) all) (sym c.row-item.is) in
    let front : PutsFront (g.W.Sink.written c.args.out.now) (g.W.Sink.written c.put_row.new.out) (flat_map (row_line c.args.date) all)
    = front_of_all _ _ _ (row_line c.args.date row) (flat_map (row_line c.args.date) (drop (at + 1) all)) _ _ (ap (flat_map (row_line c.args.date)) next) c.loop-row.invariant.text c.in_err-put_row.ensures.2 in
    grind arith
