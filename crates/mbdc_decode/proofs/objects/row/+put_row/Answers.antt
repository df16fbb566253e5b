use Rattle.mbdc_decode.specs.Object.{fields_tokens}
use Rattle.mbdc_decode.proofs.Adding.{◌>>◌, unchanged, said}
use Rattle.mbdc_decode.specs.Row.{row_fields}
use Rattle.mbdc_decode.proofs.JsonRows.{no_cell, first_cell}
use Rattle.mbdc_decode.proofs.objects.row.+put_row.Goals as goal

pub returns-in_default : goal.returns-in_default
returns-in_default g t c = said (fields_tokens (row_fields c.args.row.now)) unchanged (no_cell c.args.row.now c.in_default.len_below)

pub returns-in-len1-up : goal.returns-in-len1-up
returns-in-len1-up g t c =
    said (fields_tokens (row_fields c.args.row.now)) (c.put_cell.ensures >> c.put_row.ensures >> unchanged)
    (first_cell c.args.row.now c.cell-item.result c.in-len1-up.len_at_least c.cell-item.is)
