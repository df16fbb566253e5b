use Rattle.std.proofs.Common.{[], ◌∷◌, ap, sym}
use Rattle.mbdc_decode.specs.Object.{fields_tokens}
use Rattle.mbdc_decode.proofs.Adding.{◌>>◌, unchanged, said}
use Rattle.mbdc_decode.specs.Row.{field_of}
use Rattle.mbdc_decode.specs.declared.objects.row.Cell.{Cell}
use Rattle.mbdc_decode.proofs.objects.row.put_cell.Goals as goal

pub returns-in-Null : goal.returns-in-Null
unfolding fields_tokens
returns-in-Null g c =
    said (fields_tokens (field_of c.args.cell.now ∷ [])) (c.put_name.ensures >> c.put_null.ensures >> unchanged)
    (ap (λ (cell : Cell). fields_tokens (field_of cell ∷ [])) (sym c.in-Null.is))

pub returns-in-Number : goal.returns-in-Number
unfolding fields_tokens
returns-in-Number g c =
    said (fields_tokens (field_of c.args.cell.now ∷ [])) (c.put_count.ensures >> unchanged)
    (ap (λ (cell : Cell). fields_tokens (field_of cell ∷ [])) (sym c.in-Number.is))

pub returns-in-Flag : goal.returns-in-Flag
unfolding fields_tokens
returns-in-Flag g c =
    said (fields_tokens (field_of c.args.cell.now ∷ [])) (c.put_flag.ensures >> unchanged)
    (ap (λ (cell : Cell). fields_tokens (field_of cell ∷ [])) (sym c.in-Flag.is))

pub returns-in-Text : goal.returns-in-Text
unfolding fields_tokens
returns-in-Text g c =
    said (fields_tokens (field_of c.args.cell.now ∷ [])) (c.put_name-in-Text.ensures >> c.put_string.ensures >> unchanged)
    (ap (λ (cell : Cell). fields_tokens (field_of cell ∷ [])) (sym c.in-Text.is))

pub returns-in-Hex : goal.returns-in-Hex
unfolding fields_tokens
returns-in-Hex g c =
    said (fields_tokens (field_of c.args.cell.now ∷ [])) (c.put_hex.ensures >> unchanged)
    (ap (λ (cell : Cell). fields_tokens (field_of cell ∷ [])) (sym c.in-Hex.is))

pub returns-in-Meter : goal.returns-in-Meter
unfolding fields_tokens
returns-in-Meter g c =
    said (fields_tokens (field_of c.args.cell.now ∷ [])) (c.put_name-in-Meter.ensures >> c.put_meter.ensures >> unchanged)
    (ap (λ (cell : Cell). fields_tokens (field_of cell ∷ [])) (sym c.in-Meter.is))

pub returns-in-Status : goal.returns-in-Status
unfolding fields_tokens
returns-in-Status g c =
    said (fields_tokens (field_of c.args.cell.now ∷ [])) (c.put_name-in-Status.ensures >> c.put_status_object.ensures >> unchanged)
    (ap (λ (cell : Cell). fields_tokens (field_of cell ∷ [])) (sym c.in-Status.is))

pub returns-in-Value : goal.returns-in-Value
unfolding fields_tokens
returns-in-Value g c =
    said (fields_tokens (field_of c.args.cell.now ∷ [])) (c.put_name-in-Value.ensures >> c.put_value.ensures >> unchanged)
    (ap (λ (cell : Cell). fields_tokens (field_of cell ∷ [])) (sym c.in-Value.is))

pub returns-in-Unit : goal.returns-in-Unit
unfolding fields_tokens
returns-in-Unit g c =
    said (fields_tokens (field_of c.args.cell.now ∷ [])) (c.put_unit_field.ensures >> unchanged)
    (ap (λ (cell : Cell). fields_tokens (field_of cell ∷ [])) (sym c.in-Unit.is))
