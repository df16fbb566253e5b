use Rattle.std.proofs.Common.{ℕ, List, Option, [], ◌∷◌, codes, ap, sym, ◌∙◌}
use Rattle.json.specs.Json.{null, string}
use Rattle.mbdc_reading.specs.declared.content.content.Head.{Head}
use Rattle.mbdc_reading.specs.Content.{Variable, structure_name, variable_view}
use Rattle.mbdc_decode.specs.Object.{Field, count, fields_tokens, object_of}
use Rattle.mbdc_decode.specs.Content.{access_of, count_or_null, head_fields, meter_or_null, status_of, status_or_null}
use Rattle.mbdc_decode.specs.Meter.{status_fields}
use Rattle.mbdc_decode.specs.Row.{field_of}
use Rattle.mbdc_decode.proofs.Adding.{said}
use Rattle.mbdc_decode.proofs.objects.content.put_head.Goals as goal

pub returns-in-Some : goal.returns-in-Some
unfolding head_fields
returns-in-Some g c =
    let v : Variable = variable_view c.args.variable.now in
    let name : List ℕ = structure_name v.structure in
    let meter : Field = (codes "meter", meter_or_null v.meter) in
    let more : ℕ → List Field = λ n. (codes "access", count n) ∷ (codes "status", object_of (status_fields c.in-Some.head.status)) ∷ [] in
    said (fields_tokens (head_fields v)) c.put_row.ensures
    (ap (λ (s : List ℕ). fields_tokens ((codes "structure", string s) ∷ field_of c.meter_cell-meter.result ∷ more c.from.result)) (c.as_bytes.ensures.value ∙ c.name.ensures)
    ∙ ap (λ (m : Field). fields_tokens ((codes "structure", string name) ∷ m ∷ more c.from.result)) c.meter_cell-meter.ensures
    ∙ ap (λ (n : ℕ). fields_tokens ((codes "structure", string name) ∷ meter ∷ more n)) c.from.ensures
    ∙ ap (λ (h : Option Head). fields_tokens ((codes "structure", string name) ∷ meter ∷ (codes "access", count_or_null (access_of h)) ∷ (codes "status", status_or_null (status_of h)) ∷ [])) (sym c.in-Some.is))

pub returns-in-None : goal.returns-in-None
unfolding head_fields
returns-in-None g c =
    let v : Variable = variable_view c.args.variable.now in
    let name : List ℕ = structure_name v.structure in
    let meter : Field = (codes "meter", meter_or_null v.meter) in
    let more : List Field = (codes "access", null) ∷ (codes "status", null) ∷ [] in
    said (fields_tokens (head_fields v)) c.put_row-in-None.ensures
    (ap (λ (s : List ℕ). fields_tokens ((codes "structure", string s) ∷ field_of c.meter_cell-meter.result ∷ more)) (c.as_bytes.ensures.value ∙ c.name.ensures)
    ∙ ap (λ (m : Field). fields_tokens ((codes "structure", string name) ∷ m ∷ more)) c.meter_cell-meter.ensures
    ∙ ap (λ (h : Option Head). fields_tokens ((codes "structure", string name) ∷ meter ∷ (codes "access", count_or_null (access_of h)) ∷ (codes "status", status_or_null (status_of h)) ∷ [])) (sym c.in-None.is))
