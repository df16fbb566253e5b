use Rattle.std.proofs.Common.{◌≡◌, ℕ, List, [], ◌∷◌, append_assoc, append-nil, ◌++◌, codes, false, map, refl}
use Rattle.json.specs.Json.{string}
use Rattle.json.specs.Token as Token
use Rattle.json.specs.Tree.{json_tokens}
use Rattle.dc_records.specs.Record.{view}
use Rattle.mbdc_reading.specs.Names.{names_of}
use Rattle.mbdc_reading.specs.Parts.{told_of}
use Rattle.mbdc_decode.specs.Record.{told_fields, sent_fields, name_field, qualifier_fields, value_fields, vife_fields}
use Rattle.mbdc_decode.specs.Object.{Field, fields_tokens, object_of, values_tokens}
use Rattle.mbdc_decode.proofs.ObjectTexts.{items_are, members_are, fields-append, fields-around}
use Rattle.mbdc_decode.proofs.Adding.{◌>>◌, unchanged, said}
use Rattle.mbdc_decode.proofs.objects.record.put_told.Goals as goal

quantity_is : (name : List ℕ) → fields_tokens (name_field name ∷ []) ≡ Token.key (codes "quantity") ∷ Token.string name ∷ []
unfolding fields_tokens name_field
quantity_is name = refl

qualifiers_are : (vib : List ℕ) → fields_tokens (qualifier_fields vib)
    ≡ Token.key (codes "qualifiers") ∷ Token.begin_array ∷ (values_tokens (map string (names_of false (told_of vib))) ++ Token.end_array ∷ [])
unfolding fields_tokens qualifier_fields
qualifiers_are vib = simp (items_are, append_assoc, append-nil)

pub returns : goal.returns
unfolding told_fields
returns g c =
    let more : List Field = qualifier_fields c.args.vib.now ++ (value_fields (view c.args.found.now) c.args.unit.now c.args.reading.now ++ vife_fields (view c.args.found.now) c.args.vib.now c.args.reading.now) in
    let around = fields-around (sent_fields (view c.args.found.now)) (name_field c.args.name.now) more in
    let told = c.told_of.ensures in
    said (json_tokens (object_of (told_fields (view c.args.found.now) c.args.name.now c.args.vib.now c.args.unit.now c.args.reading.now)))
    (c.begin_object.ensures >> c.put_sent.ensures >> c.put_text.ensures >> c.put_name.ensures >> c.begin_array.ensures >> c.put_names.ensures >> c.end_array.ensures
    >> c.put_value_fields.ensures >> c.put_vife_fields.ensures >> c.end_object.ensures >> unchanged)
    (simp (told, members_are, around, fields-append, quantity_is, qualifiers_are, append_assoc, append-nil))
