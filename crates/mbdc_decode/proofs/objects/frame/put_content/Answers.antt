use Rattle.std.proofs.Common.{◌≡◌, ℕ, List, [], ◌∷◌, append-nil, refl, sym, codes, rules}
use Rattle.json.specs.Token as Token
use Rattle.mbdc_io.specs.Hex.{upper_hex}
use Rattle.mbdc_reading.specs.Content.{content_of}
use Rattle.mbdc_decode.specs.Object.{Field, fields_tokens}
use Rattle.mbdc_decode.specs.Content.{content_field}
use Rattle.mbdc_decode.specs.Frame.{bytes_field, content_fields}
use Rattle.mbdc_decode.proofs.ObjectTexts.{fields-cons}
use Rattle.mbdc_decode.proofs.Adding.{◌>>◌, unchanged, said}
use Rattle.mbdc_decode.proofs.objects.frame.put_content.Goals as goal

hex_is : (name bytes : List ℕ) → fields_tokens (bytes_field name bytes ∷ []) ≡ Token.key name ∷ Token.string (upper_hex bytes) ∷ []
unfolding fields_tokens bytes_field
hex_is name bytes = refl

pub returns-then-ci-ne-VARIABLE_DATA-clause-tokens : goal.returns-then-ci-ne-VARIABLE_DATA-clause-tokens
unfolding content_fields
returns-then-ci-ne-VARIABLE_DATA-clause-tokens g c =
    let more : List Field = content_field (content_of c.args.ci c.args.body.now) in
    let e = fields-cons (bytes_field (codes "body") c.args.body.now) more in
    let n = append-nil (fields_tokens more) in
    let other =
    said (fields_tokens (bytes_field (codes "body") c.args.body.now ∷ more))
    (said (fields_tokens (bytes_field (codes "body") c.args.body.now ∷ [])) c.put_hex.ensures (sym (hex_is (codes "body") c.args.body.now))
    >> c.put_content_field.ensures >> unchanged) cc in
    search rules
