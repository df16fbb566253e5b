use Rattle.std.proofs.Common.{◌≡◌, ℕ, List, [], ◌∷◌, append-nil, refl, ap, sym, Err, codes}
use Rattle.std.specs.Prelude.{Result}
use Rattle.json.specs.Token as Token
use Rattle.mbdc_io.specs.Hex.{upper_hex}
use Rattle.dc_records.specs.declared.fault.BodyFault.{BodyFault}
use Rattle.dc_records.specs.Fault as records
use Rattle.dc_records.specs.Telegram.{Parsed, telegram_at}
use Rattle.mbdc_reading.specs.Content.{content_of}
use Rattle.mbdc_decode.specs.Object.{Field, fields_tokens}
use Rattle.mbdc_decode.specs.Content.{content_field}
use Rattle.mbdc_decode.specs.Fault.{fault_field}
use Rattle.mbdc_decode.specs.Frame.{body_fields, bytes_field}
use Rattle.mbdc_decode.proofs.ObjectTexts.{fields-cons}
use Rattle.mbdc_decode.proofs.Adding.{◌>>◌, unchanged, said}
use Rattle.mbdc_decode.proofs.objects.frame.put_body.Goals as goal

hex_is : (name bytes : List ℕ) → fields_tokens (bytes_field name bytes ∷ []) ≡ Token.key name ∷ Token.string (upper_hex bytes) ∷ []
unfolding fields_tokens bytes_field
hex_is name bytes = refl

pub returns-in-Err-clause-tokens : goal.returns-in-Err-clause-tokens
returns-in-Err-clause-tokens g c =
    let f : Field = fault_field (codes "body") (records.number_of c.in-Err.fault) (records.name_of c.in-Err.fault) in
    let more : List Field = content_field (content_of 0x72 c.args.body.now) in
    let e = fields-cons (bytes_field (codes "body") c.args.body.now) (f ∷ more) in
    let d = fields-cons f more in
    let n = append-nil (fields_tokens more) in
    let is : telegram_at c.args.body.now ≡ Err c.in-Err.fault = c.in-Err.ensures.exact in
    said (fields_tokens (body_fields c.args.body.now (telegram_at c.args.body.now)))
    (said (fields_tokens (body_fields c.args.body.now (Err c.in-Err.fault)))
    (said (fields_tokens (bytes_field (codes "body") c.args.body.now ∷ [])) c.put_hex.ensures (sym (hex_is (codes "body") c.args.body.now))
    >> c.put_fault.ensures >> c.put_content_field.ensures >> unchanged) cc)
    (ap (λ (r : Result Parsed BodyFault). fields_tokens (body_fields c.args.body.now r)) (sym is))
