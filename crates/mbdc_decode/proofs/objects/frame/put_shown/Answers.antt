use Rattle.std.proofs.Common.{◌≡◌, ℕ, List, [], ◌∷◌, append-nil, refl, ap, sym, Err, codes}
use Rattle.std.specs.Prelude.{Result}
use Rattle.json.specs.Token as Token
use Rattle.mbdc_io.specs.Hex.{upper_hex}
use Rattle.dc_linkframe.specs.declared.fault.FrameFault.{FrameFault}
use Rattle.dc_linkframe.specs.Fault as link
use Rattle.dc_linkframe.specs.Frame.{FrameSeen}
use Rattle.mbdc_decode.specs.Object.{Field, fields_tokens}
use Rattle.mbdc_decode.specs.Fault.{fault_field}
use Rattle.mbdc_decode.specs.Frames.{read_as}
use Rattle.mbdc_decode.specs.Frame.{read_fields, text_fields, place_fields, bytes_field}
use Rattle.mbdc_decode.proofs.ObjectTexts.{fields-around}
use Rattle.mbdc_decode.proofs.Adding.{◌>>◌, unchanged, said}
use Rattle.mbdc_decode.proofs.objects.frame.put_shown.Goals as goal

hex_is : (name bytes : List ℕ) → fields_tokens (bytes_field name bytes ∷ []) ≡ Token.key name ∷ Token.string (upper_hex bytes) ∷ []
unfolding fields_tokens bytes_field
hex_is name bytes = refl

pub returns-in-Err-clause-tokens : goal.returns-in-Err-clause-tokens
unfolding text_fields
returns-in-Err-clause-tokens g c =
    let f : Field = fault_field (codes "frame") (link.number_of c.in-Err.fault) (link.name_of c.in-Err.fault) in
    let e = fields-around (place_fields c.args.line (codes "none")) (bytes_field (codes "bytes") c.args.text.now) (f ∷ []) in
    let n = append-nil (fields_tokens (f ∷ [])) in
    let is : read_as c.args.text.now ≡ Err c.in-Err.fault = c.in-Err.ensures in
    said (fields_tokens (text_fields c.args.line c.args.text.now))
    (said (fields_tokens (read_fields c.args.line c.args.text.now (Err c.in-Err.fault)))
    (c.put_place.ensures >> said (fields_tokens (bytes_field (codes "bytes") c.args.text.now ∷ [])) c.put_hex.ensures (sym (hex_is (codes "bytes") c.args.text.now))
    >> c.put_fault.ensures >> unchanged) cc)
    (ap (λ (r : Result FrameSeen FrameFault). fields_tokens (read_fields c.args.line c.args.text.now r)) (sym is))
