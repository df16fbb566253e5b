use Rattle.std.proofs.Common.{Option, Some, [], ◌∷◌, ◌++◌, codes, ap, sym}
use Rattle.json.specs.Token as Token
use Rattle.json.specs.Tree.{json_tokens}
use Rattle.mbdc_reading.specs.declared.content.content.Head.{Head}
use Rattle.mbdc_reading.specs.declared.content.security.Security.{Security}
use Rattle.mbdc_decode.specs.Object.{fields_tokens, object_of}
use Rattle.mbdc_decode.specs.Content.{security_field, security_fields}
use Rattle.mbdc_decode.proofs.Adding.{◌>>◌, unchanged, said}
use Rattle.mbdc_decode.proofs.objects.content.put_security.Goals as goal

pub returns-in-Some : goal.returns-in-Some
unfolding fields_tokens security_field
returns-in-Some g c =
    let config = c.in-Some.head.config in
    said (fields_tokens (security_field c.args.head.now ∷ []))
    (said (fields_tokens (security_field (Some c.in-Some.head) ∷ [])) (c.put_name.ensures >> c.put_security_object.ensures >> unchanged)
    (ap (λ (s : Security). Token.key (codes "security") ∷ (json_tokens (object_of (security_fields s config)) ++ [])) c.of.ensures))
    (ap (λ (h : Option Head). fields_tokens (security_field h ∷ [])) (sym c.in-Some.is))

pub returns-in-None : goal.returns-in-None
unfolding fields_tokens security_field
returns-in-None g c =
    said (fields_tokens (security_field c.args.head.now ∷ [])) (c.put_name.ensures >> c.put_null.ensures >> unchanged)
    (ap (λ (h : Option Head). fields_tokens (security_field h ∷ [])) (sym c.in-None.is))
