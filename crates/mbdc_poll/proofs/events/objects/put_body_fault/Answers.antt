use Rattle.std.proofs.Common.{List, [], ◌∷◌, codes, ap, sym, ◌∙◌}
use Rattle.dc_readout.specs.declared.why.Why.{Why}
use Rattle.mbdc_decode.specs.Object.{Field, fields_tokens, object_of as object_with}
use Rattle.mbdc_decode.proofs.Adding.{◌>>◌, unchanged, said}
use Rattle.mbdc_poll.specs.Object.{body_fields, fault_fields}
use Rattle.mbdc_poll.proofs.Objects.{fault_is, no_body, object_is}
use Rattle.mbdc_poll.proofs.events.objects.put_body_fault.Goals as goal

pub returns-in-Content : goal.returns-in-Content
unfolding body_fields
returns-in-Content g c =
    said (fields_tokens (body_fields c.args.why)) (c.put_name.ensures >> c.begin_object.ensures >> c.put_code.ensures >> c.end_object.ensures)
    (object_is (codes "fault") (fault_fields c.number.result c.name.result.now)
    ∙ ap (λ (f : List Field). fields_tokens ((codes "fault", object_with f) ∷ [])) (fault_is c.number.ensures c.name.ensures)
    ∙ ap (λ (why : Why). fields_tokens (body_fields why)) (sym c.in-Content.is))

pub returns-in_default : goal.returns-in_default
returns-in_default g c = said (fields_tokens (body_fields c.args.why)) unchanged (no_body c.args.why c.in_default.not-Content)
