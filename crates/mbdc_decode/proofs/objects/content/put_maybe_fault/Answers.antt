use Rattle.std.proofs.Common.{ℕ, List, Option, [], ◌∷◌, codes, ap, sym, ◌∙◌}
use Rattle.dc_records.specs.declared.fault.BodyFault.{BodyFault}
use Rattle.dc_records.specs.Fault as records
use Rattle.mbdc_decode.specs.Object.{fields_tokens}
use Rattle.mbdc_decode.specs.Content.{fault_json}
use Rattle.mbdc_decode.specs.Fault.{fault_field}
use Rattle.mbdc_decode.proofs.Adding.{said}
use Rattle.mbdc_decode.proofs.objects.content.put_maybe_fault.Goals as goal

pub returns-in-Some : goal.returns-in-Some
unfolding fault_field
returns-in-Some g c =
    said (fields_tokens ((codes "fault", fault_json c.args.fault) ∷ [])) c.put_fault.ensures
    (ap (λ (n : ℕ). fields_tokens (fault_field (codes "body") n c.name.result.now ∷ [])) c.number.ensures
    ∙ ap (λ (name : List ℕ). fields_tokens (fault_field (codes "body") (records.number_of c.in-Some.fault) name ∷ [])) c.name.ensures
    ∙ ap (λ (f : Option BodyFault). fields_tokens ((codes "fault", fault_json f) ∷ [])) (sym c.in-Some.is))
