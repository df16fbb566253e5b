use Rattle.std.proofs.Common.{[], ◌∷◌}
use Rattle.mbdc_decode.specs.Object.{fields_tokens}
use Rattle.mbdc_decode.specs.Fault.{fault_field, fault_fields}
use Rattle.mbdc_decode.proofs.Adding.{◌>>◌, unchanged, said}
use Rattle.mbdc_decode.proofs.objects.frame.put_fault.Goals as goal

pub returns : goal.returns
unfolding fields_tokens fault_field fault_fields
returns g c =
    said (fields_tokens (fault_field c.args.place.now c.args.number c.args.name.now ∷ []))
    (c.put_name.ensures >> c.put_object.ensures >> unchanged) cc
