use Rattle.std.proofs.Common.{codes, ap}
use Rattle.mbdc_decode.specs.Object.{fields_tokens}
use Rattle.mbdc_decode.proofs.Adding.{◌>>◌, said}
use Rattle.mbdc_poll.specs.Object.{refused_fields}
use Rattle.mbdc_poll.proofs.Objects.{fault_is, of_meter}
use Rattle.mbdc_poll.proofs.events.objects.put_refused.Goals as goal

pub returns : goal.returns
unfolding refused_fields
returns g c =
    said (fields_tokens (refused_fields c.args.meter.now c.args.refusal)) (c.put_row.ensures >> c.put_code.ensures)
    (of_meter (codes "refused") _ _ _ _ c.text.ensures (ap (λ f. fields_tokens f) (fault_is c.code-number.ensures.number c.code-number.ensures.name)))
