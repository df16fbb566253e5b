use Rattle.std.proofs.Common.{ℕ, List, codes, ap}
use Rattle.mbdc_decode.specs.Content.{content_field}
use Rattle.dc_readout.specs.Why.{number_of, name_of}
use Rattle.mbdc_decode.specs.Object.{fields_tokens}
use Rattle.mbdc_decode.proofs.Adding.{◌>>◌, unchanged, said}
use Rattle.mbdc_poll.specs.Content.{untaken}
use Rattle.mbdc_poll.specs.Object.{body_fields, failed_fields, fault_fields, heard_fields}
use Rattle.mbdc_poll.proofs.Objects.{fault_is, four, of_meter}
use Rattle.mbdc_poll.proofs.events.objects.put_failed.Goals as goal

pub returns : goal.returns
unfolding failed_fields fields_tokens heard_fields
returns g c =
    let why = c.args.why in
    let brought = c.args.brought.now in
    let heard = said (fields_tokens (heard_fields c.args.line brought.misses)) (c.put_count.ensures >> c.put_name.ensures >> c.put_object.ensures >> unchanged) cc in
    said (fields_tokens (failed_fields c.args.line c.args.meter.now why brought))
    (c.put_row.ensures >> c.put_code.ensures >> c.put_body_fault.ensures >> heard >> c.put_untaken.ensures)
    (of_meter (codes "failed") c.args.meter.now _ _ _ c.text.ensures
    (four (fault_fields (number_of why) (name_of why)) _ (body_fields why) (heard_fields c.args.line brought.misses) (content_field (untaken brought.last)) _
    (fault_is c.number.ensures c.name.ensures) (ap (λ (bytes : List ℕ). content_field (untaken bytes)) c.as_slice.ensures.bytes)))
