use Rattle.std.proofs.Common.{ap, sym}
use Rattle.dc_records.specs.Body.{Ending}
use Rattle.dc_records.specs.Seen.{ending}
use Rattle.mbdc_decode.specs.Object.{fields_tokens}
use Rattle.mbdc_decode.proofs.Adding.{said}
use Rattle.mbdc_decode.specs.JsonTelegram.{end_fields, ending_fields}
use Rattle.mbdc_decode.proofs.objects.telegram.put_end.Goals as goal

pub returns-in-Plain : goal.returns-in-Plain
unfolding end_fields ending_fields
returns-in-Plain g c =
    said (fields_tokens (end_fields (ending c.args.end))) c.put_row.ensures (ap (λ (e : Ending). fields_tokens (end_fields e)) (ap ending (sym c.in-Plain.is)))

pub returns-in-Last : goal.returns-in-Last
unfolding end_fields ending_fields
returns-in-Last g c =
    said (fields_tokens (end_fields (ending c.args.end))) c.put_row-in-Last.ensures (ap (λ (e : Ending). fields_tokens (end_fields e)) (ap ending (sym c.in-Last.is)))

pub returns-in-More : goal.returns-in-More
unfolding end_fields ending_fields
returns-in-More g c =
    said (fields_tokens (end_fields (ending c.args.end))) c.put_row-in-More.ensures (ap (λ (e : Ending). fields_tokens (end_fields e)) (ap ending (sym c.in-More.is)))
