use Rattle.std.proofs.Common.{◌∙◌}
use Rattle.dc_report.proofs.PlainFields.{plain_as, flat_is_plain, meter_is_plain, medium_is_plain, number_is_plain, address_is_plain}
use Rattle.dc_report.proofs.register.put_meter.Goals as goal

pub put_line-requires-clause-plain : goal.put_line-requires-clause-plain
put_line-requires-clause-plain g c = (
  plain_as _ _ c.as_slice.ensures.name (flat_is_plain _ c.as_slice.ensures.is_flat),
  (
    plain_as _ _ c.text.ensures (meter_is_plain c.args.meter.now),
    (
      plain_as _ _ c.medium.ensures (medium_is_plain c.args.meter.now.kind),
      (
        plain_as _ _ (c.as_bytes.ensures.value ∙ c.format.ensures.text) (number_is_plain _),
        (
          plain_as _ _ c.address_text.ensures (address_is_plain _),
          (plain_as _ _ (c.as_bytes-2.ensures.value ∙ c.format-2.ensures.text) (number_is_plain _), tt),
        ),
      ),
    ),
  ),
)
