use Rattle.std.proofs.Common.{◌∙◌, arith}
use Rattle.std.proofs.lemmas.Grind.{common_steps}
use Rattle.dc_report.proofs.PlainFields.{plain_as, flat_is_plain, meter_is_plain, number_is_plain, value_is_plain, unit_is_plain}
use Rattle.dc_report.proofs.due.put_row.Goals as goal

pub put_line-requires-clause-plain : goal.put_line-requires-clause-plain
put_line-requires-clause-plain g c = (
  plain_as _ _ c.as_slice.ensures.name (flat_is_plain c.args.row.now.flat c.as_slice.ensures.is_flat),
  (
    plain_as _ _ c.text.ensures (meter_is_plain c.args.row.now.meter),
    (
      plain_as _ _ (c.as_bytes.ensures.value ∙ c.format.ensures.text) (number_is_plain _),
      (
        plain_as _ _ (c.as_bytes-2.ensures.value ∙ c.format-2.ensures.text) (number_is_plain _),
        (
          plain_as _ _ (c.as_bytes-3.ensures.value ∙ c.format-3.ensures.text) (number_is_plain _),
          (
            plain_as _ _ (c.as_bytes-4.ensures.value ∙ c.format-4.ensures.text) (number_is_plain _),
            (
              plain_as _ _ (c.as_bytes-5.ensures.value ∙ c.format-5.ensures.text) (number_is_plain _),
              (
                plain_as _ _ c.write_into.ensures.text (value_is_plain c.args.row.now.point.value),
                (plain_as _ _ (c.as_bytes-6.ensures.value ∙ c.unit.ensures) (unit_is_plain c.args.row.now.point.quantity), tt),
              ),
            ),
          ),
        ),
      ),
    ),
  ),
)

pub returns-clause-text : goal.returns-clause-text
returns-clause-text g c = grind (arith, common_steps)
