use Rattle.std.proofs.Common.{◌∙◌, inr, refl}
use Rattle.mbdc_files.proofs.format.format_image.Goals as goal

pub returns-in-Ok-end : goal.returns-in-Ok-end
returns-in-Ok-end g c =
    let formatted = c.in-Ok-format.ensures in
    inr (
      refl,
      c.in-Ok-format.made,
      c.in-Ok-end.ensures.named,
      record {
        size = formatted.counts.count ∙ c.in-Ok.ensures.size;
        durable = formatted.durable;
        stands = formatted.formatted;
      },
    )
