use Rattle.std.proofs.Common.{map, option_map}
use Rattle.mbdc_decode.specs.Object.{values_tokens}
use Rattle.mbdc_decode.proofs.ObjectTexts.{no_values}
use Rattle.mbdc_reading.specs.Fixed.{fixed_view}
use Rattle.mbdc_decode.specs.Content.{counters_in}
use Rattle.mbdc_decode.specs.Record.{counter_json}
use Rattle.mbdc_decode.proofs.Adding.{unchanged, said}
use Rattle.mbdc_decode.proofs.objects.content.put_counters.Goals as goal

pub returns-in-None : goal.returns-in-None
returns-in-None g c =
    let i = c.in-None.is in
    let n = no_values in
    said (values_tokens (map counter_json (counters_in (option_map fixed_view c.args.found.now)))) unchanged cc
