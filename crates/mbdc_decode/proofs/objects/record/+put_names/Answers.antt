use Rattle.std.proofs.Common.{ap, map}
use Rattle.json.specs.Json.{string}
use Rattle.mbdc_reading.specs.Names.{names_of}
use Rattle.mbdc_reading.specs.Vifes.{Vife}
use Rattle.mbdc_decode.specs.Object.{values_tokens}
use Rattle.mbdc_decode.proofs.Adding.{◌>>◌, unchanged, said}
use Rattle.mbdc_decode.proofs.Names.{no_name, first_name}
use Rattle.mbdc_decode.proofs.objects.record.+put_names.Goals as goal

pub returns-in_default : goal.returns-in_default
returns-in_default g t c =
    said (values_tokens (map string (names_of c.args.after_fc c.args.vifes.now))) unchanged
    (no_name c.args.after_fc c.args.vifes.now c.in_default.len_below)

pub returns : goal.returns
returns g t c =
    let e = first_name c.args.after_fc c.args.vifes.now c.in-len1-up.len_at_least in
    let n = ap (λ (v : Vife). v.name) c.vife_at.ensures.exact in
    said (values_tokens (map string (names_of c.args.after_fc c.args.vifes.now)))
    (c.put_string.ensures >> c.put_names.ensures >> unchanged) cc
