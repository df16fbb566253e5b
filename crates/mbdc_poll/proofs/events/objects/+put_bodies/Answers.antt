use Rattle.std.proofs.Common.{map}
use Rattle.mbdc_decode.specs.Object.{values_tokens}
use Rattle.mbdc_decode.proofs.Adding.{◌>>◌, unchanged, said}
use Rattle.mbdc_poll.specs.Read.{hex_json}
use Rattle.mbdc_poll.proofs.Objects.{first_body, no_body_left}
use Rattle.mbdc_poll.proofs.events.objects.+put_bodies.Goals as goal

pub returns-in_default : goal.returns-in_default
returns-in_default g t c =
    said (values_tokens (map hex_json (map (λ s. s.now) c.args.bodies.now))) unchanged (no_body_left (λ s. s.now) c.args.bodies.now c.in_default.len_below)

pub returns-in-len1-up : goal.returns-in-len1-up
returns-in-len1-up g t c =
    said (values_tokens (map hex_json (map (λ s. s.now) c.args.bodies.now))) (c.put_hex_string.ensures >> c.put_bodies.ensures >> unchanged)
    (first_body (λ s. s.now) c.args.bodies.now _ c.in-len1-up.len_at_least)
