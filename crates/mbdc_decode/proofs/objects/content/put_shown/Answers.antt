use Rattle.std.proofs.Common.{◌≡◌, Bool, true, false, [], ◌∷◌, map, ap, sym, ◌∙◌}
use Rattle.std.specs.Prelude.{if◌then◌else◌}
use Rattle.mbdc_decode.specs.Object.{values_tokens}
use Rattle.mbdc_decode.proofs.ObjectTexts.{no_values}
use Rattle.mbdc_reading.specs.Fixed.{Fixed, counters_of, fixed_view, shows_counters}
use Rattle.mbdc_decode.specs.Record.{counter_json}
use Rattle.mbdc_decode.proofs.Adding.{◌>>◌, unchanged, said}
use Rattle.mbdc_decode.proofs.objects.content.put_shown.Goals as goal

pub returns-then-shows_counters : goal.returns-then-shows_counters
unfolding values_tokens
returns-then-shows_counters g c =
    let f : Fixed = fixed_view c.args.found.now in
    let is : shows_counters f ≡ true = sym c.shows_counters.ensures ∙ c.if-shows_counters.true in
    said (values_tokens (map counter_json (counters_of f))) (c.put_counter.ensures >> c.put_counter-then-shows_counters.ensures >> unchanged)
    (ap (λ (shows : Bool). values_tokens (map counter_json (if shows then f.first ∷ f.second ∷ [] else []))) (sym is))

pub returns : goal.returns
returns g c =
    let f : Fixed = fixed_view c.args.found.now in
    let is : shows_counters f ≡ false = sym c.shows_counters.ensures ∙ c.if-shows_counters.false in
    said (values_tokens (map counter_json (counters_of f))) unchanged
    (sym no_values ∙ ap (λ (shows : Bool). values_tokens (map counter_json (if shows then f.first ∷ f.second ∷ [] else []))) (sym is))
