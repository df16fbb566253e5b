use Rattle.std.proofs.Common.{◌≡◌, ℕ, ◌-◌, List, Option, length, deque_len, rules, ap, ◌∙◌}
use Rattle.std.specs.Prelude.{option_map, slice_get}
use Rattle.mbdc_change.specs.State.{ReadingRow}
use Rattle.mbdc_looks.proofs.Sums.{same_sum}
use Rattle.mbdc_looks.proofs.summary.summary_of.Goals as goal

pub returns : goal.returns
returns g c =
    let serial : Option ReadingRow → Option ℕ = option_map (λ (r : ReadingRow). r.serial) in
    let rows = c.readings-readings.ensures.readings in
    let size : deque_len c.readings-readings.result.now ≡ length c.readings-readings.result.now.items = search rules in
    same_sum c.size.ensures.size c.budget.ensures.budget c.register_rows.ensures (c.len.ensures ∙ size ∙ ap (λ (l : List ReadingRow). length l) rows)
    (c.serial_of.ensures ∙ ap serial (c.first_of.ensures ∙ ap (λ (l : List ReadingRow). slice_get l 0) rows))
    (c.serial_of-2.ensures ∙ ap serial (c.last_of.ensures ∙ ap (λ (l : List ReadingRow). slice_get l (length l - 1)) rows))
    c.confirmed.ensures.serial c.last_number.ensures.number
