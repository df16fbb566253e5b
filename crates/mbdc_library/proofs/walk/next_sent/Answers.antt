use Rattle.std.proofs.Common.{◌≡◌, ℕ, ◌+◌, ◌-◌, List, ◌∷◌, length, sym, ◌∙◌, arith}
use Rattle.mbdc_reading.specs.Content.{sents_in, variable_view}
use Rattle.mbdc_reading.specs.Sent.{Sent, sent_view}
use Rattle.mbdc_library.proofs.Steps.{Next, found_at, next_shown, sents_some}
use Rattle.mbdc_library.proofs.walk.next_sent.Goals as goal

pub places_of-places-requires-clause-begins : goal.places_of-places-requires-clause-begins
places_of-places-requires-clause-begins c =
    let some = sents_some c.split_at.result.1.now c.args.variable.now.refused (sent_view c.in-Some.field-0) c.next.new.self (sym c.records-records.ensures ∙ c.in-Some.ensures.steps) in
    let n = found_at c.args.body.now c.split_at.result.1.now c.split_at-in-Some.result.1.now c.args.at c.min-from.result c.unwrap_or.result c.unwrap_or-in-Some.result
    c.first_item.result c.last_dife.result (sent_view c.in-Some.field-0) c.next.new.self c.min-from.ensures c.split_at.ensures.back c.first_item.ensures.place
    c.unwrap_or.ensures c.split_at-in-Some.ensures.back c.last_dife.ensures.place c.unwrap_or-in-Some.ensures some.0 in
    omega (arith, n.within)

pub places_of-places-requires-clause-fits : goal.places_of-places-requires-clause-fits
places_of-places-requires-clause-fits c =
    let some = sents_some c.split_at.result.1.now c.args.variable.now.refused (sent_view c.in-Some.field-0) c.next.new.self (sym c.records-records.ensures ∙ c.in-Some.ensures.steps) in
    let n = found_at c.args.body.now c.split_at.result.1.now c.split_at-in-Some.result.1.now c.args.at c.min-from.result c.unwrap_or.result c.unwrap_or-in-Some.result
    c.first_item.result c.last_dife.result (sent_view c.in-Some.field-0) c.next.new.self c.min-from.ensures c.split_at.ensures.back c.first_item.ensures.place
    c.unwrap_or.ensures c.split_at-in-Some.ensures.back c.last_dife.ensures.place c.unwrap_or-in-Some.ensures some.0 in
    omega (arith, n.within)

pub returns-in-Some-clause-next : goal.returns-in-Some-clause-next
returns-in-Some-clause-next c = λ done.
    let some = sents_some c.split_at.result.1.now c.args.variable.now.refused (sent_view c.in-Some.field-0) c.next.new.self (sym c.records-records.ensures ∙ c.in-Some.ensures.steps) in
    let n = found_at c.args.body.now c.split_at.result.1.now c.split_at-in-Some.result.1.now c.args.at c.min-from.result c.unwrap_or.result c.unwrap_or-in-Some.result
    c.first_item.result c.last_dife.result (sent_view c.in-Some.field-0) c.next.new.self c.min-from.ensures c.split_at.ensures.back c.first_item.ensures.place
    c.unwrap_or.ensures c.split_at-in-Some.ensures.back c.last_dife.ensures.place c.unwrap_or-in-Some.ensures some.0 in
    next_shown (variable_view c.args.variable.now) c.args.body.now c.args.at _ (sent_view c.in-Some.field-0) c.plain_record.result some.1 n (grind arith)

pub returns-in-Some-clause-on : goal.returns-in-Some-clause-on
returns-in-Some-clause-on c = λ done.
    let some = sents_some c.split_at.result.1.now c.args.variable.now.refused (sent_view c.in-Some.field-0) c.next.new.self (sym c.records-records.ensures ∙ c.in-Some.ensures.steps) in
    let n = found_at c.args.body.now c.split_at.result.1.now c.split_at-in-Some.result.1.now c.args.at c.min-from.result c.unwrap_or.result c.unwrap_or-in-Some.result
    c.first_item.result c.last_dife.result (sent_view c.in-Some.field-0) c.next.new.self c.min-from.ensures c.split_at.ensures.back c.first_item.ensures.place
    c.unwrap_or.ensures c.split_at-in-Some.ensures.back c.last_dife.ensures.place c.unwrap_or-in-Some.ensures some.0 in
    let on = n.on in
    grind arith

pub returns-in-Some-clause-within : goal.returns-in-Some-clause-within
returns-in-Some-clause-within c = λ done.
    let some = sents_some c.split_at.result.1.now c.args.variable.now.refused (sent_view c.in-Some.field-0) c.next.new.self (sym c.records-records.ensures ∙ c.in-Some.ensures.steps) in
    let n = found_at c.args.body.now c.split_at.result.1.now c.split_at-in-Some.result.1.now c.args.at c.min-from.result c.unwrap_or.result c.unwrap_or-in-Some.result
    c.first_item.result c.last_dife.result (sent_view c.in-Some.field-0) c.next.new.self c.min-from.ensures c.split_at.ensures.back c.first_item.ensures.place
    c.unwrap_or.ensures c.split_at-in-Some.ensures.back c.last_dife.ensures.place c.unwrap_or-in-Some.ensures some.0 in
    let within = n.within in
    grind arith
