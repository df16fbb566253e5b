use Rattle.std.proofs.Common.{rules, ◌≡◌, ◌∙◌, ◌++◌, ap, take}
use Rattle.std.proofs.lemmas.List.{take_all}
use Rattle.mbdc_bus.specs.Limits.{most_answer}
use Rattle.mbdc_installer.specs.Hearing.{Hears}
use Rattle.mbdc_installer.proofs.hearing.ask.Goals as goal

pub returns-in-Some-clause-heard : goal.returns-in-Some-clause-heard
returns-in-Some-clause-heard g c = Hears.selects {wire = c.in-Some.wire} (search rules) c.select.ensures

pub returns-then-not-is_confirmed-clause-heard : goal.returns-then-not-is_confirmed-clause-heard
returns-then-not-is_confirmed-clause-heard g c =
    Hears.is_judged {wire = c.in-Some-wire.wire} {meter = c.in-Some-meter_of.meter} {is_so = c.is_confirmed.result} c.take_or_ask-answer.result
    (search rules) (search rules) c.take_or_ask-answer.ensures.taken (search rules) c.is_confirmed.ensures (search rules) (search rules)

pub returns-clause-heard : goal.returns-clause-heard
returns-clause-heard g c =
    -- a copy of the answer
    let same : c.append.new.self ≡ c.take_or_ask-answer.result =
    c.append.ensures
    ∙ ap (λ bytes. take most_answer (bytes ++ c.as_slice-2.result.now)) c.new-telegram.ensures
    ∙ ap (take most_answer) c.as_slice-2.ensures.bytes
    ∙ take_all most_answer c.take_or_ask-answer.result c.as_slice-2.ensures.fits in
    Hears.is_judged {wire = c.in-Some-wire.wire} {meter = c.in-Some-meter_of.meter} {is_so = c.is_confirmed.result} c.take_or_ask-answer.result
    (search rules) (search rules) c.take_or_ask-answer.ensures.taken (search rules) c.is_confirmed.ensures (search rules) (search rules)
