use Rattle.std.proofs.Common.{◌≡◌, ℕ, List, ◌∷◌, drop, ap, sym, ◌∙◌, arith}
use Rattle.dc_core.specs.Event.{hears, heard}
use Rattle.mbdc_poll.specs.Missed.{and_heard}
use Rattle.mbdc_poll.specs.declared.phase.Request.TheVariants.{Answered}
use Rattle.mbdc_poll.proofs.Becoming.{busy_due, fewer_judged, first_of, taken_is, line_judged, sound_judged}
use Rattle.mbdc_poll.proofs.Hearing.{hears_one}
use Rattle.mbdc_poll.proofs.Running.{runs_as, runs_one}
use Rattle.mbdc_poll.proofs.stepping.judge.Goals as goal

pub returns-clause-went : goal.returns-clause-went
returns-clause-went g c =
    let b = g.B.HalfBus in
    let old = c.args.station.now in
    let bytes = c.taken_of.result.now in
    let first : old.left.now ≡ c.in-Some.meter ∷ drop 1 old.left.now = first_of old.left.now c.in-Some.meter (sym c.present.ensures ∙ c.in-Some.is) in
    let took : old.request ≡ Answered bytes = taken_is old.request c.requires.answered ∙ ap Answered (sym c.taken_of.ensures) in
    runs_as g.D.Disk _ _ c.args.concentrator.now c.hear-answer.new.self
    (runs_one g.D.Disk c.args.concentrator.now c.hear-answer.new.self (hears c.args.line c.args.moment.seconds bytes) (heard c.hear-answer.result) (λ image left. g.met.D.Disk.only_now c.args.concentrator.now.store.disk image left) c.hear-answer.ensures.may c.hear-answer.ensures.at tt c.hear-answer.ensures.store)
    (λ core happened is. hears_one c.args.tries c.args.line c.args.moment.seconds bytes c.hear-answer.result c.is_accepted.result old c.judged.new.self happened is c.is_accepted.ensures
    (line_judged b c.args.tries c.args.line c.args.moment.seconds c.in-Busy.asks c.in-Some.meter bytes c.hear-answer.result old c.judged.new.self c.in-Busy.is took first c.requires.sound c.judged.ensures.after (c.judged.ensures.brought ∙ ap (λ (xs : List ℕ). and_heard xs c.hear-answer.result old.brought) (sym c.taken_of.ensures))))

pub judged-requires-clause-due : goal.judged-requires-clause-due
judged-requires-clause-due g c = busy_due g.B.HalfBus c.args.tries c.in-Busy.asks c.args.station.now c.in-Busy.is c.requires.sound

pub hear-answer-requires : goal.hear-answer-requires
hear-answer-requires g c = c.args.moment.fits

pub returns-clause-fewer : goal.returns-clause-fewer
returns-clause-fewer g c = fewer_judged g.B.HalfBus c.args.tries c.in-Busy.asks c.in-Some.meter c.hear-answer.result c.args.station.now c.judged.new.self c.in-Busy.is c.requires.sound c.judged.ensures.after

pub judged-requires-clause-busy : goal.judged-requires-clause-busy
judged-requires-clause-busy g c = c.in-Busy.is

pub returns-clause-sound : goal.returns-clause-sound
returns-clause-sound g c =
    sound_judged g.B.HalfBus c.args.tries c.in-Busy.asks c.in-Some.meter c.hear-answer.result
    c.args.station.now c.judged.new.self c.in-Busy.is c.requires.sound c.judged.ensures.after

pub returns-clause-budget : goal.returns-clause-budget
returns-clause-budget g c = grind arith
