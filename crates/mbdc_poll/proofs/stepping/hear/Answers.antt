use Rattle.std.proofs.Common.{true, false, refl, sym, ◌∙◌}
use Rattle.std.proofs.Math.Nat.{le_trans}
use Rattle.mbdc_poll.proofs.Becoming.{line_heard, sound_heard, fewer_with}
use Rattle.mbdc_poll.proofs.Hearing.{hears_both, hears_none}
use Rattle.mbdc_poll.proofs.Running.{runs_none, runs_as}
use Rattle.mbdc_poll.proofs.stepping.hear.Goals as goal

pub returns-clause-went : goal.returns-clause-went
returns-clause-went g c =
    runs_as g.D.Disk _ _ c.args.concentrator.now c.judge.new.concentrator c.judge.ensures.went
    (λ core happened b. hears_both c.args.tries c.args.line c.args.moment.seconds c.judge.result c.args.station.now c.listen.new.self c.judge.new.station happened
    (line_heard g.B.HalfBus c.args.tries c.args.line c.args.station.now c.listen.new.self c.listen.ensures.out c.listen.ensures.kept) b)

pub returns-then-not-listen-clause-went : goal.returns-then-not-listen-clause-went
returns-then-not-listen-clause-went g c =
    runs_none g.D.Disk _ c.args.concentrator.now (λ image left. g.met.D.Disk.only_now c.args.concentrator.now.store.disk image left)
    (λ core. hears_none c.args.tries c.args.line c.args.moment.seconds c.args.station.now c.listen.new.self (line_heard g.B.HalfBus c.args.tries c.args.line c.args.station.now c.listen.new.self c.listen.ensures.out c.listen.ensures.kept) false refl)

pub returns-then-not-listen-clause-sound : goal.returns-then-not-listen-clause-sound
returns-then-not-listen-clause-sound g c = sound_heard g.B.HalfBus c.args.tries c.args.station.now c.listen.new.self c.listen.ensures.out c.listen.ensures.kept c.requires

pub returns-then-not-listen-clause-fewer : goal.returns-then-not-listen-clause-fewer
returns-then-not-listen-clause-fewer g c =
    fewer_with g.B.HalfBus c.args.tries c.args.station.now c.listen.new.self false c.args.station.now.request refl (sym c.listen.ensures.answered ∙ c.if-not-listen.true) c.listen.ensures.out c.listen.ensures.kept c.requires

pub judge-requires-clause-sound : goal.judge-requires-clause-sound
judge-requires-clause-sound g c = sound_heard g.B.HalfBus c.args.tries c.args.station.now c.listen.new.self c.listen.ensures.out c.listen.ensures.kept c.requires

pub returns-clause-fewer : goal.returns-clause-fewer
returns-clause-fewer g c =
    let first = fewer_with g.B.HalfBus c.args.tries c.args.station.now c.listen.new.self true c.args.station.now.request refl (sym c.listen.ensures.answered ∙ c.if-not-listen.false) c.listen.ensures.out c.listen.ensures.kept c.requires in
    le_trans c.judge.ensures.fewer first
