use Rattle.std.proofs.Common.{◌<◌, List, Ok, length, get_or, refl, sym, ◌∙◌, arith, ℕ, ◌+◌, subst}
use Rattle.std.specs.List.{All}
use Rattle.mbdc_poll.specs.Telling.{TakesAll}
use Rattle.mbdc_poll.specs.Round.{IsOver}
use Rattle.mbdc_poll.specs.declared.station.Station.{Station}
use Rattle.mbdc_poll.proofs.Exhausting.{all_done, all_less, all_over, all_silent, most_rounds, over_one}
use Rattle.mbdc_poll.proofs.Polling.{polled_none, polled_over, polled_unkept, polls_first, polls_kept}
use Rattle.mbdc_poll.proofs.Running.{runs_as, runs_then}
use Rattle.mbdc_io.specs.Failures.{HasRisen}
use Rattle.mbdc_poll.specs.declared.outcome.Outcome.{Outcome}
use Rattle.mbdc_poll.proofs.readout.read_rounds.Goals as goal

pub returns-in-Err-clause-went : goal.returns-in-Err-clause-went
returns-in-Err-clause-went g c =
    runs_as g.D.Disk _ _ c.args.concentrator.now c.commit_all.new.concentrator (c.in-Err.ensures.went c.args.tries c.requires.sound)
    (λ core happened a. polled_none g.B.HalfBus g.T.Timer.tells g.T.Timer.passes g.N.Teller.takes c.args.tries c.in-Err.fault c.args.stations.now c.commit_all.new.stations c.args.timer.now c.args.teller.now c.args.before c.outcome_of.result core happened c.outcome_of.ensures a)

pub rounds-init : goal.rounds-init
rounds-init g c =
    let b = g.B.HalfBus in
    let t = c.args.tries in
    record {
      budget = c.commit_all.ensures.budget;
      count = c.commit_all.auto.stations;
      sound = c.commit_all.ensures.sound t c.requires.sound;
      well = refl;
      few = omega arith;
      fewer = λ k d below.
          let less = c.commit_all.ensures.fewer t 1 1 c.requires.sound k d below in
          let one = over_one b t (get_or c.commit_all.new.stations k d) in
          let two = all_less b t (get_or c.args.stations.now k d) in
          omega (arith, less, one, two);
      so_far = runs_as g.D.Disk _ _ c.args.concentrator.now c.commit_all.new.concentrator (c.in-Ok.ensures.went t c.requires.sound)
          (λ core happened a. polls_first b g.T.Timer.tells g.T.Timer.passes g.N.Teller.takes t (Ok c.in-Ok.field-0) c.args.stations.now c.commit_all.new.stations c.args.timer.now c.args.teller.now c.args.before core happened a);
    }

pub returns-then-is_over-clause-went : goal.returns-then-is_over-clause-went
returns-then-is_over-clause-went g c =
    let b = g.B.HalfBus in
    let over = all_done c.rounds.stations (sym c.is_over.ensures ∙ c.if-is_over.true) in
    runs_as g.D.Disk _ _ c.args.concentrator.now c.rounds.concentrator c.rounds.invariant.so_far
    (λ core happened a. polled_over b g.T.Timer.tells g.T.Timer.passes g.N.Teller.takes c.args.tries c.args.stations.now c.rounds.stations c.args.timer.now c.rounds.timer (TakesAll g.N.Teller.takes c.args.teller.now c.rounds.teller) c.args.before c.rounds.counts c.outcome_of-then-is_over.result core happened c.outcome_of-then-is_over.ensures a
    (λ fresh few. (over, all_silent b c.args.tries c.rounds.stations c.rounds.invariant.sound over)))

pub returns-in-Ok-Some-clause-went : goal.returns-in-Ok-Some-clause-went
returns-in-Ok-Some-clause-went g c =
    runs_then g.D.Disk _ _ _ c.args.concentrator.now c.rounds.concentrator c.round.new.concentrator c.rounds.invariant.so_far c.rounds.invariant.budget c.in-Ok-Some.ensures.went
    (λ core happened more a r. polled_unkept g.B.HalfBus g.T.Timer.tells g.T.Timer.passes g.N.Teller.takes c.args.tries c.in-Ok-Some.field-0 c.in-Ok-Some.fault c.args.stations.now c.rounds.stations c.round.new.stations
    c.args.timer.now c.rounds.timer c.round.new.timer c.args.teller.now c.rounds.teller c.round.new.teller c.args.before c.rounds.counts c.round.new.counts c.outcome_of-in-Ok-Some.result core happened more c.rounds.invariant.count c.in-Ok-Some.field-0-is c.outcome_of-in-Ok-Some.ensures a r)

pub returns-in-Err-round-clause-went : goal.returns-in-Err-round-clause-went
returns-in-Err-round-clause-went g c =
    runs_then g.D.Disk _ _ _ c.args.concentrator.now c.rounds.concentrator c.round.new.concentrator c.rounds.invariant.so_far c.rounds.invariant.budget c.round.ensures.went
    (λ core happened more a r. tt)

pub rounds-preserved : goal.rounds-preserved
rounds-preserved g c =
    let b = g.B.HalfBus in
    let more = c.in-Ok-None.ensures.few in
    let was = c.rounds.invariant.few in
    record {
      budget = c.round.ensures.budget ∙ c.rounds.invariant.budget;
      count = c.round.auto.stations ∙ c.rounds.invariant.count;
      sound = c.in-Ok-None.ensures.sound;
      well = c.in-Ok-None.ensures.counted.0 ∙ c.rounds.invariant.well;
      few = omega (arith, more, was);
      fewer = λ k d below.
          let before = c.rounds.invariant.fewer k d below in
          let now = c.in-Ok-None.ensures.fewer c.in-Ok-None.field-0-is k d (omega (arith, below, c.rounds.invariant.count)) in
          omega (arith, before, now);
      so_far =
          runs_then g.D.Disk _ _ _ c.args.concentrator.now c.rounds.concentrator c.round.new.concentrator c.rounds.invariant.so_far c.rounds.invariant.budget c.in-Ok-None.ensures.went
          (λ core happened more a r. polls_kept b g.T.Timer.tells g.T.Timer.passes g.N.Teller.takes c.args.tries c.in-Ok-None.field-0 c.args.stations.now c.rounds.stations c.round.new.stations
          c.args.timer.now c.rounds.timer c.round.new.timer c.args.teller.now c.rounds.teller c.round.new.teller c.args.before c.rounds.counts c.round.new.counts core happened more c.rounds.invariant.count c.in-Ok-None.field-0-is a r);
    }

pub returns-clause-went : goal.returns-clause-went
returns-clause-went g c =
    let b = g.B.HalfBus in
    let olds : List (Station g.row.B.Denot) = c.args.stations.now in
    let news : List (Station g.row.B.Denot) = c.rounds.stations in
    runs_as g.D.Disk _ _ c.args.concentrator.now c.rounds.concentrator c.rounds.invariant.so_far
    (λ core happened a. polled_over b g.T.Timer.tells g.T.Timer.passes g.N.Teller.takes c.args.tries olds news c.args.timer.now c.rounds.timer (TakesAll g.N.Teller.takes c.args.teller.now c.rounds.teller) c.args.before c.rounds.counts c.outcome_of-2.result core happened c.outcome_of-2.ensures a
    (λ fresh few.
    let over : All IsOver news = all_over b c.args.tries news c.rounds.invariant.sound (λ k d below.
    let within : k < length olds = omega (arith, below, c.rounds.invariant.count) in
    let less = c.rounds.invariant.fewer k d within in
    let most = most_rounds b c.args.tries (get_or olds k d) c.ranges.tries.fits (fresh k d within) (few k d within) in
    omega (arith, less, most, c.rounds-test.false)) in
    (over, all_silent b c.args.tries news c.rounds.invariant.sound over)))

pub returns-in-Err-clause-few : goal.returns-in-Err-clause-few
returns-in-Err-clause-few g c =
    subst (λ (o : Outcome). o.read + o.failed < 13835058055282163712) (sym c.outcome_of.ensures)
    (omega (arith, c.requires.few))

pub returns-in-Err-clause-budget : goal.returns-in-Err-clause-budget
returns-in-Err-clause-budget g c = c.commit_all.ensures.budget

pub returns-in-Err-clause-counted : goal.returns-in-Err-clause-counted
returns-in-Err-clause-counted g c = (refl, tt)

pub returns-then-is_over-clause-few : goal.returns-then-is_over-clause-few
returns-then-is_over-clause-few g c =
    subst (λ (o : Outcome). o.read + o.failed < 13835058055282163712) (sym c.outcome_of-then-is_over.ensures)
    (omega (arith, c.requires.few, c.rounds.invariant.few, c.rounds-test.true))

pub returns-then-is_over-clause-budget : goal.returns-then-is_over-clause-budget
returns-then-is_over-clause-budget g c = c.rounds.invariant.budget

pub returns-then-is_over-clause-counted : goal.returns-then-is_over-clause-counted
returns-then-is_over-clause-counted g c = (c.rounds.invariant.well, tt)

pub round-requires-clause-lines : goal.round-requires-clause-lines
round-requires-clause-lines g c = omega (arith, c.requires.lines, c.rounds.invariant.count)

pub round-requires-clause-sound : goal.round-requires-clause-sound
round-requires-clause-sound g c = c.rounds.invariant.sound

pub round-requires-clause-few : goal.round-requires-clause-few
round-requires-clause-few g c = omega (arith, c.requires.few, c.rounds.invariant.few, c.rounds-test.true)

pub returns-in-Ok-Some-clause-few : goal.returns-in-Ok-Some-clause-few
returns-in-Ok-Some-clause-few g c =
    subst (λ (o : Outcome). o.read + o.failed < 13835058055282163712) (sym c.outcome_of-in-Ok-Some.ensures)
    (omega (arith, c.requires.few, c.rounds.invariant.few, c.rounds-test.true, c.in-Ok-Some.ensures.few))

pub returns-in-Ok-Some-clause-budget : goal.returns-in-Ok-Some-clause-budget
returns-in-Ok-Some-clause-budget g c = c.round.ensures.budget ∙ c.rounds.invariant.budget

pub returns-in-Ok-Some-clause-counted : goal.returns-in-Ok-Some-clause-counted
returns-in-Ok-Some-clause-counted g c = (c.in-Ok-Some.ensures.counted.0 ∙ c.rounds.invariant.well, tt)

pub returns-in-Err-round-clause-budget : goal.returns-in-Err-round-clause-budget
returns-in-Err-round-clause-budget g c = c.round.ensures.budget ∙ c.rounds.invariant.budget

pub returns-in-Err-round-clause-counted : goal.returns-in-Err-round-clause-counted
returns-in-Err-round-clause-counted g c = (
  tt,
  subst (λ (n : ℕ). HasRisen n (g.N.Teller.failures c.round.new.teller)) c.rounds.invariant.well
      c.in-Err-round.ensures.counted.1,
)

pub returns-clause-budget : goal.returns-clause-budget
returns-clause-budget g c = c.rounds.invariant.budget

pub returns-clause-counted : goal.returns-clause-counted
returns-clause-counted g c = (c.rounds.invariant.well, tt)
