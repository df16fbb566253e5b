use Rattle.std.proofs.Common.{◌≤◌, ◌<◌, ◌+◌, ◌-◌, ℕ, List, length, get_or, refl, subst, ◌∙◌, arith, length-set}
use Rattle.std.proofs.lemmas.List.Elements.{All-nil}
use Rattle.mbdc_poll.specs.Keeping.{IsAsking}
use Rattle.mbdc_poll.specs.Round.{Steps}
use Rattle.mbdc_poll.specs.Station.{IsSound, rounds_of}
use Rattle.mbdc_poll.specs.declared.station.Station.{Station}
use Rattle.mbdc_poll.proofs.Rounds.{get_or_any, all_none, all_step, all_set, becomes_none, becomes_step, becomes_all}
use Rattle.mbdc_poll.proofs.Running.{runs_none, runs_then}
use Rattle.mbdc_poll.proofs.lines.ask_all.Goals as goal

pub lines-init : goal.lines-init
lines-init g c = record {
  budget = refl;
  count = refl;
  sound = c.requires.sound;
  becomes = becomes_none _ c.args.stations.now;
  so_far = runs_none g.D.Disk _ c.args.concentrator.now (λ image left. g.met.D.Disk.only_now c.args.concentrator.now.store.disk image left)
      (λ core. all_none c.args.tries _ c.args.stations.now (All-nil IsAsking));
}

pub lines-preserved : goal.lines-preserved
lines-preserved g c =
    let at : ℕ = c.lines.at in
    let b = g.B.HalfBus in
    let mids : List (Station g.row.B.Denot) = c.lines.stations in
    let new : Station g.row.B.Denot = c.step.new.station in
    let within : at < length mids = omega (arith, c.lines-test.true, c.lines.invariant.count) in
    let result : Station g.row.B.Denot = c.index-stations-at.result in
    record {
      budget = c.step.ensures.budget ∙ c.lines.invariant.budget;
      count = length-set mids at new ∙ c.lines.invariant.count;
      sound = all_set (IsSound b c.args.tries) mids at new within c.lines.invariant.sound c.step.ensures.sound;
      becomes = becomes_step _ at c.args.stations.now mids new within c.lines.invariant.becomes
          (λ d. subst (λ (s : Station g.row.B.Denot). rounds_of b 0 0 0 c.args.tries new ≤ rounds_of b 1 1 1 c.args.tries s - 1) (get_or_any mids at result d within) c.step.ensures.fewer);
      so_far =
          runs_then g.D.Disk _ _ _ c.args.concentrator.now c.lines.concentrator c.step.new.concentrator c.lines.invariant.so_far c.lines.invariant.budget c.step.ensures.went
          (λ core happened more t m. all_step c.args.tries at IsAsking c.args.stations.now mids new happened more c.lines.invariant.count within t
          (λ d. subst (λ (s : Station g.row.B.Denot). Steps b c.args.tries (at + 1) IsAsking s new more) (get_or_any mids at result d within)
          (subst (λ (n : ℕ). Steps b c.args.tries n IsAsking (get_or mids at result) new more) c.line_at.ensures m)));
    }

pub returns-clause-fewer : goal.returns-clause-fewer
returns-clause-fewer g c = becomes_all _ c.args.stations.now c.lines.stations c.lines.at (omega (arith, c.lines-test.false)) c.lines.invariant.becomes
