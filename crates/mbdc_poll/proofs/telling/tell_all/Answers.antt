use Rattle.std.proofs.Common.{◌≤◌, ◌<◌, ◌+◌, ℕ, List, length, get_or, refl, subst, ◌∙◌, arith, length-set}
use Rattle.mbdc_poll.specs.Round.{Moves}
use Rattle.mbdc_poll.specs.Station.{IsSound, rounds_of}
use Rattle.mbdc_poll.specs.declared.station.Station.{Station}
use Rattle.mbdc_poll.proofs.Rounds.{get_or_any, rounds_none, rounds_step, becomes_none, becomes_step, becomes_all}
use Rattle.mbdc_poll.proofs.Running.{runs_none, runs_then}
use Rattle.mbdc_poll.proofs.Taking.{told_none, told_then}
use Rattle.std.proofs.lemmas.Grind.{common_steps}
use Rattle.mbdc_poll.proofs.telling.tell_all.Goals as goal

pub lines-init : goal.lines-init
lines-init g c = record {
  well = refl;
  count = refl;
  few = omega arith;
  becomes = becomes_none _ c.args.stations.now;
  so_far = runs_none g.D.Disk _ c.args.concentrator.now (λ image left. g.met.D.Disk.only_now c.args.concentrator.now.store.disk image left)
      (λ core. record { rounds = λ tries. rounds_none tries c.args.stations.now; told = told_none g.N.Teller.takes c.args.teller.now c.args.outcome.now core });
}

pub tell-requires : goal.tell-requires
tell-requires g c = let few = c.requires.few in let so_far = c.lines.invariant.few in omega (arith, few, so_far, c.lines-test.true, c.requires.lines)

pub lines-preserved : goal.lines-preserved
lines-preserved g c =
    let at : ℕ = c.lines.at in
    let b = g.B.HalfBus in
    let olds : List (Station g.row.B.Denot) = c.args.stations.now in
    let mids : List (Station g.row.B.Denot) = c.lines.stations in
    let new : Station g.row.B.Denot = c.tell.new.station in
    let within : at < length mids = omega (arith, c.lines-test.true, c.lines.invariant.count) in
    let result : Station g.row.B.Denot = c.index-stations-at.result in
    let one : Station g.row.B.Denot → Station g.row.B.Denot → Type 0 = λ old now. (tries : ℕ) → (IsSound b tries old → IsSound b tries now) × (rounds_of b 1 1 1 tries now ≤ rounds_of b 1 1 0 tries old) in
    let less = c.tell.ensures.few in
    let was = c.lines.invariant.few in
    record {
      well = c.in-Ok.ensures.counted.0 ∙ c.lines.invariant.well;
      count = length-set mids at new ∙ c.lines.invariant.count;
      few = omega (arith, less, was);
      becomes = becomes_step one at olds mids new within c.lines.invariant.becomes
          (λ d. subst (λ (s : Station g.row.B.Denot). one s new) (get_or_any mids at result d within) (λ tries. (c.tell.ensures.sound tries, c.in-Ok.ensures.fewer tries)));
      so_far =
          runs_then g.D.Disk _ _ _ c.args.concentrator.now c.args.concentrator.now c.args.concentrator.now c.lines.invariant.so_far refl c.in-Ok.ensures.went
          (λ core happened more t m. record {
            rounds = λ tries. rounds_step tries at olds mids new happened more c.lines.invariant.count within (t.rounds tries)
                (λ d. subst (λ (s : Station g.row.B.Denot). Moves b tries (at + 1) s new more) (get_or_any mids at result d within)
                (subst (λ (n : ℕ). Moves b tries n (get_or mids at result) new more) c.line_at.ensures (m.moves tries)));
            told = told_then g.N.Teller.takes c.args.teller.now c.lines.teller c.tell.new.teller c.args.outcome.now c.lines.outcome c.tell.new.outcome core happened more t.told m.told;
          });
    }

pub returns-in-Err-clause-went : goal.returns-in-Err-clause-went
returns-in-Err-clause-went g c =
    runs_then g.D.Disk _ _ _ c.args.concentrator.now c.args.concentrator.now c.args.concentrator.now c.lines.invariant.so_far refl c.tell.ensures.went (λ core happened more t m. tt)

pub returns-clause-fewer : goal.returns-clause-fewer
returns-clause-fewer g c tries k d below = let less = (becomes_all _ c.args.stations.now c.lines.stations c.lines.at (omega (arith, c.lines-test.false)) c.lines.invariant.becomes k d below tries).1 in omega (arith, less)

pub returns-clause-sound : goal.returns-clause-sound
returns-clause-sound g c tries sound k d below =
    let within : k < length c.args.stations.now = omega (arith, below, c.lines.invariant.count) in
    (becomes_all _ c.args.stations.now c.lines.stations c.lines.at (omega (arith, c.lines-test.false)) c.lines.invariant.becomes k d within tries).0 (sound k d within)

pub offset_bounds-stations-at : goal.offset_bounds-stations-at
offset_bounds-stations-at g c = grind (arith, common_steps)

pub bounds-stations-at : goal.bounds-stations-at
bounds-stations-at g c = grind (arith, common_steps)

pub line_at-requires : goal.line_at-requires
line_at-requires g c = grind (arith, common_steps)

pub returns-in-Err-clause-few : goal.returns-in-Err-clause-few
returns-in-Err-clause-few g c = grind (arith, common_steps)

pub returns-in-Err-clause-sound : goal.returns-in-Err-clause-sound
returns-in-Err-clause-sound g c = grind (arith, common_steps)

pub returns-in-Err-clause-fewer : goal.returns-in-Err-clause-fewer
returns-in-Err-clause-fewer g c = grind (arith, common_steps)

pub returns-in-Err-clause-counted : goal.returns-in-Err-clause-counted
returns-in-Err-clause-counted g c = grind (arith, common_steps)

pub lines-smaller : goal.lines-smaller
lines-smaller g c = grind (arith, common_steps)

pub returns-clause-went : goal.returns-clause-went
returns-clause-went g c = grind (arith, common_steps)

pub returns-clause-few : goal.returns-clause-few
returns-clause-few g c = grind (arith, common_steps)

pub returns-clause-counted : goal.returns-clause-counted
returns-clause-counted g c = grind (arith, common_steps)
