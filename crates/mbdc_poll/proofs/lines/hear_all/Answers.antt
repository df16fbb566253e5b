use Rattle.std.proofs.Common.{◌≡◌, ◌≤◌, ◌<◌, ◌+◌, ◌++◌, ℕ, List, Ok, Err, length, get_or, refl, set, subst, sym, ◌∙◌, arith, length-set}
use Rattle.dc_core.specs.Core.{Core}
use Rattle.mbdc_poll.specs.Happening.{Happening}
use Rattle.mbdc_poll.specs.Keeping.{AreHeard}
use Rattle.mbdc_poll.specs.Round.{AllSteps, AreHeardAs, HearsOne, IsRoom, Runs}
use Rattle.mbdc_poll.specs.Station.{IsSound, rounds_of}
use Rattle.mbdc_poll.specs.declared.station.Station.{Station}
use Rattle.mbdc_poll.proofs.Rounds.{get_or_any, all_as, all_none, all_then, all_set, falls_none, falls_then, falls_step, falls_all}
use Rattle.mbdc_poll.proofs.Hearing.{all_heard, heard_none, room_made}
use Rattle.mbdc_poll.proofs.Running.{runs_as, runs_none, runs_then}
use Rattle.std.proofs.lemmas.Grind.{common_steps}
use Rattle.mbdc_poll.proofs.lines.hear_all.Goals as goal

pub lines-init : goal.lines-init
lines-init g c = record {
  budget = refl;
  count = refl;
  sound = c.requires.sound;
  falls = falls_none _ _ c.args.stations.now;
  so_far = runs_none g.D.Disk _ c.args.concentrator.now (λ image left. g.met.D.Disk.only_now c.args.concentrator.now.store.disk image left)
      (λ core. all_none c.args.tries _ c.args.stations.now (heard_none c.args.moment.seconds));
}

pub lines-preserved : goal.lines-preserved
lines-preserved g c =
    let at : ℕ = c.lines.at in
    let b = g.B.HalfBus in
    let m : ℕ = c.args.moment.seconds in
    let olds : List (Station g.row.B.Denot) = c.args.stations.now in
    let mids : List (Station g.row.B.Denot) = c.lines.stations in
    let rooms : List (Station g.row.B.Denot) = c.make_room.new.stations in
    let new : Station g.row.B.Denot = c.hear.new.station in
    let counted : length rooms ≡ length olds = c.make_room.auto.stations ∙ c.lines.invariant.count in
    let within : at < length rooms = omega (arith, c.lines-test.true, counted) in
    let result : Station g.row.B.Denot = c.index-stations-at.result in
    let sound = c.make_room.ensures.sound c.args.tries c.lines.invariant.sound in
    let fell = falls_then (rounds_of b 0 0 0 c.args.tries) (rounds_of b 1 0 0 c.args.tries) at olds mids rooms c.lines.invariant.count c.lines.invariant.falls (c.make_room.ensures.fewer c.args.tries 0 c.lines.invariant.sound) (c.make_room.ensures.fewer c.args.tries 1 c.lines.invariant.sound) in
    let first : Runs g.D.Disk (λ (core : Core) (happened : List Happening). AllSteps b c.args.tries (AreHeard m c.in-Ok.now) olds rooms happened) c.args.concentrator.now c.make_room.new.concentrator =
    runs_then g.D.Disk _ _ _ c.args.concentrator.now c.lines.concentrator c.make_room.new.concentrator c.lines.invariant.so_far c.lines.invariant.budget (c.in-Ok.ensures.went c.args.tries c.lines.invariant.sound)
    (λ core happened more t r. all_then c.args.tries (AreHeard m c.lines.pending) (IsRoom c.lines.pending (Ok c.in-Ok.now)) (AreHeard m c.in-Ok.now) olds mids rooms happened more c.lines.invariant.count t r
    (λ turns next a n. room_made m c.lines.pending c.in-Ok.now turns next a n)) in
    record {
      budget = c.hear.ensures.budget ∙ c.make_room.ensures.budget ∙ c.lines.invariant.budget;
      count = length-set rooms at new ∙ counted;
      sound = all_set (IsSound b c.args.tries) rooms at new within sound c.hear.ensures.sound;
      falls = falls_step (rounds_of b 0 0 0 c.args.tries) (rounds_of b 1 0 0 c.args.tries) at olds rooms new counted within fell
          (λ d. subst (λ (s : Station g.row.B.Denot). rounds_of b 1 0 0 c.args.tries new ≤ rounds_of b 0 0 0 c.args.tries s) (get_or_any rooms at result d within) c.hear.ensures.fewer);
      so_far =
          runs_then g.D.Disk _ _ _ c.args.concentrator.now c.make_room.new.concentrator c.hear.new.concentrator first (c.make_room.ensures.budget ∙ c.lines.invariant.budget) c.hear.ensures.went
          (λ core happened more t s. subst (λ (n : ℕ). AllSteps b c.args.tries (AreHeard m n) olds (set rooms at new) (happened ++ more)) (sym c.and_accepted-pending.ensures) (all_heard c.args.tries at m c.in-Ok.now c.hear.result olds rooms new happened more counted within c.in-Ok.ensures.few t
          (λ d. subst (λ (x : Station g.row.B.Denot). HearsOne b c.args.tries (at + 1) m c.hear.result x new more) (get_or_any rooms at result d within)
          (subst (λ (n : ℕ). HearsOne b c.args.tries n m c.hear.result (get_or rooms at result) new more) c.line_at.ensures s))));
    }

pub returns-clause-went : goal.returns-clause-went
returns-clause-went g c =
    let m : ℕ = c.args.moment.seconds in
    runs_as g.D.Disk _ _ c.args.concentrator.now c.lines.concentrator c.lines.invariant.so_far
    (λ core happened t. all_as c.args.tries (AreHeard m c.lines.pending) (AreHeardAs m (Ok tt)) c.args.stations.now c.lines.stations happened t (λ turns a. (c.lines.pending, a)))

pub returns-in-Err-clause-went : goal.returns-in-Err-clause-went
returns-in-Err-clause-went g c =
    let m : ℕ = c.args.moment.seconds in
    runs_then g.D.Disk _ _ _ c.args.concentrator.now c.lines.concentrator c.make_room.new.concentrator c.lines.invariant.so_far c.lines.invariant.budget (c.in-Err.ensures.went c.args.tries c.lines.invariant.sound)
    (λ core happened more t r. all_then c.args.tries (AreHeard m c.lines.pending) (IsRoom c.lines.pending (Err c.in-Err.fault)) (AreHeardAs m (Err c.in-Err.fault)) c.args.stations.now c.lines.stations c.make_room.new.stations happened more c.lines.invariant.count t r
    (λ turns next a n. (turns, next, c.lines.pending, refl, a, n)))

pub returns-in-Err-clause-sound : goal.returns-in-Err-clause-sound
returns-in-Err-clause-sound g c = c.make_room.ensures.sound c.args.tries c.lines.invariant.sound

pub returns-in-Err-clause-budget : goal.returns-in-Err-clause-budget
returns-in-Err-clause-budget g c = c.make_room.ensures.budget ∙ c.lines.invariant.budget

pub returns-clause-fewer : goal.returns-clause-fewer
returns-clause-fewer g c = falls_all _ _ c.args.stations.now c.lines.stations c.lines.at (omega (arith, c.lines-test.false)) c.lines.invariant.falls

pub make_room-requires : goal.make_room-requires
make_room-requires g c κs = grind (arith, common_steps)

pub returns-in-Err-clause-fewer : goal.returns-in-Err-clause-fewer
returns-in-Err-clause-fewer g c = grind (arith, common_steps)

pub offset_bounds-stations-at : goal.offset_bounds-stations-at
offset_bounds-stations-at g c = grind (arith, common_steps)

pub bounds-stations-at : goal.bounds-stations-at
bounds-stations-at g c = grind (arith, common_steps)

pub line_at-requires : goal.line_at-requires
line_at-requires g c = grind (arith, common_steps)

pub hear-requires : goal.hear-requires
hear-requires g c = grind (arith, common_steps)

pub and_accepted-pending-requires : goal.and_accepted-pending-requires
and_accepted-pending-requires g c = grind (arith, common_steps)

pub lines-smaller : goal.lines-smaller
lines-smaller g c = grind (arith, common_steps)

pub returns-clause-sound : goal.returns-clause-sound
returns-clause-sound g c = grind (arith, common_steps)

pub returns-clause-budget : goal.returns-clause-budget
returns-clause-budget g c = grind (arith, common_steps)
