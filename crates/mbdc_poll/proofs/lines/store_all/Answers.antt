use Rattle.std.proofs.Common.{◌<◌, ℕ, List, length, refl, subst, ◌∙◌, arith, length-set}
use Rattle.mbdc_poll.specs.Round.{IsStored}
use Rattle.mbdc_poll.specs.declared.station.Station.{Station}
use Rattle.mbdc_poll.proofs.Rounds.{get_or_any, becomes_none, becomes_step, becomes_all}
use Rattle.mbdc_poll.proofs.lines.store_all.Goals as goal

pub lines-init : goal.lines-init
lines-init g c = record { count = refl; becomes = becomes_none _ c.args.stations.now }

pub lines-preserved : goal.lines-preserved
lines-preserved g c =
    let at : ℕ = c.lines.at in
    let mids : List (Station g.row.B.Denot) = c.lines.stations in
    let new : Station g.row.B.Denot = c.stored.new.self in
    let within : at < length mids = omega (arith, c.lines-test.true, c.lines.invariant.count) in
    let result : Station g.row.B.Denot = c.index-stations-at.result in
    record {
      count = length-set mids at new ∙ c.lines.invariant.count;
      becomes = becomes_step _ at c.args.stations.now mids new within c.lines.invariant.becomes
          (λ d. subst (λ (s : Station g.row.B.Denot). IsStored c.args.stored.now s new) (get_or_any mids at result d within) (c.stored.ensures.after, c.stored.ensures.brought));
    }

pub returns : goal.returns
returns g c = record {
  count = c.lines.invariant.count;
  each = becomes_all _ c.args.stations.now c.lines.stations c.lines.at (omega (arith, c.lines-test.false)) c.lines.invariant.becomes;
}
