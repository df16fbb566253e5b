use Rattle.std.proofs.Common.{◌≡◌, ◌+◌, ◌≤◌, List, [], ◌∷◌, ℕ, drop, map, refl, ap, sym, subst, ◌∙◌, arith}
use Rattle.std.specs.Prelude.{min}
use Rattle.std.proofs.lemmas.List.{drop_all, drop_more}
use Rattle.dc_address.specs.declared.identity.Identity.{Identity}
use Rattle.mbdc_poll.specs.Planned.{has_bus, refusal_event, refused_count, refused_events}
use Rattle.mbdc_poll.specs.Telling.{TakesAll}
use Rattle.mbdc_poll.specs.declared.event.Event.{Event as Told}
use Rattle.mbdc_poll.specs.declared.station.Station.{Station}
use Rattle.mbdc_poll.proofs.Taking.{takes_both}
use Rattle.mbdc_poll.proofs.image.refuse_others.Goals as goal

pub meters-preserved : goal.meters-preserved
meters-preserved g c =
    let takes = g.N.Teller.takes in
    let all : List Identity = c.args.wanted.now in
    let at : ℕ = c.meters.meter-index in
    let meter : Identity = c.meter-item.result in
    let events : List Identity → List Told = λ xs. refused_events (has_bus g.B.HalfBus.lost (map (λ (s : Station g.row.B.Denot). s.bus) c.args.stations.now)) c.args.house.now.state xs in
    let next : drop at all ≡ meter ∷ drop (at + 1) all = drop_more all at meter (omega (arith, c.meters-test.true)) ∙ ap (λ (m : Identity). m ∷ drop (at + 1) all) (sym c.meter-item.is) in
    let told = c.in_ok-tell_refusal.ensures in
    let one = subst (λ refusal. TakesAll takes c.meters.teller c.tell_refusal.new.teller (refusal_event meter refusal)) c.refusal_of-refusal.ensures told.0 in
    record {
      events = λ last more. c.meters.invariant.events last (subst (λ (xs : List Identity). TakesAll takes c.meters.teller last (events xs)) (sym next)
          (takes_both takes c.meters.teller c.tell_refusal.new.teller last _ (events (drop (at + 1) all)) one more));
      well = told.1 ∙ c.meters.invariant.well;
      small = omega (arith, c.saturating_add-refused.ensures);
      count = grind arith;
    }

pub returns-clause-told : goal.returns-clause-told
returns-clause-told g c =
    let events : List Identity → List Told = λ xs. refused_events (has_bus g.B.HalfBus.lost (map (λ (s : Station g.row.B.Denot). s.bus) c.args.stations.now)) c.args.house.now.state xs in
    let none : drop c.meters.meter-index c.args.wanted.now ≡ [] = drop_all c.meters.meter-index c.args.wanted.now c.meters-test.false in
    c.meters.invariant.events c.meters.teller (subst (λ (xs : List Identity). TakesAll g.N.Teller.takes c.meters.teller c.meters.teller (events xs)) (sym none) refl)

pub returns-clause-count : goal.returns-clause-count
returns-clause-count g c =
    let counts : List Identity → ℕ = λ xs. refused_count (has_bus g.B.HalfBus.lost (map (λ (s : Station g.row.B.Denot). s.bus) c.args.stations.now)) c.args.house.now.state xs in
    let none : drop c.meters.meter-index c.args.wanted.now ≡ [] = drop_all c.meters.meter-index c.args.wanted.now c.meters-test.false in
    let last : min 4294967295 (c.meters.refused + 0) ≡ min 4294967295 (counts c.args.wanted.now) = subst (λ (xs : List Identity). min 4294967295 (c.meters.refused + counts xs) ≡ min 4294967295 (counts c.args.wanted.now)) none c.meters.invariant.count in
    let same : c.from-2.result ≡ c.meters.refused = c.from-2.ensures in
    let few : c.meters.refused ≤ 4294967295 = c.meters.invariant.small in
    same ∙ least c.meters.refused (counts c.args.wanted.now) few last
  where
    least : (n m : ℕ) → n ≤ 4294967295 → min 4294967295 (n + 0) ≡ min 4294967295 m → n ≡ min 4294967295 m
    least n m few same = omega (arith, few, same)
