use Rattle.std.proofs.Common.{◌≡◌, ◌++◌, ◌∷◌, ◌+◌, ℕ, suc, List, [], map, length, drop, ap, sym, subst, ◌∙◌, arith, length-append}
use Rattle.std.specs.Vec.Iter.{into_iter_items}
use Rattle.mbdc_poll.specs.Planned.{AreStations}
use Rattle.mbdc_poll.specs.declared.station.Station.{Station}
use Rattle.mbdc_poll.proofs.Planning.{buses_more, first_after, rest_after, stations_more}
use Rattle.std.proofs.lemmas.Grind.{common_steps}
use Rattle.mbdc_poll.proofs.image.stations_of.Goals as goal

pub lines-preserved : goal.lines-preserved
lines-preserved g c =
    let s : Station g.row.B.Denot = record c.new-station.result { said = c.is_lost-said.result } in
    let was : List (Station g.row.B.Denot) = c.lines.stations.items in
    let rest : List g.row.B.Denot = into_iter_items c.next.new.self in
    let items : c.push.new.self.items ≡ was ++ s ∷ [] = c.in_ok-push.ensures.items in
    let fresh = c.new-station.ensures.fresh in
    let lent = c.as_mut_slice.ensures.value in
    let left : map (λ (x : Station g.row.B.Denot). x.bus) was ++ s.bus ∷ rest ≡ c.args.buses.items =
    ap (λ (b : g.row.B.Denot). map (λ (x : Station g.row.B.Denot). x.bus) was ++ b ∷ rest) fresh.bus ∙ ap (λ (bs : List g.row.B.Denot). map (λ (x : Station g.row.B.Denot). x.bus) was ++ bs) (sym c.in-Some.ensures.steps.0) ∙ c.lines.invariant.buses in
    let here = sym c.lines.invariant.others ∙ c.in-Some-split_first_mut.ensures.cases.0 in
    let more : length (was ++ s ∷ []) ≡ length was + 1 = length-append was (s ∷ []) in
    let count : length c.push.new.self.items ≡ suc (length was) = ap length items ∙ omega (arith, more) in
    record {
      can = tt;
      ends = tt;
      buses = subst (λ (xs : List (Station g.row.B.Denot)). map (λ (x : Station g.row.B.Denot). x.bus) xs ++ rest ≡ c.args.buses.items) (sym items) (buses_more was s rest c.args.buses.items left);
      others = sym (rest_after (length was) c.args.queues.now c.in-Some-split_first_mut.queue.now c.in-Some-split_first_mut.more.now here) ∙ ap (λ (n : ℕ). drop n c.args.queues.now) (sym count);
      each = subst (λ (xs : List (Station g.row.B.Denot)). AreStations (λ v. v.items) g.B.HalfBus.lost c.args.queues.now xs) (sym items)
          (stations_more (λ v. v.items) g.B.HalfBus.lost c.args.queues.now was s c.lines.invariant.each (λ q. record {
            queue_is = fresh.left ∙ lent ∙ ap (λ v. v.items) (sym (first_after (length was) c.args.queues.now c.in-Some-split_first_mut.queue.now c.in-Some-split_first_mut.more.now q here));
            said = c.is_lost-said.ensures.lost ∙ ap (λ (b : g.row.B.Denot). g.B.HalfBus.lost b) (sym fresh.bus);
            fresh = record { first = fresh.pass; all = fresh.due ∙ ap length (sym fresh.left); free = fresh.phase; quiet = fresh.request };
          }));
    }

pub lines-init : goal.lines-init
lines-init g c = grind (arith, common_steps)

pub returns-in_default-clause-buses : goal.returns-in_default-clause-buses
returns-in_default-clause-buses g c = grind (arith, common_steps)

pub returns-in_default-clause-each : goal.returns-in_default-clause-each
returns-in_default-clause-each g c = c.lines.invariant.each

pub returns-clause-buses : goal.returns-clause-buses
returns-clause-buses g c = grind (arith, common_steps)

pub returns-clause-each : goal.returns-clause-each
returns-clause-each g c = c.lines.invariant.each
