use Rattle.std.proofs.Common.{◌≡◌, ◌-◌, ℕ, Bool, List, Option, None, Some, length, map, refl, ap, sym, ◌∙◌}
use Rattle.std.proofs.lemmas.Option.{slice_get-map, slice_get_past, slice_get_read}
use Rattle.std.specs.Prelude.{not, option_map, slice_get}
use Rattle.mbdc_change.specs.State.{MeterRow}
use Rattle.mbdc_poll.specs.Planned.{has_bus, is_live, refusal_at, refusal_by}
use Rattle.mbdc_poll.specs.declared.station.Station.{Station}
use Rattle.mbdc_poll.proofs.image.refusal_of.Goals as goal

pub get-requires : goal.get-requires
get-requires g c κs = (refl, tt)

pub returns-then-is_lost : goal.returns-then-is_lost
returns-then-is_lost g c =
    let lost = g.B.HalfBus.lost in
    let buses : List g.row.B.Denot = map (λ (s : Station g.row.B.Denot). s.bus) c.args.stations.now in
    let at : c.saturating_sub.result ≡ c.in-Some.row.now.line - 1 =
    c.saturating_sub.ensures ∙ ap (λ (n : ℕ). n - 1) (c.from.ensures ∙ c.line.ensures.line) in
    let got : slice_get buses c.saturating_sub.result ≡ Some c.in-Some-get.station.now.bus =
    slice_get-map (λ (s : Station g.row.B.Denot). s.bus) c.args.stations.now c.saturating_sub.result
    ∙ ap (λ (o : Option (Station g.row.B.Denot)). option_map (λ (s : Station g.row.B.Denot). s.bus) o)
    (slice_get_read c.args.stations.now (length c.args.stations.now) c.saturating_sub.result
    c.in-Some-get.station.now refl c.in-Some-get.ensures.lookup.3.0 c.in-Some-get.ensures.lookup.1) in
    ap (λ (b : Bool). refusal_by (not b)) (sym c.if-is_lost.true ∙ c.is_lost.ensures.lost)
    ∙ ap (λ (o : Option g.row.B.Denot). refusal_by (is_live lost o)) (sym got)
    ∙ ap (λ (n : ℕ). refusal_by (is_live lost (slice_get buses n))) at
    ∙ ap (λ (o : Option MeterRow). refusal_at (has_bus lost buses) o) c.in-Some.ensures

pub returns-else-is_lost : goal.returns-else-is_lost
returns-else-is_lost g c =
    let lost = g.B.HalfBus.lost in
    let buses : List g.row.B.Denot = map (λ (s : Station g.row.B.Denot). s.bus) c.args.stations.now in
    let at : c.saturating_sub.result ≡ c.in-Some.row.now.line - 1 =
    c.saturating_sub.ensures ∙ ap (λ (n : ℕ). n - 1) (c.from.ensures ∙ c.line.ensures.line) in
    let got : slice_get buses c.saturating_sub.result ≡ Some c.in-Some-get.station.now.bus =
    slice_get-map (λ (s : Station g.row.B.Denot). s.bus) c.args.stations.now c.saturating_sub.result
    ∙ ap (λ (o : Option (Station g.row.B.Denot)). option_map (λ (s : Station g.row.B.Denot). s.bus) o)
    (slice_get_read c.args.stations.now (length c.args.stations.now) c.saturating_sub.result
    c.in-Some-get.station.now refl c.in-Some-get.ensures.lookup.3.0 c.in-Some-get.ensures.lookup.1) in
    ap (λ (b : Bool). refusal_by (not b)) (sym c.if-is_lost.false ∙ c.is_lost.ensures.lost)
    ∙ ap (λ (o : Option g.row.B.Denot). refusal_by (is_live lost o)) (sym got)
    ∙ ap (λ (n : ℕ). refusal_by (is_live lost (slice_get buses n))) at
    ∙ ap (λ (o : Option MeterRow). refusal_at (has_bus lost buses) o) c.in-Some.ensures

pub returns-in-None-get : goal.returns-in-None-get
returns-in-None-get g c =
    let lost = g.B.HalfBus.lost in
    let buses : List g.row.B.Denot = map (λ (s : Station g.row.B.Denot). s.bus) c.args.stations.now in
    let at : c.saturating_sub.result ≡ c.in-Some.row.now.line - 1 =
    c.saturating_sub.ensures ∙ ap (λ (n : ℕ). n - 1) (c.from.ensures ∙ c.line.ensures.line) in
    let got : slice_get buses c.saturating_sub.result ≡ None =
    slice_get-map (λ (s : Station g.row.B.Denot). s.bus) c.args.stations.now c.saturating_sub.result
    ∙ ap (λ (o : Option (Station g.row.B.Denot)). option_map (λ (s : Station g.row.B.Denot). s.bus) o)
    (slice_get_past c.args.stations.now c.saturating_sub.result c.in-None-get.ensures.lookup.3) in
    ap (λ (o : Option g.row.B.Denot). refusal_by (is_live lost o)) (sym got)
    ∙ ap (λ (n : ℕ). refusal_by (is_live lost (slice_get buses n))) at
    ∙ ap (λ (o : Option MeterRow). refusal_at (has_bus lost buses) o) c.in-Some.ensures

pub returns-in-None : goal.returns-in-None
returns-in-None g c =
    let buses : List g.row.B.Denot = map (λ (s : Station g.row.B.Denot). s.bus) c.args.stations.now in
    ap (λ (o : Option MeterRow). refusal_at (has_bus g.B.HalfBus.lost buses) o) c.in-None.ensures
