use Rattle.std.proofs.Common.{rules, ◌≡◌, ◌∷◌, [], map, sym, ap, subst, ◌∙◌, Bor}
use Rattle.std.specs.Option.{option_or}
use Rattle.std.specs.List.Sorted.{IsStrictlySortedBy}
use Rattle.std.specs.BTreeMap.{get}
use Rattle.std.specs.FinMap.{find}
use Rattle.dc_address.specs.declared.identity.Identity.{Identity}
use Rattle.mbdc_change.specs.State.{ReadingRow}
use Rattle.dc_meters.specs.declared.place.Place.{Place}
use Rattle.dc_report.specs.Ascending.{at_key}
use Rattle.dc_meters.specs.Places.{place_cmp}
use Rattle.dc_report.specs.DueTable.{last_readings, reading_place}
use Rattle.dc_meters.proofs.InOrder.{entries_in_order}
use Rattle.dc_report.proofs.Viewed.{found_at, keys_viewed, seconds_viewed, viewed}
use Rattle.dc_meters.proofs.PlaceOrder.{places_total, places_same}
use Rattle.dc_report.proofs.LastReadings.{entry_at, entry_found, entry_more, if_at, at_flat, last_at, seen}
use Rattle.dc_report.proofs.last.due_readings.Goals as goal

pub loop-meter-preserved : goal.loop-meter-preserved
loop-meter-preserved g c =
    let e : Identity × Bor ReadingRow = (c.in-Some.meter.now, c.in-Some.reading.now) in
    let left : c.loop-meter.meter-iterator ≡ e ∷ c.next.new.self = search rules in
    let went_in = rw c.flat.ensures at c.in-Ok.ensures.updates.0 in
    record {
      ordered = c.insert.ensures.ordered;
      found = λ q. ap (λ o. option_or (entry_at q c.next.new.self) (seen o)) (went_in q)
          ∙ entry_more q e c.next.new.self (get place_cmp c.loop-meter.rows q)
          ∙ ap (λ es. option_or (entry_at q es) (seen (get place_cmp c.loop-meter.rows q))) (sym left)
          ∙ c.loop-meter.invariant.found q;
    }

pub returns : goal.returns
returns g c =
    let date = c.args.date in
    let readings = c.args.house.now.state.readings in
    let serials = c.last_readings.ensures.is_state.readings_ascend in
    let nothing : c.loop-meter.meter-iterator ≡ [] = search rules in
    let entries = c.loop-meter.rows.entries in
    let last = c.in_ok-last.last.entries in
    let view : Bor ReadingRow → ReadingRow = λ r. r.now in
    let start = c.into_iter-meter-iterator.ensures.into_iter_gives in
    let kept : (q : Place) → seen (get place_cmp c.loop-meter.rows q) ≡ entry_at q last =
    λ q. sym (ap (λ es. option_or (entry_at q es) (seen (get place_cmp c.loop-meter.rows q))) nothing) ∙ c.loop-meter.invariant.found q ∙ ap (entry_at q) start.0 in
    let found : (q : Place) → find place_cmp q (map (viewed place_cmp view) entries) ≡ find place_cmp q (map (at_key reading_place) (last_readings date readings)) =
    λ q. found_at place_cmp view q entries ∙ kept q ∙ entry_found q last start.5 ∙ ap (if_at (at_flat q.flat)) (c.in_ok-last.ensures.last q.meter) ∙ sym (last_at date q readings serials) in
    sym (seconds_viewed place_cmp view entries)
    ∙ ap (map (λ (e : Place × ReadingRow). e.1))
    (entries_in_order place_cmp places_total places_same (map (viewed place_cmp view) entries) (map (at_key reading_place) (last_readings date readings))
    (subst (IsStrictlySortedBy place_cmp) (sym (keys_viewed place_cmp view entries)) c.loop-meter.invariant.ordered) found)
