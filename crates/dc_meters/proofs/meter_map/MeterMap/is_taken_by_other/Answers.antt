use Rattle.std.proofs.Common.{rules, refl, ◌≡◌, Some, ap, ◌∙◌}
use Rattle.std.specs.Prelude.{not, ◌&&◌}
use Rattle.std.specs.List.{list_any}
use Rattle.std.specs.BTreeMap.{is_at}
use Rattle.std.proofs.lemmas.Iterator.Search.{any_from_yields_List}
use Rattle.std.proofs.lemmas.Iterator.Consumers.{YieldsList-from_rest}
use Rattle.dc_address.specs.declared.identity.Identity.{Identity}
use Rattle.dc_address.specs.Identity.{identity_cmp}
use Rattle.mbdc_change.specs.State.{MeterRow}
use Rattle.mbdc_change.specs.Accepts.{occupies}
use Rattle.dc_meters.specs.declared.place.BusPlace.{BusPlace}
use Rattle.dc_meters.specs.Places.{MeterRows, is_on_bus}
use Rattle.dc_meters.proofs.OnBus.{any_kept, any_on_bus}
use Rattle.dc_meters.proofs.meter_map.MeterMap.is_taken_by_other.Goals as goal

pub returns : goal.returns
returns g c =
    let inside = c.self.inside in
    let any : c.any.result ≡ list_any (λ (p : BusPlace). not (is_at (identity_cmp c.args.old.now) p.meter)) c.at.result =
    any_from_yields_List (λ (p : BusPlace). not (is_at (identity_cmp c.args.old.now) p.meter)) _ _ _ c.any.ensures.ran (YieldsList-from_rest c.at.result refl) (λ x b q called. search rules) in
    any
    ∙ ap (λ (l : _). list_any (λ (p : BusPlace). not (is_at (identity_cmp c.args.old.now) p.meter)) l) c.at.ensures.places
    ∙ any_kept (is_on_bus c.args.line c.args.address) (λ (p : BusPlace). not (is_at (identity_cmp c.args.old.now) p.meter)) inside.orders.on_bus.keys
    ∙ any_on_bus c.args.line c.args.address (λ meter. not (is_at (identity_cmp c.args.old.now) meter)) inside.orders.on_bus.keys inside.rows.entries c.self.invariant.on_bus c.self.invariant.ascend
    ∙ ap (λ (m : MeterRows). list_any (λ (e : Identity × MeterRow). not (is_at (identity_cmp c.args.old.now) e.0) && occupies c.args.line (Some c.args.address) e.1) m.entries) c.self.view_is
