use Rattle.std.proofs.Common.{Option, Some, ℕ, ap, sym, ◌∙◌}
use Rattle.std.specs.Prelude.{not, ◌&&◌}
use Rattle.std.specs.List.{list_any}
use Rattle.std.specs.BTreeMap.{is_at}
use Rattle.dc_address.specs.declared.identity.Identity.{Identity}
use Rattle.dc_address.specs.Identity.{identity_cmp}
use Rattle.mbdc_change.specs.State.{Held, MeterRow}
use Rattle.mbdc_change.specs.Accepts.{occupies}
use Rattle.dc_meters.proofs.Unaddressed.{free_of_others}
use Rattle.dc_meters.proofs.house.House.is_taken_by_other.Goals as goal

pub returns-in-None : goal.returns-in-None
returns-in-None g c =
    sym
    (ap (λ (address : Option ℕ). list_any (λ (e : Identity × MeterRow). not (is_at (identity_cmp c.args.old.now) e.0) && occupies c.args.line address e.1) c.args.self.now.state.meters) c.in-None.is
    ∙ free_of_others c.args.line (λ meter. not (is_at (identity_cmp c.args.old.now) meter)) c.args.self.now.state.meters)

pub returns-in-Some : goal.returns-in-Some
returns-in-Some g c =
    c.is_taken_by_other.ensures
    ∙ ap (λ (x : Held). list_any (λ (e : Identity × MeterRow). not (is_at (identity_cmp c.args.old.now) e.0) && occupies c.args.line (Some c.in-Some.address) e.1) x.state.meters) c.self.view_is
    ∙ sym (ap (λ (address : Option ℕ). list_any (λ (e : Identity × MeterRow). not (is_at (identity_cmp c.args.old.now) e.0) && occupies c.args.line address e.1) c.args.self.now.state.meters) c.in-Some.is)
