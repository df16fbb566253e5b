use Rattle.std.proofs.Common.{Option, Some, ℕ, ap, sym, ◌∙◌}
use Rattle.std.specs.List.{list_any}
use Rattle.std.specs.Map.{values_of}
use Rattle.mbdc_change.specs.State.{Held}
use Rattle.mbdc_change.specs.Accepts.{is_taken, occupies}
use Rattle.dc_meters.proofs.Unaddressed.{free_by_identity}
use Rattle.dc_meters.proofs.house.House.is_taken.Goals as goal

pub returns-in-None : goal.returns-in-None
returns-in-None g c =
    sym (ap (λ (address : Option ℕ). is_taken c.args.line address c.args.self.now.state) c.in-None.is ∙ free_by_identity c.args.line (values_of c.args.self.now.state.meters))

pub returns-in-Some : goal.returns-in-Some
returns-in-Some g c =
    c.is_taken.ensures ∙ ap (λ (x : Held). list_any (occupies c.args.line (Some c.in-Some.address)) (values_of x.state.meters)) c.self.view_is
    ∙ sym (ap (λ (address : Option ℕ). is_taken c.args.line address c.args.self.now.state) c.in-Some.is)
