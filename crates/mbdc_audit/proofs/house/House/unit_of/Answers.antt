use Rattle.std.proofs.Common.{◌≡◌, ◌+◌, ℕ, Some, sym, ap, ◌∙◌}
use Rattle.std.proofs.lemmas.Result.{IfOk-weaker}
use Rattle.mbdc_audit.specs.declared.uses.Unit.{Unit}
use Rattle.mbdc_audit.specs.File.{text_at}
use Rattle.mbdc_audit.specs.Published.{IsUnit}
use Rattle.mbdc_audit.specs.Reader.{IsUnitOf}
use Rattle.mbdc_audit.specs.Uses.{unit_named}
use Rattle.mbdc_audit.specs.View.{house_of}
use Rattle.mbdc_audit.proofs.Asked.{by_unit, unit_by}
use Rattle.mbdc_audit.proofs.Classes.{if_err_weaker}
use Rattle.mbdc_audit.proofs.house.House.unit_of.Goals as goal

pub returns-in_default : goal.returns-in_default
returns-in_default g c =
    let h = house_of c.args.self.now in
    let l = c.args.line.now in
    let n = c.args.used in
    let text = c.field.ensures ∙ ap (λ (p : ℕ). text_at (p + 1) l) c.use_place.ensures.place in
    record {
      ok = IfOk-weaker c.unit.result (λ (u : Unit). (unit_named c.field.result.now ≡ Some u) × IsUnit h n u) (λ (u : Unit). IsUnitOf l.word h n u l)
          (λ u is. unit_by l.word h n u l c.in_default.not-Weather c.in_default.not-Carbon (ap unit_named (sym text) ∙ is.0, is.1)) c.unit.ensures.ok;
      err = if_err_weaker c.unit.result ((u : Unit) → unit_named c.field.result.now ≡ Some u → IsUnit h n u → ⊥) ((u : Unit) → IsUnitOf l.word h n u l → ⊥)
          (λ none u is. let unit = by_unit l.word h n u l c.in_default.not-Weather c.in_default.not-Carbon is in none u (ap unit_named text ∙ unit.0) unit.1) c.unit.ensures.err;
    }
