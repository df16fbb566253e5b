use Rattle.std.proofs.Common.{inl, inr, refl, ap, ◌∙◌, sym, subst, arith, List, ℕ, Bor}
use Rattle.mbdc_fit.specs.Listed.{IsShown}
use Rattle.mbdc_fit.proofs.Listings.{shown_as}
use Rattle.mbdc_fit.proofs.list.listed.shown_field.Goals as goal
use Rattle.mbdc_fit.proofs.list.listed.shown_field.Goals.{in-Ok, in-Err}

pub returns : goal.returns
returns c =
    subst (λ (field : List ℕ). IsShown field c.bytes.shown.items) c.field_in-field.ensures
    (shown_as c.field_in-field.result.now c.match-from_utf8.text.now c.bytes.shown.items c.bytes.byte-index c.bytes.invariant (omega (arith, c.bytes-test.false)) (elim c.match-from_utf8.branch [
      | in-Ok w ↦ inl (w.in-Ok.ensures.cases.1, ap (λ (t : Bor (List ℕ)). t.now) w.text-is)
      | in-Err w ↦ inr (w.in-Err.ensures.cases.0, ap (λ (t : Bor (List ℕ)). t.now) w.text-is)
    ]))
