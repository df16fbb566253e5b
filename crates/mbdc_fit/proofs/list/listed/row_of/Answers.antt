use Rattle.std.proofs.Common.{◌≡◌, ◌∙◌, List, ℕ, Option, None, Some, Bor, Global, subst, sym}
use Rattle.std.specs.Prelude.{option_map}
use Rattle.dc_meters.specs.declared.house.House.{House as Register}
use Rattle.mbdc_fit.specs.Listed.{IsResolved, without}
use Rattle.mbdc_fit.specs.Rows.{Fields}
use Rattle.mbdc_fit.proofs.Listings.{resolved_meant, resolved_unmeant, resolved_unnamed}
use Rattle.mbdc_fit.proofs.list.listed.row_of.Goals as goal

-- by the register that is given, if one is
by_house : (house given : Option (Bor (Register Global))) (fields resolved : Fields) → house ≡ given
    → IsResolved (option_map (λ (h : Bor (Register Global)). h.now.state) given) fields resolved → IsResolved (option_map (λ (h : Bor (Register Global)). h.now.state) house) fields resolved
by_house house given fields resolved is known = subst (λ (h : Option (Bor (Register Global))). IsResolved (option_map (λ (b : Bor (Register Global)). b.now.state) h) fields resolved) (sym is) known

pub returns-in_default : goal.returns-in_default
returns-in_default c = record {
  fields = record { meter = c.in_ok-shown_field.field-0.items; line = c.in_ok-shown_field-2.field-0.items; address = c.in_ok-shown_field-3.field-0.items; flat = c.in_ok-shown_field-4.field-0.items };
  meter = c.in_ok-shown_field.ensures;
  line = c.in_ok-shown_field-2.ensures;
  address = c.in_ok-shown_field-3.ensures;
  flat = c.in_ok-shown_field-4.ensures;
  resolved = by_house _ _ _ _ c.in_default.is (without _);
}

pub returns-in_default-parse : goal.returns-in_default-parse
returns-in_default-parse c = record {
  fields = record { meter = c.in_ok-shown_field.field-0.items; line = c.in_ok-shown_field-2.field-0.items; address = c.in_ok-shown_field-3.field-0.items; flat = c.in_ok-shown_field-4.field-0.items };
  meter = c.in_ok-shown_field.ensures;
  line = c.in_ok-shown_field-2.ensures;
  address = c.in_ok-shown_field-3.ensures;
  flat = c.in_ok-shown_field-4.ensures;
  resolved = by_house _ _ _ _ c.in-Some.is (resolved_unnamed c.in-Some.house.now.state _ c.as_slice.result.now c.as_slice.ensures.value c.in_default-parse.ensures.none);
}

pub returns-in_ok-flat_of-in-Ok : goal.returns-in_ok-flat_of-in-Ok
returns-in_ok-flat_of-in-Ok c = record {
  fields = record { meter = c.in_ok-shown_field.field-0.items; line = c.in_ok-shown_field-2.field-0.items; address = c.in_ok-shown_field-3.field-0.items; flat = c.in_ok-shown_field-4.field-0.items };
  meter = c.in_ok-shown_field.ensures;
  line = c.in_ok-shown_field-2.ensures;
  address = c.in_ok-shown_field-3.ensures;
  flat = c.in_ok-shown_field-4.ensures;
  resolved = by_house _ _ _ _ c.in-Some.is (resolved_meant c.in-Some.house.now.state _ c.as_slice.result.now c.in-Some-parse.name c.in-Ok.meter _ _ c.as_slice.ensures.value c.in-Some-parse.ensures.found c.in-Ok.ensures.found (c.in_ok-from_slice-in-Ok.ensures.items ∙ c.text.ensures) c.in_ok-flat_of-in-Ok.ensures);
}

pub returns-in-Err : goal.returns-in-Err
returns-in-Err c = record {
  fields = record { meter = c.in_ok-shown_field.field-0.items; line = c.in_ok-shown_field-2.field-0.items; address = c.in_ok-shown_field-3.field-0.items; flat = c.in_ok-shown_field-4.field-0.items };
  meter = c.in_ok-shown_field.ensures;
  line = c.in_ok-shown_field-2.ensures;
  address = c.in_ok-shown_field-3.ensures;
  flat = c.in_ok-shown_field-4.ensures;
  resolved = by_house _ _ _ _ c.in-Some.is (resolved_unmeant c.in-Some.house.now.state _ c.as_slice.result.now c.in-Some-parse.name c.in-Err.field-0 c.as_slice.ensures.value c.in-Some-parse.ensures.found c.in-Err.ensures.fault);
}
