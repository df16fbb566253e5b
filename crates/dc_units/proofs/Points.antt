-- A record's row, known by its quantity and its power of ten.
use Rattle.std.proofs.Common.{◌≡◌, ℕ, true, eqb, List, length, refl, ap, Option, Some, None, unwrap_or, ℤ}
use Rattle.std.specs.Option.{option_map}
use Rattle.std.proofs.lemmas.Bool.{eq-eqb}
use Rattle.dc_records.specs.Record.{Entry, width}
use Rattle.dc_units.specs.declared.quantity.Quantity.{Quantity}
use Rattle.dc_units.specs.declared.value.Value.{Value}
use Rattle.dc_units.specs.declared.point.Seen.TheVariants.{Point as Known}
use Rattle.dc_units.specs.Quantity.{takes}
use Rattle.dc_units.specs.Table.{Row, exponent_of}
use Rattle.dc_units.specs.Value.{value_in}
use Rattle.dc_units.specs.Point.{seen_in}

-- the unit of a row for a VIB
abbrev pub unit_in : List ℕ → Option Row → Option (Quantity × ℤ)
unit_in vib row = option_map (λ (r : Row). let unit : Quantity × ℤ = (r.quantity, exponent_of vib r) in unit) row

same_pair : (a b : Quantity) (x y : ℤ) → ◌≡◌ {A = Option (Quantity × ℤ)} (Some (a, x)) (Some (b, y)) → (a ≡ b) × (x ≡ y)
same_pair a b x y h =
    (ap (λ (o : Option (Quantity × ℤ)). (unwrap_or o (a, x)).0) h, ap (λ (o : Option (Quantity × ℤ)). (unwrap_or o (a, x)).1) h)

-- the point of a record whose row is known by its unit
pub seen_in-point : (e : Entry) (row : Option Row) (q : Quantity) (x : ℤ) (v : Value) → unit_in e.vib row ≡ Some (q, x)
    → takes q e.field ≡ true → length e.content ≡ width e.field → v ≡ value_in q x e.field e.content
    → Known (record { storage = e.storage; function = e.function; tariff = e.tariff; subunit = e.subunit; quantity = q; value = v }) ≡ seen_in e row
seen_in-point e None q x v h taken whole is = cc
seen_in-point e (Some r) q x v h taken whole is =
    let same_unit = same_pair r.quantity q (exponent_of e.vib r) x h in
    let eq : r.quantity ≡ q = same_unit.0 in
    let ex : exponent_of e.vib r ≡ x = same_unit.1 in
    let same : eqb (length e.content) (width e.field) ≡ true = eq-eqb (length e.content) (width e.field) whole in
    rw (eq, ex, taken, same, is) refl
