-- A row of the due-date table as JSON, by what its cells have.
use Rattle.std.proofs.Common.{◌≡◌, ℕ, List, [], ◌∷◌, ap, codes, ◌∙◌}
use Rattle.json.specs.Json.{string}
use Rattle.mbdc_decode.specs.Meter.{identity_fields}
use Rattle.mbdc_decode.specs.Record.{unit_json, value_json}
use Rattle.mbdc_decode.specs.JsonText.{value_line}
use Rattle.dc_report.specs.declared.row.Row.{Row}
use Rattle.dc_units.specs.Date.{Day}
use Rattle.dc_records.specs.Fields.{function_name}
use Rattle.dc_units.specs.Quantity.{unit_of}
use Rattle.dc_units.specs.declared.value.Value.TheVariants.{Day as OnDay}
use Rattle.mbdc_decode.specs.Object.{count, object_of}
use Rattle.mbdc_looks.specs.Report.{row_json, row_line}

abbrev row_with : Day → Row → List ℕ → ℕ → ℕ → List ℕ → List ℕ → List ℕ
row_with date row flat tariff subunit function unit = value_line (object_of (
    (codes "date", value_json (OnDay date))
    ∷ (codes "flat", string flat)
    ∷ (codes "meter", object_of (identity_fields row.meter))
    ∷ (codes "serial", count row.serial)
    ∷ (codes "storage", count row.point.storage)
    ∷ (codes "tariff", count tariff)
    ∷ (codes "subunit", count subunit)
    ∷ (codes "function", string function)
    ∷ (codes "value", value_json row.point.value)
    ∷ (codes "unit", unit_json unit)
    ∷ []))

pub row_as : (date : Day) (row : Row) (flat : List ℕ) (tariff subunit : ℕ) (function unit : List ℕ)
    → flat ≡ row.flat → tariff ≡ row.point.tariff → subunit ≡ row.point.subunit → function ≡ function_name row.point.function → unit ≡ unit_of row.point.quantity
    → row_with date row flat tariff subunit function unit ≡ row_line date row
unfolding row_json
row_as date row flat tariff subunit function unit a b c d e =
    ap (λ (x : List ℕ). row_with date row x tariff subunit function unit) a
    ∙ ap (λ (x : ℕ). row_with date row row.flat x subunit function unit) b
    ∙ ap (λ (x : ℕ). row_with date row row.flat row.point.tariff x function unit) c
    ∙ ap (λ (x : List ℕ). row_with date row row.flat row.point.tariff row.point.subunit x unit) d
    ∙ ap (row_with date row row.flat row.point.tariff row.point.subunit (function_name row.point.function)) e
