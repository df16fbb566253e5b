-- The values that decide in a window, as the code has them (this product).
use Rattle.std.specs.Prelude.{◌≡◌, map}
use Rattle.mbdc_audit.specs.Amount.{counting}
use Rattle.mbdc_audit.specs.View.{seen_value}
use Rattle.mbdc_audit.specs.declared.curve.Curve as curve_type
use Rattle.mbdc_audit.specs.declared.house.Window as window_type

-- the values that decide are those of a window
abbrev pub IsCurve : {A : Type 0} → window_type.Window A → curve_type.Curve A → Type 0
IsCurve w c = map seen_value c.values.items ≡ counting (map seen_value w.values.items)
