-- How units of numbers are made of the smallest ones, and what is computed of fractions (this product).
use Rattle.std.specs.Prelude.{ℕ, ◌+◌, ◌-◌, ◌*◌, ◌==◌, Bool, true, false, nat_lt, if◌then◌else◌}
use Rattle.std.specs.Prelude.{Option, Some, None}
use Rattle.mbdc_audit.specs.declared.exact.Exact.{Exact}
use Rattle.mbdc_audit.specs.declared.number.Scale.{Scale}
use Rattle.mbdc_audit.specs.declared.uses.Counted.{Counted}
use Rattle.mbdc_audit.specs.declared.uses.Counted.TheVariants.{Energy, Volume, Allocation}
use Rattle.mbdc_audit.specs.declared.uses.Unit.{Unit}
use Rattle.mbdc_audit.specs.declared.uses.Unit.TheVariants.{Kwh, CubicMetre, Allocated, Count, Smallest}

-- ratios are whole numbers of millionths
abbrev pub of_ratio : ℕ
of_ratio = 1000000

abbrev pub made_of : ℕ → Bool → Bool → Option Scale
made_of den weighted factor = Some (record { den = den; is_weighted = weighted; has_factor = factor })

-- The smallest units of one of these, times a million for each ratio that is in its numerator; whether amounts count by their place's
-- weight, and whether they are multiplied by a factor. A unit that isn't listed isn't one of the use's.
abbrev pub scale_of : Counted → Unit → Option Scale
scale_of _ Smallest = made_of 1 false false
scale_of Energy Kwh = made_of 3600000000 false false
scale_of Volume CubicMetre = made_of 1000000 false false
scale_of Volume Kwh = made_of (1000000 * of_ratio) false true
scale_of Allocation Count = made_of 1000 false false
scale_of Allocation Allocated = made_of (1000 * of_ratio) true false
scale_of Allocation Kwh = made_of (1000 * of_ratio * of_ratio) true true
scale_of _ _ = None

-- a number times a ratio over another number
abbrev pub times : ℕ → ℕ → Exact → Exact
times ratio divisor x = record { is_negative = x.is_negative; num = x.num * ratio; den = x.den * divisor }

abbrev pub with_factor : Scale → Option ℕ → ℕ → Option Exact
with_factor s None amount = if s.has_factor then None
    else Some (record { is_negative = false; num = amount; den = s.den })
with_factor s (Some factor) amount = Some (record {
  is_negative = false;
  num = if s.has_factor then amount * factor else amount;
  den = s.den;
})

-- a sum, plain and by weights, in a unit, with the factor in millionths
abbrev pub in_unit : ℕ × ℕ → Option Scale → Option ℕ → Option Exact
in_unit sums None factor = None
in_unit sums (Some s) factor = with_factor s factor (if s.is_weighted then sums.1 else sums.0)

-- the change from the second number to the first in per cent, for numbers of one denominator; none where the second is 0
abbrev pub percent : Exact → Exact → Option Exact
percent here there = if there.num == 0 then None else Some (record {
  is_negative = nat_lt here.num there.num;
  num = 100 * ((here.num - there.num) + (there.num - here.num));
  den = there.num;
})
