-- The words that ask for a table: no date is spelled as the register is.
use Rattle.std.proofs.Common.{◌≡◌, codes, length, arith, ap, ◌∙◌}
use Rattle.dc_units.specs.Date.{Day}
use Rattle.dc_units.specs.Text.{day_text}
use Rattle.dc_units.proofs.DayTexts.{day_length}

pub register_is_no_day : (date : Day) → codes "register" ≡ day_text date → ⊥
register_is_no_day date same =
    let long : length (codes "register") ≡ 10 = ap length same ∙ day_length date in
    omega arith
