use Rattle.std.proofs.Common.{◌≡◌, arith, pos}
use Rattle.jiff_core.specs.Date.{epoch_day}
use Rattle.jiff_core.proofs.SignedLemmas.{signed_casts}
use Rattle.mbdc_shown.proofs.Days.{same_parts, year_fits}
use Rattle.mbdc_shown.proofs.utc.day.Goals as goal

pub overflow_cast-found : goal.overflow_cast-found
overflow_cast-found c =
    let number : epoch_day c.in-Ok.found ≡ pos c.args.number = omega (arith, signed_casts, c.in-Ok.ensures.value) in
    let parts = same_parts c.args.number c.in-Ok.found c.requires number in
    let fits = year_fits c.args.number c.requires in
    omega (arith, signed_casts, parts.0, fits)

pub returns : goal.returns
returns c =
    let number : epoch_day c.in-Ok.found ≡ pos c.args.number = omega (arith, signed_casts, c.in-Ok.ensures.value) in
    let parts = same_parts c.args.number c.in-Ok.found c.requires number in
    grind (arith, signed_casts, c.new.ensures.exact, c.in-Some.is, parts)
