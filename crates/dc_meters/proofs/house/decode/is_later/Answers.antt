use Rattle.std.proofs.Common.{◌<◌, arith, sym}
use Rattle.std.proofs.lemmas.Bool.Decides.{nat_tests}
use Rattle.dc_meters.proofs.Ascending.{all_before}
use Rattle.dc_meters.proofs.house.decode.is_later.Goals as goal

pub returns-in-Some-clause-yes : goal.returns-in-Some-clause-yes
returns-in-Some-clause-yes g c = λ yes.
    let is = c.serial.ensures.serial in
    let below : c.serial.result < c.args.serial = grind (arith, nat_tests) in
    all_before c.args.readings.now.items c.in-Some.last.now c.args.serial c.requires (sym c.in-Some.ensures) (omega arith)
