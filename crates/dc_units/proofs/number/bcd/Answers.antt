use Rattle.std.proofs.Common.{◌≡◌, ◌-◌, ◌^◌, ◌≤◌, length, take, arith}
use Rattle.std.proofs.lemmas.Grind.{common_steps}
use Rattle.dc_units.proofs.Digits.{power_le}
use Rattle.dc_units.proofs.number.bcd.Goals as goal

pub digits_after-requires-clause-fits : goal.digits_after-requires-clause-fits
digits_after-requires-clause-fits c =
    let short : length (take (length c.args.bytes.now - 1) c.args.bytes.now) ≡ length c.args.bytes.now - 1 = grind (arith, common_steps) in
    let room : 100 ^ 1 ≤ 100 ^ (9 - length (take (length c.args.bytes.now - 1) c.args.bytes.now)) = power_le 1 _ (omega (arith, short)) in
    omega (arith, room)

pub digits_after-requires-2-clause-fits : goal.digits_after-requires-2-clause-fits
digits_after-requires-2-clause-fits c =
    let short : length (take (length c.args.bytes.now - 1) c.args.bytes.now) ≡ length c.args.bytes.now - 1 = grind (arith, common_steps) in
    let room : 100 ^ 1 ≤ 100 ^ (9 - length (take (length c.args.bytes.now - 1) c.args.bytes.now)) = power_le 1 _ (omega (arith, short)) in
    omega (arith, room)

pub returns-then-low-gt9 : goal.returns-then-low-gt9
returns-then-low-gt9 c = grind (arith, common_steps)

pub returns-in_err-n : goal.returns-in_err-n
returns-in_err-n c = grind (arith, common_steps)

pub returns-then-high-eq15 : goal.returns-then-high-eq15
returns-then-high-eq15 c = grind (arith, common_steps)

pub returns-then-high-gt9 : goal.returns-then-high-gt9
returns-then-high-gt9 c = grind (arith, common_steps)

pub returns-in_err-n-2 : goal.returns-in_err-n-2
returns-in_err-n-2 c = grind (arith, common_steps)

pub returns : goal.returns
returns c = grind (arith, common_steps)
