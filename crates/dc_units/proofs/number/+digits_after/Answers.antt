use Rattle.std.proofs.Common.{◌≡◌, ◌+◌, ◌-◌, ◌^◌, ◌≤◌, length, take, arith, rules}
use Rattle.std.proofs.lemmas.Grind.{common_steps}
use Rattle.dc_units.proofs.Digits.{fits_more, power_le}
use Rattle.dc_units.proofs.number.+digits_after.Goals as goal

pub overflow_mul-n : goal.overflow_mul-n
overflow_mul-n t c =
    let top : 100 ^ (9 - length c.args.bytes.now) ≤ 100 ^ 8 = power_le _ 8 (omega arith) in
    omega (arith, top, c.requires.fits)

pub overflow_add-n : goal.overflow_add-n
overflow_add-n t c =
    let top : 100 ^ (9 - length c.args.bytes.now) ≤ 100 ^ 8 = power_le _ 8 (omega arith) in
    omega (arith, top, c.requires.fits)

pub digits_after-requires : goal.digits_after-requires
digits_after-requires t c =
    let few = c.requires.few in
    let short : length (take (length c.args.bytes.now - 1) c.args.bytes.now) ≡ length c.args.bytes.now - 1 = grind (arith, common_steps) in
    let one : 9 - length (take (length c.args.bytes.now - 1) c.args.bytes.now) ≡ (9 - length c.args.bytes.now) + 1 = omega (arith, short) in
    let more = fits_more c.args.n c.from.result (9 - length c.args.bytes.now) c.requires.fits (omega arith) in
    (search rules, (omega (arith, short), rw one more))
