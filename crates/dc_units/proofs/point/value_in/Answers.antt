use Rattle.std.proofs.Common.{arith, rules}
use Rattle.dc_units.proofs.Fields.{in_bcd, bcd_width}
use Rattle.dc_units.proofs.point.value_in.Goals as goal

pub bcd-number-requires : goal.bcd-number-requires
bcd-number-requires c =
    let d = c.in_default in
    let bcd = in_bcd c.args.quantity c.args.field d.not-Date d.not-DateTime d.not-ErrorFlags c.requires.taken (search rules) in
    let w = bcd_width c.args.field bcd in
    let whole = c.requires.whole in
    (omega (arith, w.0, whole), omega (arith, w.1, whole))
