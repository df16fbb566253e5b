use Rattle.std.proofs.Common.{◌∙◌, arith}
use Rattle.std.proofs.lemmas.Grind.{common_steps}
use Rattle.dc_units.proofs.Bytes.{four_bytes, three_bytes}
use Rattle.dc_units.proofs.number.integer.Goals as goal

pub returns-in-len3 : goal.returns-in-len3
returns-in-len3 c =
    c.signed-in-len3.ensures
    ∙ three_bytes c.args.bytes.now _ (omega arith) (omega (arith, c.from-in-len3.ensures, c.from-in-len3-2.ensures, c.from-in-len3-3.ensures))

pub returns-in-len4 : goal.returns-in-len4
returns-in-len4 c =
    c.signed-in-len4.ensures
    ∙ four_bytes c.args.bytes.now _ (omega arith) (omega (arith, c.from-in-len4.ensures, c.from-in-len4-2.ensures, c.from-in-len4-3.ensures, c.from-in-len4-4.ensures))

pub returns-in-len1 : goal.returns-in-len1
returns-in-len1 c = grind (arith, common_steps)

pub returns-in-len2 : goal.returns-in-len2
returns-in-len2 c = grind (arith, common_steps)
