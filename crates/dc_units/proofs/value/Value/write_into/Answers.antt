use Rattle.std.proofs.Common.{◌≡◌, arith, subst, sym}
use Rattle.std.specs.Prelude.{IsAscii}
use Rattle.std.proofs.lemmas.Grind.{common_steps}
use Rattle.dc_units.specs.Text.{value_text}
use Rattle.dc_units.proofs.value.Value.write_into.Goals as goal

pub returns-clause-ascii : goal.returns-clause-ascii
returns-clause-ascii c =
    let text : c.split_at.result.1.now ≡ value_text c.args.self.now = grind (arith, common_steps) in
    subst IsAscii (sym text) c.put-start.ensures.ascii
