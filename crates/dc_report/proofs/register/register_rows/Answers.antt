use Rattle.std.proofs.lemmas.Iterator.Consumers.{count_from_yields_List, YieldsList-from_rest}
use Rattle.std.proofs.Common.{arith}
use Rattle.std.proofs.lemmas.Grind.{common_steps}
use Rattle.dc_report.proofs.register.register_rows.Goals as goal

pub returns : goal.returns
returns g c = count_from_yields_List c.meters.result _ c.count.ensures.ran (YieldsList-from_rest c.args.house.now.state.meters c.meters.ensures.meters)

pub count-requires-clause-fits : goal.count-requires-clause-fits
count-requires-clause-fits g c = grind (arith, common_steps)
