use Rattle.std.proofs.Common.{rules}
use Rattle.dc_readout.proofs.session.Session.judge.Goals as goal

pub wait_for-requires-clause-fits : goal.wait_for-requires-clause-fits
wait_for-requires-clause-fits c = search rules
