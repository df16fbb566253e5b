use Rattle.dc_sectors.proofs.Moments.{weakened}
use Rattle.mbdc_log.proofs.Session.{session_step, session_done}
use Rattle.mbdc_log.proofs.opening.begin_session.Goals as goal

pub returns-in-Ok-clause-ready : goal.returns-in-Ok-clause-ready
returns-in-Ok-clause-ready g c half_len m place state is_settled stands =
    session_done g.K.Language half_len c.args.root.now m place state (g.D.Disk.reads c.args.disk.now) stands (g.D.Disk.reads c.put_root.new.disk) (c.in-Ok.ensures.done is_settled)

pub returns-in-Ok-clause-any_moment : goal.returns-in-Ok-clause-any_moment
returns-in-Ok-clause-any_moment g c half_len m place state is_settled stands =
    weakened g.D.Disk c.args.disk.now c.put_root.new.disk _ _ (c.put_root.ensures.any_moment is_settled)
    (session_step g.K.Language half_len c.args.root.now m place state (g.D.Disk.reads c.args.disk.now) stands)

pub returns-in-Err-clause-any_moment : goal.returns-in-Err-clause-any_moment
returns-in-Err-clause-any_moment g c half_len m place state is_settled stands =
    weakened g.D.Disk c.args.disk.now c.put_root.new.disk _ _ (c.put_root.ensures.any_moment is_settled)
    (session_step g.K.Language half_len c.args.root.now m place state (g.D.Disk.reads c.args.disk.now) stands)
