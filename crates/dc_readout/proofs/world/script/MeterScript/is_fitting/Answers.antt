use Rattle.std.proofs.Common.{subst, sym}
use Rattle.dc_readout.specs.Meter.{Meter}
use Rattle.dc_readout.specs.Regular.{Fits, IsOwnOnly}
use Rattle.dc_readout.proofs.world.script.MeterScript.is_fitting.Goals as goal

pub returns-then-is_own_only : goal.returns-then-is_own_only
returns-then-is_own_only g c = (
  λ short. (
    subst (λ (m : Meter). IsOwnOnly m.address) c.self.view_is (c.is_own_only.ensures.0 c.if-is_own_only.true),
    subst (λ (m : Meter). Fits m.bodies) c.self.view_is (c.are_short.ensures.0 short),
  ),
  λ fits. c.are_short.ensures.1 (subst (λ (m : Meter). Fits m.bodies) (sym c.self.view_is) fits.1),
)
