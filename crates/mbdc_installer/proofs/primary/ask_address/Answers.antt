use Rattle.std.proofs.Common.{List, ℕ, subst}
use Rattle.mbdc_installer.specs.Scan.{IsCalled}
use Rattle.mbdc_installer.proofs.primary.ask_address.Goals as goal

pub returns : goal.returns
returns g c =
    subst (λ (frame : List ℕ). IsCalled g.B.Bus.asks_all frame c.args.address c.args.bus.now c.call.result.answer c.call.result.telegram c.call.new.bus) c.write_reset.ensures c.call.ensures
