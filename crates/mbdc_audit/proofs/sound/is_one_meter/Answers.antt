use Rattle.std.proofs.Common.{sym, ◌∙◌}
use Rattle.mbdc_audit.proofs.Once.{is_same_meter, same_meter}
use Rattle.mbdc_audit.proofs.sound.is_one_meter.Goals as goal

pub returns : goal.returns
returns c = (
  λ t. same_meter c.args.one.now.identity c.args.other.now.identity (sym c.eq.ensures ∙ t),
  λ e. c.eq.ensures ∙ is_same_meter c.args.one.now.identity c.args.other.now.identity e,
)
