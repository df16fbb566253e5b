use Rattle.std.proofs.Common.{◌∙◌}
use Rattle.mbdc_audit.specs.View.{source_of}
use Rattle.mbdc_audit.proofs.Origins.{anew_is, of_anew}
use Rattle.mbdc_audit.proofs.house.Value.is_of_kind.Goals as goal

pub returns-in_default : goal.returns-in_default
returns-in_default c = c.is_anew.ensures ∙ of_anew (source_of c.args.self.now) (source_of c.args.other.now)
    (anew_is _ _ _ _ c.in_default.not-Read c.in_default.not-Stored c.in_default.not-Ended c.in_default.not-Hand
    c.in_default.not-Estimated c.in_default.not-First c.in_default.not-Last)
