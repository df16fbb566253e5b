use Rattle.std.proofs.Common.{rules, ◌∙◌}
use Rattle.mbdc_audit.proofs.Bare.{one_byte, two_bytes}
use Rattle.mbdc_audit.proofs.evidence.code_of.Goals as goal

pub returns-then-vif : goal.returns-then-vif
returns-then-vif c = one_byte _ _ c.told-room ∙ search rules

pub returns : goal.returns
returns c = two_bytes _ _ _ c.told-room ∙ search rules
