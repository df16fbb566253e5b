use Rattle.std.proofs.Common.{length, ◌==◌, ap, sym, ◌∙◌}
use Rattle.dc_address.proofs.Decimals.{length-decimal_digits}
use Rattle.dc_search.proofs.branch.Branch.is_full.Goals as goal

pub returns : goal.returns
returns c = ap (λ n. n == 8) (sym (length-decimal_digits c.self.inside.fixed c.self.inside.number) ∙ ap length c.self.view_is)
