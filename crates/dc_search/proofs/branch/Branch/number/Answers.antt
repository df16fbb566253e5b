use Rattle.std.proofs.Common.{ap, sym, ◌∙◌}
use Rattle.std.specs.Int.Digits.{number_from_digits}
use Rattle.dc_address.proofs.Decimals.{number_from_digits-decimal_digits}
use Rattle.dc_search.proofs.branch.Branch.number.Goals as goal

pub returns : goal.returns
returns c =
    sym (number_from_digits-decimal_digits c.self.inside.fixed c.self.inside.number c.self.invariant.fits) ∙ ap (number_from_digits 10) c.self.view_is
