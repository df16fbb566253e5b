use Rattle.std.proofs.Common.{arith, sym, ◌∙◌, refl}
use Rattle.dc_address.specs.Digits.{decimal_digits}
use Rattle.dc_search.proofs.Prefixes.{mask_of_digits-nil}
use Rattle.dc_search.proofs.branch.Branch.root.Goals as goal

pub invariant_of-result : goal.invariant_of-result
unfolding decimal_digits
invariant_of-result c = record { fits = omega arith; few = omega arith; mask_back = mask_of_digits-nil ∙ sym c.all.ensures; number_back = refl; fixed_back = refl }

pub returns : goal.returns
unfolding decimal_digits
returns c = refl
