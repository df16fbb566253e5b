use Rattle.std.proofs.Common.{◌≡◌, ◌<◌, ◌+◌, ◌*◌, ℕ, List, length, arith, ap, sym, ◌∙◌, ◌++◌, ◌∷◌, []}
use Rattle.dc_address.specs.Digits.{decimal_digits}
use Rattle.dc_address.proofs.Decimals.{length-decimal_digits}
use Rattle.dc_search.proofs.Branches.{IsBranch-child, decimal_digits-push, few_digits}
use Rattle.dc_search.proofs.branch.Branch.child.Goals as goal

few : (fixed number : ℕ) (digits : List ℕ) → decimal_digits fixed number ≡ digits → length digits < 8 → fixed < 8
few fixed number digits are room = omega (arith, sym (length-decimal_digits fixed number) ∙ ap length are)

pub with_digit-requires-clause-place : goal.with_digit-requires-clause-place
with_digit-requires-clause-place c =
    let fixed = few c.self.inside.fixed c.self.inside.number c.args.self.now c.self.view_is c.requires.room in omega (arith, fixed, c.from.ensures)

pub overflow_mul-result : goal.overflow_mul-result
overflow_mul-result c =
    let small : c.self.inside.number < 10000000 = few_digits c.self.inside.fixed c.self.inside.number (few c.self.inside.fixed c.self.inside.number c.args.self.now c.self.view_is c.requires.room) c.self.invariant.fits in
    omega arith

pub overflow_add-result : goal.overflow_add-result
overflow_add-result c =
    let small : c.self.inside.number < 10000000 = few_digits c.self.inside.fixed c.self.inside.number (few c.self.inside.fixed c.self.inside.number c.args.self.now c.self.view_is c.requires.room) c.self.invariant.fits in
    omega (arith, c.requires.digit)

pub invariant_of-result : goal.invariant_of-result
invariant_of-result c =
    rw c.from-2.ensures
    (IsBranch-child c.self.inside.mask c.with_digit.result c.self.inside.number c.self.inside.fixed c.from.result c.args.digit c.self.invariant
    (few c.self.inside.fixed c.self.inside.number c.args.self.now c.self.view_is c.requires.room) c.requires.digit c.from.ensures c.with_digit.ensures)

pub returns : goal.returns
returns c =
    ap (λ d. decimal_digits (c.self.inside.fixed + 1) (c.self.inside.number * 10 + d)) c.from-2.ensures
    ∙ decimal_digits-push c.self.inside.fixed c.self.inside.number c.args.digit c.self.invariant.fits c.requires.digit
    ∙ ap (λ digits. digits ++ c.args.digit ∷ []) c.self.view_is
