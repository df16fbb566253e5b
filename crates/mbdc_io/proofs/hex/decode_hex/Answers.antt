use Rattle.std.proofs.Common.{rules, ◌≡◌, None, sym, ◌∙◌, ◌/◌, length, arith}
use Rattle.mbdc_io.proofs.Pairs.{decode_step, high_fails, low_fails, decode_done, odd_fails}
use Rattle.mbdc_io.proofs.hex.decode_hex.Goals as goal

pub returns-then-digits-ne0-clause-value : goal.returns-then-digits-ne0-clause-value
returns-then-digits-ne0-clause-value c = odd_fails c.args.digits.now c.if-digits-ne0.true

pub returns-in_err-high-clause-value : goal.returns-in_err-high-clause-value
returns-in_err-high-clause-value c =
    let none : c.from_residual.result ≡ None = search rules in
    rw none (high_fails c.args.digits.now c.pairs.out c.pairs.i (omega arith) c.pairs.invariant (sym c.value_of.ensures.value ∙ c.in_err-high.was))

pub returns-in_err-low-clause-value : goal.returns-in_err-low-clause-value
returns-in_err-low-clause-value c =
    let none : c.from_residual-in_err-low.result ≡ None = search rules in
    rw none (low_fails c.args.digits.now c.pairs.out c.pairs.i (omega arith) c.pairs.invariant _ (sym c.value_of.ensures.value ∙ c.in_ok-high.was) (sym c.value_of-in-pairs.ensures.value ∙ c.in_err-low.was))

pub pairs-preserved : goal.pairs-preserved
pairs-preserved c =
    decode_step c.args.digits.now c.pairs.out c.pairs.i (omega arith) c.pairs.invariant _ _ (omega arith)
    (sym c.value_of.ensures.value ∙ c.in_ok-high.was) (sym c.value_of-in-pairs.ensures.value ∙ c.in_ok-low.was)

pub returns-clause-value : goal.returns-clause-value
returns-clause-value c =
    let same : c.pairs.i ≡ length c.args.digits.now / 2 = omega arith in
    rw (← same) (decode_done c.args.digits.now c.pairs.out c.pairs.i (omega arith) c.pairs.invariant)
