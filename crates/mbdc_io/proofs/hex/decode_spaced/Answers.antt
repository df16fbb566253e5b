use Rattle.std.proofs.Common.{rules, ◌≡◌, ◌+◌, ◌*◌, ◌/◌, ◌<◌, length, get_or, sym, ◌∙◌, arith}
use Rattle.mbdc_io.proofs.Spaced.{spaced_step, spaced_done}
use Rattle.mbdc_io.proofs.hex.decode_spaced.Goals as goal

pub pairs-init : goal.pairs-init
pairs-init c = search rules

pub pairs-preserved : goal.pairs-preserved
pairs-preserved c =
    let below : 3 * c.pairs.i + 2 < length c.args.line.now = omega arith in
    let space : get_or c.args.line.now (3 * c.pairs.i + 2) 0 ≡ 32 = omega arith in
    spaced_step c.args.line.now c.pairs.out c.pairs.i c.pairs.invariant _ _ (omega arith) below space
    (sym c.value_of.ensures.value ∙ c.in_ok-high.was) (sym c.value_of-in-pairs.ensures.value ∙ c.in_ok-low.was)

pub returns-clause-value : goal.returns-clause-value
returns-clause-value c =
    let all : c.pairs.i ≡ length c.args.line.now / 3 = omega arith in
    let whole : length c.args.line.now ≡ 3 * (length c.args.line.now / 3) + 2 = omega arith in
    spaced_done c.args.line.now c.pairs.out (length c.args.line.now / 3) (rw (← all) c.pairs.invariant) _ _ (omega arith) whole
    (sym c.value_of-2.ensures.value ∙ c.in_ok-high-2.was) (sym c.value_of-3.ensures.value ∙ c.in_ok-low-2.was)
