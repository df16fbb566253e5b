use Rattle.std.proofs.Common.{◌≡◌, ◌+◌, ◌-◌, refl, sym, ◌∙◌, arith}
use Rattle.dc_units.proofs.Pieces.{digit_more, left_more, last_digits-none}
use Rattle.dc_units.proofs.room.put_digits.Goals as goal

pub digits-preserved : goal.digits-preserved
digits-preserved c =
    let at = c.args.end - c.digits.i in
    let k = c.args.count - c.digits.i in
    let next_at : c.args.end - (c.digits.i + 1) ≡ c.args.end - c.digits.i - 1 = omega arith in
    let next_k : c.args.count - (c.digits.i + 1) ≡ c.args.count - c.digits.i - 1 = omega arith in
    let place : c.args.end - 1 - c.digits.i ≡ c.args.end - c.digits.i - 1 = omega arith in
    let more = digit_more _ c.args.base (c.args.count - c.digits.i) c.digits.left (c.args.end - c.digits.i) c.glyph.result c.digits.room (omega arith) (omega arith) (omega arith) c.glyph.ensures c.digits.invariant.text in
    record {
      left = left_more c.args.n c.args.base c.digits.i c.digits.left c.digits.invariant.left;
      text = rw (next_at, next_k, place) more;
    }

pub returns-clause-written : goal.returns-clause-written
returns-clause-written c =
    let all : c.digits.i ≡ c.args.count = omega arith in
    let none : c.args.count - c.digits.i ≡ 0 = omega arith in
    let text = c.digits.invariant.text in
    sym (text ∙ rw (none, all, last_digits-none) refl)
