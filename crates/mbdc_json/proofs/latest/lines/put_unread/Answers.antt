use Rattle.std.proofs.Common.{◌≡◌, List, ap, arith, length, subst, ℕ}
use Rattle.mbdc_io.specs.Written.{Wrote}
use Rattle.mbdc_json.specs.LatestValues.{counted}
use Rattle.mbdc_json.proofs.Unread.{many_left}
use Rattle.mbdc_json.proofs.latest.lines.put_unread.Goals as goal

pub returns : goal.returns
returns g c =
    let none = ap length c.in-None.ensures.steps.0 in
    let all : c.loop-sent.count ≡ counted c.args.unread = omega (arith, none, c.loop-sent.invariant.all, c.loop-sent.invariant.fits) in
    let P : List ℕ → Type 0 = λ text. Wrote g.W.Sink c.put_pieces.result c.args.out.now c.put_pieces.new.out text in
    subst P (many_left c.loop-sent.count (counted c.args.unread) c.if-count-eq0.false c.if-count-eq1.false all) c.put_pieces.ensures
