use Rattle.std.proofs.Common.{◌≡◌, ◌≤◌, ◌∷◌, [], arith}
use Rattle.mbdc_audit.specs.Grade.{grade_name}
use Rattle.mbdc_audit.specs.House.{House, Number}
use Rattle.mbdc_audit.specs.Published.{IsShown, Open, share_of, worst}
use Rattle.mbdc_audit.specs.View.{house_of, key_of, number_of, place_of, window_of}
use Rattle.mbdc_audit.specs.Walk.{IsHeld, open_of, texts_beside}
use Rattle.mbdc_audit.proofs.InOrder.{sound_order}
use Rattle.mbdc_audit.proofs.PlacedNumbers.{broken, checks_same, is_shown, not_shown, untrue}
use Rattle.mbdc_audit.proofs.teller.Teller.judge_shown.Goals as goal

pub returns-then-not-is_period-clause-right : goal.returns-then-not-is_period-clause-right
returns-then-not-is_period-clause-right g c = λ s at sound same none.
    let h : House = house_of c.args.house.now in
    let o : Open = open_of (place_of c.args.place.now) (window_of c.args.window.now) in
    broken c.judge.result c.args.self.now.counts c.rule.new.self.counts c.judge.new.self.counts
    (IsShown h o (number_of c.args.number.now) × ((number_of c.args.number.now).beside ≡ grade_name (worst (share_of o (key_of c.args.number.now))) ∷ []))
    c.in_ok-rule.ensures
    (not_shown h o s c.args.number.now at (λ period. untrue c.is_period.result c.if-not-is_period.true ((c.is_period.ensures s sound.parts.tile).1 period)))
    c.judge.ensures.kept

pub returns-clause-right : goal.returns-clause-right
returns-clause-right g c = λ s at sound same none.
    let h : House = house_of c.args.house.now in
    let o : Open = open_of (place_of c.args.place.now) (window_of c.args.window.now) in
    let n : Number = number_of c.args.number.now in
    let period = (c.is_period.ensures s sound.parts.tile).0 c.if-not-is_period.false in
    let le : c.args.number.now.from ≤ c.args.number.now.to = omega (arith, period.0) in
    let holds = c.in_ok-holds.ensures same (sound_order o.place.runs o.window.values sound.timed.order) le in
    checks_same c.judge-2.result c.args.self.now.counts c.judge-2.new.self.counts
    (IsHeld n c.in_ok-holds.holds.0 (texts_beside c.in_ok-holds.holds.1))
    (IsShown h o n × (n.beside ≡ grade_name (worst (share_of o (key_of c.args.number.now))) ∷ []))
    (is_shown h o s c.args.number.now c.in_ok-holds.holds.0 (texts_beside c.in_ok-holds.holds.1) at period holds) (c.judge-2.ensures.right none)
