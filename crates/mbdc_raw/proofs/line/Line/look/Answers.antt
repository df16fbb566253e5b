use Rattle.std.proofs.Common.{rules, Bool, ℕ, List, ap, refl, sym, ◌∙◌, subst}
use Rattle.mbdc_raw.specs.Heard.{Drains}
use Rattle.mbdc_raw.specs.Turn.{may_go, repeats_of}
use Rattle.mbdc_raw.specs.Line.{goes_out, too_loud, waits_on}
use Rattle.mbdc_raw.proofs.Calls.{left_less, less_waiting}
use Rattle.mbdc_raw.proofs.line.Line.look.Goals as goal

pub returns-then-loud-clause-looks : goal.returns-then-loud-clause-looks
returns-then-loud-clause-looks g c = record {
  between = c.drain.new.wire;
  state = c.drain.new.state;
  late = c.drain.new.late;
  drains = subst (λ (loud : Bool). Drains g.W.Wire.hears c.args.self.now.wire c.args.self.now.state c.args.self.now.late loud c.drain.new.wire c.drain.new.state c.drain.new.late) c.if-loud.true c.in_ok-loud.ensures.drained;
  goes = too_loud (search rules);
}

pub returns-then-not-may_go-clause-looks : goal.returns-then-not-may_go-clause-looks
returns-then-not-may_go-clause-looks g c = record {
  between = c.drain.new.wire;
  state = c.drain.new.state;
  late = c.drain.new.late;
  drains = subst (λ (loud : Bool). Drains g.W.Wire.hears c.args.self.now.wire c.args.self.now.state c.args.self.now.late loud c.drain.new.wire c.drain.new.state c.drain.new.late) c.if-loud.false c.in_ok-loud.ensures.drained;
  goes = waits_on (ap (λ (last : List ℕ). may_go c.drain.new.state c.args.self.now.repeats last c.args.request.now c.args.many) (sym c.request.ensures) ∙ sym c.may_go.ensures ∙ c.if-not-may_go.true) (search rules);
}

pub returns-then-not-may_go-clause-fewer : goal.returns-then-not-may_go-clause-fewer
returns-then-not-may_go-clause-fewer g c e =
    less_waiting g.W.Wire c.drain.new.state c.args.self.now.repeats c.request.result.now c.args.request.now c.args.many _ _ (sym c.may_go.ensures ∙ c.if-not-may_go.true)
    (c.in_ok-loud.ensures.fewer c.if-loud.false) (λ less. left_less g.W.Wire c.args.self.now (record c.args.self.now { wire = c.drain.new.wire; state = c.drain.new.state; late = c.drain.new.late }) c.requires.running refl refl less)

pub returns-clause-looks : goal.returns-clause-looks
returns-clause-looks g c = record {
  between = c.drain.new.wire;
  state = c.drain.new.state;
  late = c.drain.new.late;
  drains = subst (λ (loud : Bool). Drains g.W.Wire.hears c.args.self.now.wire c.args.self.now.state c.args.self.now.late loud c.drain.new.wire c.drain.new.state c.drain.new.late) c.if-loud.false c.in_ok-loud.ensures.drained;
  goes = goes_out c.send.new.self (ap (λ (last : List ℕ). may_go c.drain.new.state c.args.self.now.repeats last c.args.request.now c.args.many) (sym c.request.ensures) ∙ sym c.may_go.ensures ∙ c.if-not-may_go.false)
      (subst (λ (bytes : List ℕ). g.W.Wire.sends c.drain.new.wire bytes (record { many = c.args.many; late = c.drain.new.late; repeats = repeats_of c.drain.new.state c.args.self.now.repeats }) c.send.new.self) c.as_slice.ensures.bytes
      (subst (λ (repeats : ℕ). g.W.Wire.sends c.drain.new.wire c.as_slice.result.now (record { many = c.args.many; late = c.drain.new.late; repeats = repeats }) c.send.new.self) c.repeats_by-repeats.ensures.of c.in_ok-send.ensures.step))
      (search rules);
}
