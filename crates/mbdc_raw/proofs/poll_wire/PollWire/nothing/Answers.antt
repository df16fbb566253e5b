use Rattle.std.proofs.Common.{ℕ, false, None, ap, arith, inl, inr, refl, rules, sym, ◌∙◌}
use Rattle.std.proofs.lemmas.Bool.{false≢true}
use Rattle.mbdc_raw.specs.declared.poll_wire.Until.TheVariants.{Still}
use Rattle.mbdc_raw.specs.PollWire.{IsGap, IsLate, IsSilent, at_gap, at_silence, not_yet, when_late}
use Rattle.mbdc_raw.proofs.Waits.{held_back, none_held, not_late}
use Rattle.mbdc_raw.proofs.poll_wire.PollWire.nothing.Goals as goal
use Rattle.mbdc_raw.proofs.poll_wire.PollWire.nothing.Goals.{else-rest-eq0-via-then-rest-eq0+else-self-eq0, then-is_free, else-is_free, else-rest-eq0-via-else-rest-eq0}
use Rattle.mbdc_raw.proofs.poll_wire.PollWire.nothing.Goals.{else-self-via-then-self+then-self-eq0-3+else-spent-ge-GAP_MICROS, else-self-via-then-self+else-self-eq0-3, else-self-via-else-self}

pub returns-then-self-eq0-clause-step : goal.returns-then-self-eq0-clause-step
returns-then-self-eq0-clause-step g c =
    at_silence (c.rest-rest.ensures.over c.if-rest-eq0.true)
    (ap (λ (waited : ℕ). record c.args.self.now {
      since = c.args.self.now.at;
      begun = false;
      soon = None;
      asks = false;
      waited = waited;
      noise = 0;
      until = Still;
      limit = c.args.self.now.patience;
    }) c.waited_then-self.ensures)

pub returns-then-spent-ge-GAP_MICROS-clause-step : goal.returns-then-spent-ge-GAP_MICROS-clause-step
returns-then-spent-ge-GAP_MICROS-clause-step g c =
    let quiet : ¬ IsSilent c.args.self.now = elim c.else-rest-eq0.branch [
      | else-rest-eq0-via-then-rest-eq0+else-self-eq0 w ↦
          elim w.if-is_free.branch [
            | then-is_free w' ↦ λ silent. false≢true (sym w.if-self-eq0.false ∙ w'.value-is ∙ w'.if-is_free.true)
            | else-is_free w' ↦ λ silent. held_back _ _ _ c.is_empty-is_free.ensures c.as_slice.ensures.bytes w'.if-is_free.false silent.free
          ]
      | else-rest-eq0-via-else-rest-eq0 w ↦ λ silent. w.if-rest-eq0.false (c.rest-rest.ensures.due silent.over)
    ] in
    at_gap quiet (record { begun = c.if-self.true; until = search rules; over = omega (arith, c.if-spent-ge-GAP_MICROS.true, c.between-spent.ensures) }) refl

pub returns-then-spent-wait-clause-step : goal.returns-then-spent-wait-clause-step
returns-then-spent-wait-clause-step g c =
    let quiet : ¬ IsSilent c.args.self.now = elim c.else-rest-eq0.branch [
      | else-rest-eq0-via-then-rest-eq0+else-self-eq0 w ↦
          elim w.if-is_free.branch [
            | then-is_free w' ↦ λ silent. false≢true (sym w.if-self-eq0.false ∙ w'.value-is ∙ w'.if-is_free.true)
            | else-is_free w' ↦ λ silent. held_back _ _ _ c.is_empty-is_free.ensures c.as_slice.ensures.bytes w'.if-is_free.false silent.free
          ]
      | else-rest-eq0-via-else-rest-eq0 w ↦ λ silent. w.if-rest-eq0.false (c.rest-rest.ensures.due silent.over)
    ] in
    let still : ¬ IsGap c.args.self.now = elim c.else-self.branch [
      | else-self-via-then-self+then-self-eq0-3+else-spent-ge-GAP_MICROS w ↦ λ due. omega (arith, c.between-spent.ensures, w.if-spent-ge-GAP_MICROS.false, due.over)
      | else-self-via-then-self+else-self-eq0-3 w ↦ λ due. search rules
      | else-self-via-else-self w ↦ λ due. false≢true (sym w.if-self.false ∙ due.begun)
    ] in
    when_late quiet still (record { wait = c.in-Some.wait; is = c.in-Some.is; free = none_held _ _ _ c.is_empty-is_free.ensures c.as_slice.ensures.bytes c.if-is_free-2.true; over = omega (arith, c.if-spent-wait.true, c.between-spent.ensures) }) refl

pub returns-clause-step : goal.returns-clause-step
returns-clause-step g c =
    let quiet : ¬ IsSilent c.args.self.now = elim c.else-rest-eq0.branch [
      | else-rest-eq0-via-then-rest-eq0+else-self-eq0 w ↦
          elim w.if-is_free.branch [
            | then-is_free w' ↦ λ silent. false≢true (sym w.if-self-eq0.false ∙ w'.value-is ∙ w'.if-is_free.true)
            | else-is_free w' ↦ λ silent. held_back _ _ _ c.is_empty-is_free.ensures c.as_slice.ensures.bytes w'.if-is_free.false silent.free
          ]
      | else-rest-eq0-via-else-rest-eq0 w ↦ λ silent. w.if-rest-eq0.false (c.rest-rest.ensures.due silent.over)
    ] in
    let still : ¬ IsGap c.args.self.now = elim c.else-self.branch [
      | else-self-via-then-self+then-self-eq0-3+else-spent-ge-GAP_MICROS w ↦ λ due. omega (arith, c.between-spent.ensures, w.if-spent-ge-GAP_MICROS.false, due.over)
      | else-self-via-then-self+else-self-eq0-3 w ↦ λ due. search rules
      | else-self-via-else-self w ↦ λ due. false≢true (sym w.if-self.false ∙ due.begun)
    ] in
    let early : ¬ IsLate c.args.self.now = elim c.else-is_free-2.either [
      | inl w ↦ not_late _ _ _ c.in-Some.is c.between-spent.ensures (λ over. omega (arith, over, w.1))
      | inr w ↦ λ late. held_back _ _ _ c.is_empty-is_free.ensures c.as_slice.ensures.bytes w late.free
    ] in
    not_yet quiet still early refl

pub returns-in_default-clause-step : goal.returns-in_default-clause-step
returns-in_default-clause-step g c =
    let quiet : ¬ IsSilent c.args.self.now = elim c.else-rest-eq0.branch [
      | else-rest-eq0-via-then-rest-eq0+else-self-eq0 w ↦
          elim w.if-is_free.branch [
            | then-is_free w' ↦ λ silent. false≢true (sym w.if-self-eq0.false ∙ w'.value-is ∙ w'.if-is_free.true)
            | else-is_free w' ↦ λ silent. held_back _ _ _ c.is_empty-is_free.ensures c.as_slice.ensures.bytes w'.if-is_free.false silent.free
          ]
      | else-rest-eq0-via-else-rest-eq0 w ↦ λ silent. w.if-rest-eq0.false (c.rest-rest.ensures.due silent.over)
    ] in
    let still : ¬ IsGap c.args.self.now = elim c.else-self.branch [
      | else-self-via-then-self+then-self-eq0-3+else-spent-ge-GAP_MICROS w ↦ λ due. omega (arith, c.between-spent.ensures, w.if-spent-ge-GAP_MICROS.false, due.over)
      | else-self-via-then-self+else-self-eq0-3 w ↦ λ due. search rules
      | else-self-via-else-self w ↦ λ due. false≢true (sym w.if-self.false ∙ due.begun)
    ] in
    not_yet quiet still (λ late. c.in_default.not-Some late.wait late.is) refl
