use Rattle.std.proofs.Common.{◌≡◌, ◌∙◌, ℕ, ap, false, sym, inl}
use Rattle.std.proofs.lemmas.Bool.{false≢true}
use Rattle.mbdc_audit.specs.Line.{is_asked, may_follow}
use Rattle.mbdc_audit.specs.View.{house_of}
use Rattle.mbdc_audit.proofs.OneHouse.{not_asked}
use Rattle.mbdc_audit.proofs.OneLine.{one_line, same_adds}
use Rattle.mbdc_audit.proofs.Quiet.{quiet}
use Rattle.mbdc_audit.proofs.Table.{first_stage, header_line, one_stage}
use Rattle.mbdc_audit.proofs.house.House.step.Goals.{else-not-may_ask-via-then-not-may_ask+else-is_asked, else-not-may_ask-via-else-not-may_ask}
use Rattle.mbdc_audit.proofs.house.House.step.Goals as goal

pub returns-then-not-is_header-clause-err : goal.returns-then-not-is_header-clause-err
returns-then-not-is_header-clause-err g c = λ fault. inl (λ stage house f.
    let first = first_stage f.line.stage c.args.stage c.if-stage-eq-BEGUN.true f.follows in
    false≢true (c.if-not-is_header.ensures ∙ header_line c.args.text.now f.line f.is first))

pub returns-in-Err-clause-err : goal.returns-in-Err-clause-err
returns-in-Err-clause-err g c = λ fault. inl (λ stage house f. c.in-Err.ensures.only f.line f.is)

pub returns-then-not-may_follow-clause-err : goal.returns-then-not-may_follow-clause-err
returns-then-not-may_follow-clause-err g c = λ fault. inl (λ stage house f.
    let same = one_stage c.args.text.now f.line c.in-Ok.line f.is c.in-Ok.ensures.found in
    false≢true (c.if-not-may_follow.ensures ∙ (ap (λ (n : ℕ). may_follow n c.args.stage) (sym same) ∙ f.follows)))

pub returns-in-Err-add-clause-err : goal.returns-in-Err-add-clause-err
returns-in-Err-add-clause-err g c = λ fault. inl (λ stage house f.
    c.in-Err-add.ensures.err fault house (same_adds (house_of c.args.self.now) house f.line c.in-Ok.line
    (one_line c.args.text.now f.line c.in-Ok.line f.is c.in-Ok.ensures.found) f.adds))

pub returns-in-Ok-add-clause-asks : goal.returns-in-Ok-add-clause-asks
returns-in-Ok-add-clause-asks g c = λ may.
    let none : is_asked c.in-Ok.line ≡ false = elim c.else-not-may_ask.branch [
      | else-not-may_ask-via-then-not-may_ask+else-is_asked w ↦ sym w.is_asked.ensures ∙ w.if-is_asked.false
      | else-not-may_ask-via-else-not-may_ask w ↦ absurd (false≢true (sym may ∙ w.if-not-may_ask.false))
    ] in (
      not_asked c.args.text.now c.in-Ok.line c.in-Ok.ensures.found none,
      λ old. quiet (house_of c.args.self.now) (house_of c.add.new.self) c.args.text.now c.in-Ok.line c.in-Ok.ensures.found none
          c.in-Ok-add.ensures.ok old,
    )
