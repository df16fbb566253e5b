use Rattle.std.proofs.Common.{ℕ, arith, ap, sym, subst, ◌∙◌, inl, inr, Some}
use Rattle.std.proofs.lemmas.Bool.{false≢true}
use Rattle.std.proofs.lemmas.Option.{none-some}
use Rattle.mbdc_audit.specs.Line.{IsTypeOf}
use Rattle.mbdc_audit.proofs.Bodies.{no_type, type_found, type_only, type_spelled}
use Rattle.mbdc_audit.proofs.field.type_in.Goals as goal
use Rattle.mbdc_audit.proofs.field.type_in.Goals.{then-field-ne2-via-then-field-ne2, then-field-ne2-via-else-field-ne2+then-not-is_body}

pub returns-then-field-ne2-clause-only : goal.returns-then-field-ne2-clause-only
returns-then-field-ne2-clause-only c = λ n is. elim c.then-field-ne2.branch [
  | then-field-ne2-via-then-field-ne2 w ↦ absurd (no_type c.args.field.now n is (inl (λ e. w.if-field-ne2.true e)))
  | then-field-ne2-via-else-field-ne2+then-not-is_body w ↦
      absurd (no_type c.args.field.now n is (inr (λ body. false≢true (sym w.if-not-is_body.true ∙ w.is_body.ensures.1 body))))
]

pub returns-in_err-decode_hex-clause-only : goal.returns-in_err-decode_hex-clause-only
returns-in_err-decode_hex-clause-only c = λ n is.
    let value = c.in_err-decode_hex.ensures.value in
    absurd (none-some _ (sym value ∙ type_spelled c.args.field.now n is))

pub returns-clause-found : goal.returns-clause-found
returns-clause-found c =
    let read = c.in_ok-decode_hex.ensures in
    subst (λ (n : ℕ). IsTypeOf c.args.field.now n) (sym c.from.ensures)
    (type_found c.args.field.now c.decode_hex.new.out c.in_ok-decode_hex.field-0 c.if-field-ne2.false (omega arith)
    (c.is_body.ensures.0 c.if-not-is_body.false) read.value read.count)

pub returns-clause-only : goal.returns-clause-only
returns-clause-only c = λ n is.
    let read = c.in_ok-decode_hex.ensures in
    ap (λ (m : ℕ). Some m) (c.from.ensures ∙ type_only c.args.field.now c.decode_hex.new.out c.in_ok-decode_hex.field-0 n (omega arith) read.value read.count is)
