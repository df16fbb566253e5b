use Rattle.std.proofs.Common.{arith, sym, ◌≡◌, ◌/◌, ◌%◌, ℕ, Bool, true, false, not, ◌&&◌, ap, refl, ◌∙◌}
use Rattle.std.specs.Prelude.{◌==◌}
use Rattle.std.proofs.lemmas.Bool.{and_parts, eqb-true}
use Rattle.dc_address.proofs.Identities.{same_identity}
use Rattle.dc_address.specs.declared.identity.Identity.{Identity}
use Rattle.std.proofs.lemmas.Bool.Decides.{nat_tests}
use Rattle.dc_records.specs.declared.header.Header.{Header}
use Rattle.mbdc_audit.specs.Evidence.{has_error}
use Rattle.mbdc_audit.proofs.evidence.telegram_of.Goals as goal

not_false : (b : Bool) → not b ≡ false → b ≡ true
not_false true e = refl
not_false false e = sym e

-- identities whose fields are equal are one
same_fields : (a b : Identity) → not ((a.number == b.number) && ((a.maker == b.maker) && ((a.version == b.version) && (a.kind == b.kind)))) ≡ false → a ≡ b
same_fields a b is =
    let all = not_false _ is in
    let number = and_parts (a.number == b.number) ((a.maker == b.maker) && ((a.version == b.version) && (a.kind == b.kind))) all in
    let maker = and_parts (a.maker == b.maker) ((a.version == b.version) && (a.kind == b.kind)) number.1 in
    let rest = and_parts (a.version == b.version) (a.kind == b.kind) maker.1 in
    same_identity a b (eqb-true a.number b.number number.0) (eqb-true a.maker b.maker maker.0) (eqb-true a.version b.version rest.0) (eqb-true a.kind b.kind rest.1)

no_error : (s : ℕ) → (s / 8 % 2 ≡ 1 → ⊥) → (s % 4 ≡ 2 → ⊥) → has_error s ≡ false
no_error s a b = grind (arith, nat_tests)

pub returns-clause-ok : goal.returns-clause-ok
returns-clause-ok c = record {
  is = c.in-Ok.ensures.found;
  of_meter = sym (ap (λ (h : Header). h.identity) c.header-header.ensures.value)
      ∙ same_fields c.header-header.result.identity c.args.run.now.identity (sym c.ne.ensures ∙ c.if-ne.false);
  sound = sym (ap (λ (h : Header). has_error h.status) c.header-header.ensures.value)
      ∙ no_error c.header-header.result.status c.if-status-eq1.false c.if-status-eq-APPLICATION_ERROR.false;
}
