use Rattle.std.proofs.Common.{◌≡◌, ◌==◌, ◌&&◌, true, Some, sym, ap, ◌∙◌}
use Rattle.std.proofs.lemmas.Bool.{and_parts, eqb-true}
use Rattle.dc_address.proofs.Identities.{same_identity}
use Rattle.dc_address.specs.declared.identity.Identity.{Identity}
use Rattle.dc_search.specs.Answer.{answer_of}
use Rattle.mbdc_bus.proofs.windows.is_from.Goals as goal

-- identities whose fields are equal are one
same_fields : (a b : Identity) → a.number == b.number && (a.maker == b.maker && (a.version == b.version && a.kind == b.kind)) ≡ true → a ≡ b
same_fields a b is =
    let number = and_parts (a.number == b.number) (a.maker == b.maker && (a.version == b.version && a.kind == b.kind)) is in
    let maker = and_parts (a.maker == b.maker) (a.version == b.version && a.kind == b.kind) number.1 in
    let rest = and_parts (a.version == b.version) (a.kind == b.kind) maker.1 in
    same_identity a b (eqb-true a.number b.number number.0) (eqb-true a.maker b.maker maker.0) (eqb-true a.version b.version rest.0) (eqb-true a.kind b.kind rest.1)

pub returns-in-Some-clause-yes : goal.returns-in-Some-clause-yes
returns-in-Some-clause-yes c = λ is. ap answer_of (sym c.as_slice.ensures.bytes) ∙ sym c.in-Some.ensures ∙ ap (λ (m : Identity). Some m) (same_fields c.in-Some.sender c.args.meter.now (sym c.eq.ensures ∙ is))
