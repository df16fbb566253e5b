use Rattle.std.proofs.Common.{◌≡◌, true, refl, ap, sym, ◌∙◌}
use Rattle.std.proofs.lemmas.Bool.{false≢true}
use Rattle.mbdc_audit.specs.declared.line.Word.{Word}
use Rattle.mbdc_audit.specs.declared.line.Word.TheVariants as word
use Rattle.mbdc_audit.specs.Reader.{is_fact}
use Rattle.mbdc_audit.specs.Uses.{unit_named}
use Rattle.mbdc_audit.specs.View.{house_of}
use Rattle.mbdc_audit.proofs.Named.{meant_by, named_is, named_meant}
use Rattle.mbdc_audit.proofs.house.House.fact.Goals as goal
use Rattle.mbdc_audit.proofs.house.House.fact.Goals.{in-Degrees, in_default}

pub returns-in-Factor-clause-ok : goal.returns-in-Factor-clause-ok
returns-in-Factor-clause-ok g c =
    let h = house_of c.args.self.now in
    let t = c.field.result.now in (
      (c.in-Factor.is, sym c.field.ensures ∙ named_is h t c.in_ok-used.used c.in_ok-used.ensures.ok),
      meant_by h c.in_ok-used.used (named_meant h t c.in_ok-used.used c.in_ok-used.ensures.ok),
    )

pub returns-in-Emissions-clause-ok : goal.returns-in-Emissions-clause-ok
returns-in-Emissions-clause-ok g c =
    let h = house_of c.args.self.now in
    let t = c.field.result.now in (
      (c.in-Emissions.is, sym c.field.ensures ∙ named_is h t c.in_ok-used.used c.in_ok-used.ensures.ok),
      meant_by h c.in_ok-used.used (named_meant h t c.in_ok-used.used c.in_ok-used.ensures.ok),
    )

pub returns-in_ok-unit-in-Price-clause-ok : goal.returns-in_ok-unit-in-Price-clause-ok
returns-in_ok-unit-in-Price-clause-ok g c =
    let h = house_of c.args.self.now in
    let t = c.field.result.now in (
      (
        c.in-Price.is,
        (
          sym c.field.ensures ∙ named_is h t c.in_ok-used.used c.in_ok-used.ensures.ok,
          ap unit_named (sym c.field-in-Price.ensures) ∙ c.in_ok-unit-in-Price.ensures.ok.0,
          c.in_ok-unit-in-Price.ensures.ok.1,
        ),
      ),
      meant_by h c.in_ok-used.used (named_meant h t c.in_ok-used.used c.in_ok-used.ensures.ok),
    )

average : (w : Word) → is_fact w ≡ true → (w ≡ word.Factor → ⊥) → (w ≡ word.Emissions → ⊥) → (w ≡ word.Price → ⊥) → (w ≡ word.Degrees → ⊥)
    → w ≡ word.Average
average word.Factor is a b c d = absurd (a refl)
average word.Emissions is a b c d = absurd (b refl)
average word.Price is a b c d = absurd (c refl)
average word.Degrees is a b c d = absurd (d refl)
average word.Average is a b c d = refl
average w is a b c d = (cc)

pub returns-in_ok-unit-in_default-word : goal.returns-in_ok-unit-in_default-word
returns-in_ok-unit-in_default-word g c =
    let h = house_of c.args.self.now in
    let t = c.field.result.now in
    let w = c.args.line.now.word in
    let degrees : w ≡ word.Degrees → ⊥ = elim c.match-matches.branch [ in-Degrees w ↦ absurd (false≢true (sym c.if-matches.false ∙ w.matches-is)) | in_default w ↦ w.in_default.not-Degrees ] in
    record {
      ok = (
        (
          average w c.requires c.in_default-word.not-Factor c.in_default-word.not-Emissions c.in_default-word.not-Price degrees,
          (
            sym c.field.ensures ∙ named_is h t c.in_ok-used.used c.in_ok-used.ensures.ok,
            ap unit_named (sym c.field-in_default-word.ensures) ∙ c.in_ok-unit-in_default-word.ensures.ok.0,
            c.in_ok-unit-in_default-word.ensures.ok.1,
          ),
        ),
        meant_by h c.in_ok-used.used (named_meant h t c.in_ok-used.used c.in_ok-used.ensures.ok),
      );
      err = tt;
    }
