use Rattle.std.proofs.Common.{◌≡◌, ◌<◌, ◌+◌, ◌++◌, ◌∷◌, [], ℕ, List, length, true, false, not, is_some, refl, sym, ap, subst, ◌∙◌, arith}
use Rattle.std.proofs.lemmas.List.{length-map}
use Rattle.mbdc_audit.specs.declared.house.Declared.{Declared}
use Rattle.mbdc_audit.specs.declared.house.Fact.{Fact}
use Rattle.mbdc_audit.specs.declared.line.Word.{Word}
use Rattle.mbdc_audit.specs.declared.line.Word.TheVariants as word
use Rattle.mbdc_audit.specs.File.{span_place}
use Rattle.mbdc_audit.specs.Line.{number_at}
use Rattle.mbdc_audit.specs.Published.{declared}
use Rattle.mbdc_audit.specs.Reader.{AddsNothing, is_fact}
use Rattle.mbdc_audit.specs.File.{Adds}
use Rattle.mbdc_audit.specs.View.{house_of, span_of}
use Rattle.mbdc_audit.proofs.Added.{adds_fact, fact_was}
use Rattle.mbdc_audit.proofs.Classes.{at_fault, class, no_fact}
use Rattle.mbdc_audit.proofs.Facts.{declared_twice, not_declared}
use Rattle.mbdc_audit.proofs.OneFact.{one_fact}
use Rattle.mbdc_audit.proofs.house.House.add_fact.Goals as goal

of_fact : (w : Word) → is_fact w ≡ true → class w ≡ 4
of_fact word.Factor is = refl
of_fact word.Emissions is = refl
of_fact word.Degrees is = refl
of_fact word.Price is = refl
of_fact word.Average is = refl
of_fact w is = (cc)

one_place : (n m k : ℕ) → n ≡ m + 1 → n ≡ k + 1 → m ≡ k
one_place n m k is is' = omega arith

pub returns-in_err-fact-clause-err : goal.returns-in_err-fact-clause-err
returns-in_err-fact-clause-err g c =
    let h = house_of c.args.self.now in
    let l = c.args.line.now in
    at_fault c.from_residual.result (AddsNothing h l) (no_fact h l (of_fact l.word c.requires)
    (λ d may is. c.in_err-fact.ensures.err d.fact (fact_was h d.fact l (h.facts ++ d ∷ []) is.0) may.2))

pub returns-in_err-only_if-clause-err : goal.returns-in_err-only_if-clause-err
returns-in_err-only_if-clause-err g c =
    let h = house_of c.args.self.now in
    let l = c.args.line.now in
    let f = c.in_ok-fact.fact in
    at_fault c.from_residual-in_err-only_if.result (AddsNothing h l) (no_fact h l (of_fact l.word c.requires)
    (λ d may is.
    let same : f ≡ d.fact = one_fact h l f d.fact c.in_ok-fact.ensures.ok.0 (fact_was h d.fact l (h.facts ++ d ∷ []) is.0) c.in_ok-fact.ensures.ok.1 may.2 in
    let counts : number_at (span_place f) l ≡ c.in_ok-span.span + 1 =
    ap (λ (p : ℕ). number_at p l) (sym c.span_place-at.ensures.place) ∙ (sym c.number.ensures ∙ c.in_ok-span.ensures.ok.0) in
    let span : c.in_ok-span.span ≡ d.span =
    one_place (number_at (span_place d.fact) l) _ d.span (subst (λ (e : Fact). number_at (span_place e) l ≡ c.in_ok-span.span + 1) same counts) is.1 in
    declared_twice h d (ap (λ (e : Fact). is_some (declared h e d.span)) (sym same) ∙ (ap (λ (n : ℕ). is_some (declared h f n)) (sym span)
    ∙ (ap is_some (sym c.declared.ensures) ∙ (c.is_none.ensures ∙ ap not c.in_err-only_if.ensures.err.0)))) may.0))

pub returns-clause-ok : goal.returns-clause-ok
returns-clause-ok g c =
    let h = house_of c.args.self.now in
    let l = c.args.line.now in
    let f = c.in_ok-fact.fact in
    let n = c.in_ok-span.span in
    let d : Declared = record { fact = f; span = n; ratio = c.number-ratio.result } in
    let there : n < length h.spans = subst (λ (m : ℕ). n < m) (sym (length-map c.args.self.now.spans.items span_of)) c.in_ok-span.ensures.ok.1 in
    let counts : number_at (span_place f) l ≡ n + 1 =
    ap (λ (p : ℕ). number_at p l) (sym c.span_place-at.ensures.place) ∙ (sym c.number.ensures ∙ c.in_ok-span.ensures.ok.0) in
    let ratio : number_at (span_place f + 1) l ≡ c.number-ratio.result =
    ap (λ (p : ℕ). number_at (p + 1) l) (sym c.span_place-at.ensures.place) ∙ sym c.number-ratio.ensures in
    let none : is_some (declared h f n) ≡ false =
    ap is_some (sym c.declared.ensures) ∙ (c.is_none.ensures ∙ ap not c.in_ok-only_if.ensures.ok) in
    subst (λ (ds : List Declared). Adds h l (record h { facts = ds })) (sym c.in_ok-push.ensures.items)
    (adds_fact h l d c.in_ok-fact.ensures.ok.0 counts ratio (not_declared h d none) there c.in_ok-fact.ensures.ok.1)
