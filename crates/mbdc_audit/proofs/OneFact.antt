-- A line says one fact.
use Rattle.std.proofs.Common.{◌≡◌, ℕ, Some, refl, sym, ap, ◌∙◌}
use Rattle.std.proofs.lemmas.Option.{same_Some}
use Rattle.mbdc_audit.specs.House.{House}
use Rattle.mbdc_audit.specs.declared.house.Fact.{Fact}
use Rattle.mbdc_audit.specs.declared.house.Fact.TheVariants.{Factor, Emissions, Degrees, Price, Average}
use Rattle.mbdc_audit.specs.declared.line.Line.{Line}
use Rattle.mbdc_audit.specs.declared.uses.Unit.{Unit}
use Rattle.mbdc_audit.specs.File.{IsFact, IsMeasured, text_at, use_of}
use Rattle.mbdc_audit.specs.File.{IsMeant}
use Rattle.mbdc_audit.proofs.Named.{one_name}

abbrev pub AreMeant : House → Fact → Type 0
AreMeant h f = (used : ℕ) → use_of f ≡ Some used → IsMeant h used

one_unit : (h : House) (u v : ℕ) (a b : Unit) (place : ℕ) (l : Line) → IsMeasured h u a place l → IsMeasured h v b place l → a ≡ b
one_unit h u v a b place l is is' = same_Some a b (sym is.1 ∙ is'.1)

one_measured : {X : Type 0} (f : ℕ → Unit → X) (h : House) (u v : ℕ) (a b : Unit) (l : Line) → IsMeasured h u a 0 l → IsMeasured h v b 0 l
    → IsMeant h u → IsMeant h v → f u a ≡ f v b
one_measured {X} f h u v a b l is is' meant meant' =
    ap (λ (n : ℕ). f n a) (one_name h (text_at 0 l) u v is.0 is'.0 meant meant') ∙ ap (f v) (one_unit h u v a b 0 l is is')

pub one_fact : (h : House) (l : Line) (f e : Fact) → IsFact h f l → IsFact h e l → AreMeant h f → AreMeant h e → f ≡ e
one_fact h l (Factor u) (Factor v) is is' meant meant' =
    ap (λ (n : ℕ). Factor n) (one_name h (text_at 0 l) u v is.1 is'.1 (meant u refl) (meant' v refl))
one_fact h l (Emissions u) (Emissions v) is is' meant meant' =
    ap (λ (n : ℕ). Emissions n) (one_name h (text_at 0 l) u v is.1 is'.1 (meant u refl) (meant' v refl))
one_fact h l (Price u a) (Price v b) is is' meant meant' =
    one_measured (λ (n : ℕ) (c : Unit). Price n c) h u v a b l is.1 is'.1 (meant u refl) (meant' v refl)
one_fact h l (Average u a) (Average v b) is is' meant meant' =
    one_measured (λ (n : ℕ) (c : Unit). Average n c) h u v a b l is.1 is'.1 (meant u refl) (meant' v refl)
one_fact h l Degrees Degrees is is' meant meant' = refl
one_fact h l f e is is' meant meant' = (cc)
