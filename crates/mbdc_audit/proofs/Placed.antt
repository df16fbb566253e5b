-- A number of the open place.
use Rattle.std.proofs.Common.{◌≡◌, ◌+◌, ℕ, Bool, true, [], ◌∷◌, length, map, take, drop, Some, refl, sym, ap, subst, ◌∙◌}
use Rattle.mbdc_audit.specs.Amount.{last_of}
use Rattle.mbdc_audit.specs.House.{House, Number, Place, Window}
use Rattle.mbdc_audit.specs.declared.line.Line.{Line}
use Rattle.mbdc_audit.specs.declared.line.Word.{Word}
use Rattle.mbdc_audit.specs.declared.line.Word.TheVariants as word
use Rattle.mbdc_audit.specs.declared.uses.Counted.{Counted}
use Rattle.mbdc_audit.specs.File.{Counts, Names, period_place, text_at}
use Rattle.mbdc_audit.specs.Line.{number_at}
use Rattle.mbdc_audit.specs.Published.{Has, HasFacts, IsUnit, MayAskOf, quantity}
use Rattle.mbdc_audit.specs.Reader.{IsMade}
use Rattle.mbdc_audit.specs.File.{AskedOf, InWindow, IsWhose, NoOther, NoSize, is_of_place}
use Rattle.mbdc_audit.specs.View.{beside_count}
use Rattle.mbdc_audit.specs.declared.uses.Unit.TheVariants.{Smallest}
use Rattle.mbdc_audit.specs.Uses.{size_named, unit_named}
use Rattle.mbdc_audit.proofs.Opened.{from_window, into_window}

pub shown_word : (w : Word) → is_of_place w ≡ true → (w ≡ word.Value → ⊥) → w ≡ word.Shown
shown_word word.Shown is other = refl
shown_word word.Value is other = absurd (other refl)
shown_word _ is other = (cc)

abbrev pub OfValue : House → ℕ → ℕ → Line → Type 0
OfValue h used size l = (q : Counted) × (quantity h used ≡ Some q) × (size_named (text_at 3 l) ≡ Some (q, size))

-- the parts of a number of a place, beside its texts
pub record Texts (l : Line) (n : Number) : Type 0 where
  pub word_is : n.key.word ≡ l.word
  pub text_is : text_at l.text l ≡ n.text
  pub beside_is : take (length n.beside) (drop (l.text + 1) (map (λ f. f.now) l.fields)) ≡ n.beside
  pub beside_all : length n.beside ≡ beside_count l.word
  pub other : n.key.other ≡ 0
  pub whose : (n.key.user ≡ 0) × (n.key.flat ≡ [])

pub value_made : (h : House) (l : Line) (n : Number) (p : Place) (w : Window) → l.word ≡ word.Value → Texts l n
    → last_of h.places ≡ p ∷ [] → last_of p.windows ≡ w ∷ [] → number_at 0 l ≡ n.key.from → number_at 1 l ≡ n.key.to
    → n.key.span ≡ w.span → n.key.used ≡ p.used → OfValue h n.key.used n.key.size l → n.key.unit ≡ Smallest → IsMade h l n
value_made h l n p w is texts it it' from to span used of none = (
  record {
    word_is = sym texts.word_is;
    from_is = ap (λ (x : Word). number_at (period_place x) l) is ∙ from;
    to_is = ap (λ (x : Word). number_at (period_place x + 1) l) is ∙ to;
    named = subst (λ (x : Word). Names x h n.key l) (sym is) of;
    text_is = texts.text_is;
    beside_is = texts.beside_is;
    beside_all = texts.beside_all;
    other = subst (λ (x : Word). NoOther x n.key) (sym is) texts.other;
    size = subst (λ (x : Word). NoSize x n.key) (sym is) none;
    whose = subst (λ (x : Word). IsWhose (is_of_place x) n.key l) (sym is) texts.whose;
  },
  subst (λ (x : Word). AskedOf (is_of_place x) h n) (sym (texts.word_is ∙ is))
      (into_window (λ q v. MayAskOf h q v n.key) h p w it it' (record {
        span = span;
        used = used;
        facts = subst (λ (x : Word). HasFacts x h n.key) (sym (texts.word_is ∙ is)) tt;
      })),
)

pub shown_made : (h : House) (l : Line) (n : Number) (p : Place) (w : Window) → l.word ≡ word.Shown → Texts l n
    → last_of h.places ≡ p ∷ [] → last_of p.windows ≡ w ∷ [] → number_at 1 l ≡ n.key.from → number_at 2 l ≡ n.key.to
    → n.key.span ≡ w.span → n.key.used ≡ p.used → Counts n.key.span 0 l → unit_named (text_at 3 l) ≡ Some n.key.unit
    → IsUnit h n.key.used n.key.unit → Has h n.key n.key.span → n.key.size ≡ 1 → IsMade h l n
shown_made h l n p w is texts it it' from to span used counts named unit has none = (
  record {
    word_is = sym texts.word_is;
    from_is = ap (λ (x : Word). number_at (period_place x) l) is ∙ from;
    to_is = ap (λ (x : Word). number_at (period_place x + 1) l) is ∙ to;
    named = subst (λ (x : Word). Names x h n.key l) (sym is) (counts, named, unit);
    text_is = texts.text_is;
    beside_is = texts.beside_is;
    beside_all = texts.beside_all;
    other = subst (λ (x : Word). NoOther x n.key) (sym is) texts.other;
    size = subst (λ (x : Word). NoSize x n.key) (sym is) none;
    whose = subst (λ (x : Word). IsWhose (is_of_place x) n.key l) (sym is) texts.whose;
  },
  subst (λ (x : Word). AskedOf (is_of_place x) h n) (sym (texts.word_is ∙ is))
      (into_window (λ q v. MayAskOf h q v n.key) h p w it it' (record {
        span = span;
        used = used;
        facts = subst (λ (x : Word). HasFacts x h n.key) (sym (texts.word_is ∙ is)) (unit, has);
      })),
)

-- ---- what a number of the open place has

pub place_asked : (h : House) (l : Line) (n : Number) → is_of_place l.word ≡ true → IsMade h l n → InWindow (λ p w. MayAskOf h p w n.key) h
place_asked h l n is made = subst (λ (b : Bool). AskedOf b h n) (ap is_of_place (sym made.0.word_is) ∙ is) made.1

pub of_place : (h : House) (l : Line) (n : Number) (p : Place) (w : Window) → is_of_place l.word ≡ true
    → last_of h.places ≡ p ∷ [] → last_of p.windows ≡ w ∷ [] → IsMade h l n → MayAskOf h p w n.key
of_place h l n p w is it it' made = from_window (λ q v. MayAskOf h q v n.key) h p w it it' (place_asked h l n is made)

pub value_of : (h : House) (l : Line) (n : Number) → l.word ≡ word.Value → IsMade h l n → OfValue h n.key.used n.key.size l
value_of h l n is made = subst (λ (x : Word). Names x h n.key l) is made.0.named

pub shown_of : (h : House) (l : Line) (n : Number) → l.word ≡ word.Shown → IsMade h l n
    → Counts n.key.span 0 l × (unit_named (text_at 3 l) ≡ Some n.key.unit) × IsUnit h n.key.used n.key.unit
shown_of h l n is made = subst (λ (x : Word). Names x h n.key l) is made.0.named

pub shown_has : (h : House) (l : Line) (n : Number) (p : Place) (w : Window) → l.word ≡ word.Shown → IsMade h l n → MayAskOf h p w n.key
    → Has h n.key n.key.span
shown_has h l n p w is made may =
    let facts : IsUnit h n.key.used n.key.unit × Has h n.key n.key.span = subst (λ (x : Word). HasFacts x h n.key) (sym made.0.word_is ∙ is) may.facts in
    facts.1
