-- A number of a place is judged as it is defined.
use Rattle.std.proofs.Common.{◌≡◌, ◌+◌, ◌||◌, ℕ, List, [], ◌∷◌, Bool, true, false, map, fold, Option, None, Some, refl, sym, ap, ◌∙◌, subst, take, arith}
use Rattle.std.specs.Prelude.{◌↔◌, AllPairs, Any, IsTrue, OnOk, Ok, Err, Result, codes, slice_get}
use Rattle.std.specs.Str.{bytes_eq}
use Rattle.mbdc_audit.specs.declared.exact.Exact.{Exact}
use Rattle.mbdc_audit.specs.declared.house.Number as number_type
use Rattle.mbdc_audit.specs.declared.house.Value as value_type
use Rattle.mbdc_audit.specs.declared.line.Word.{Word}
use Rattle.mbdc_audit.specs.declared.line.Word.TheVariants as word
use Rattle.mbdc_audit.specs.declared.teller.Counts.{Counts}
use Rattle.mbdc_audit.specs.Amount.{counting, is_same}
use Rattle.mbdc_audit.specs.Grade.{grade_name}
use Rattle.mbdc_audit.specs.House.{House, Key, Number, Place, Span, Value, Window}
use Rattle.mbdc_audit.specs.Published.{ByWord, IsNumberOf, IsPeriod, IsShown, IsText, IsValueOf, MayAskOf, Open, of_text, says_of, share_of, shown_of, worst}
use Rattle.mbdc_audit.specs.Judged.{found_at}
use Rattle.mbdc_audit.specs.Sound.{After}
use Rattle.mbdc_audit.specs.View.{beside_count, key_of, number_by, number_of, seen_value}
use Rattle.mbdc_audit.specs.File.{AsksNothing}
use Rattle.mbdc_audit.specs.Walk.{AreFound, Checks, IsHeld, is_clean, open_of}
use Rattle.mbdc_audit.proofs.Judge.{key_by}
use Rattle.mbdc_audit.proofs.LastingFound.{is_value}
use Rattle.mbdc_audit.proofs.Said.{not_mark}

-- ---- what is found

pub kept_by : {X E : Type 0} (r : Result X E) (old mid new : Counts) (P : Type 0)
    → (IsTrue (is_clean mid) → IsTrue (is_clean old)) → Checks r mid new P → OnOk r (IsTrue (is_clean new) → IsTrue (is_clean old))
kept_by (Ok x) old mid new P first second = λ clean. first (second.0 clean).0
kept_by (Err e) old mid new P first second = tt

pub untrue : (b : Bool) → b ≡ false → b ≡ true → ⊥
untrue b other is = absurd (cc (other, is))

-- a rule was broken: nothing is clean, and nothing holds
pub broken : {X E : Type 0} (r : Result X E) (old mid new : Counts) (P : Type 0) → is_clean mid ≡ false → (P → ⊥)
    → OnOk r (IsTrue (is_clean new) → IsTrue (is_clean mid)) → Checks r old new P
broken (Ok x) old mid new P dirty not kept = (
  (λ clean. let was : is_clean mid ≡ true = kept clean in absurd (cc (dirty, was))),
  (λ both. absurd (not both.1)),
)
broken (Err e) old mid new P dirty not kept = tt

pub checks_same : {X E : Type 0} (r : Result X E) (old new : Counts) (P Q : Type 0) → (P ↔ Q) → Checks r old new P → Checks r old new Q
checks_same (Ok x) old new P Q same checked = (
  (λ clean. let o = checked.0 clean in (o.0, same.0 o.1)),
  (λ both. checked.1 (both.0, same.1 both.1)),
)
checks_same (Err e) old new P Q same checked = tt

-- ---- what a place consumed

pub key_is : (n : number_type.Number) → (number_of n).key ≡ key_of n
key_is n = key_by n (map (λ f. f.now) n.said)

abbrev mark_of : Open → Key → List (List ℕ)
mark_of o k = grade_name (worst (share_of o k)) ∷ []

pub is_shown : (h : House) (o : Open) (s : Span) (n : number_type.Number) (x : Option Exact) (b : List (List ℕ)) → slice_get h.spans o.window.span ≡ Some s
    → IsPeriod s n.from n.to o → (x ≡ shown_of h o (key_of n)) × (b ≡ grade_name (worst (share_of o (key_of n))) ∷ [])
    → IsHeld (number_of n) x b ↔ (IsShown h o (number_of n) × ((number_of n).beside ≡ grade_name (worst (share_of o (key_of n))) ∷ []))
is_shown h o s n x b at period is =
    let key : (number_of n).key ≡ key_of n = key_is n in
    let exact : x ≡ shown_of h o (number_of n).key = is.0 ∙ ap (λ (k : Key). shown_of h o k) (sym key) in (
      λ held. (
        record {
          span = s;
          span_is = at;
          period = subst (λ (k : Key). IsPeriod s k.from k.to o) (sym key) period;
          text = subst (λ (y : Option Exact). IsText (number_of n).key y (number_of n).text) exact held.0;
        },
        held.1 ∙ is.1,
      ),
      λ two. (subst (λ (y : Option Exact). IsText (number_of n).key y (number_of n).text) (sym exact) two.0.text, two.1 ∙ sym is.1),
    )

one_span : (s r : Span) → Some s ≡ Some r → s ≡ r
one_span s r e = cc

-- no number of a period that isn't one is right
pub not_shown : (h : House) (o : Open) (s : Span) (n : number_type.Number) → slice_get h.spans o.window.span ≡ Some s
    → (IsPeriod s n.from n.to o → ⊥) → IsShown h o (number_of n) × ((number_of n).beside ≡ grade_name (worst (share_of o (key_of n))) ∷ []) → ⊥
not_shown h o s n at not two =
    let key : (number_of n).key ≡ key_of n = key_is n in
    let span : two.0.span ≡ s = one_span two.0.span s (sym two.0.span_is ∙ at) in
    not (subst (λ (k : Key). IsPeriod s k.from k.to o) key (subst (λ (r : Span). IsPeriod r (number_of n).key.from (number_of n).key.to o) span two.0.period))

-- ---- by its word

by_shown : (w : Word) (h : House) (o : Open) (n : Number) → (w ≡ word.Value → ⊥) → IsShown h o n ↔ ByWord w h o n
by_shown word.Value h o n not = absurd (not refl)
by_shown _ h o n not = (λ is. is, λ is. is)

says_mark : (w : Word) (o : Open) (k : Key) → (w ≡ word.Value → ⊥) → says_of w o k ≡ mark_of o k
says_mark word.Value o k not = absurd (not refl)
says_mark _ o k not = refl

by_value : (w : Word) (h : House) (o : Open) (n : Number) → w ≡ word.Value → IsValueOf o n ↔ ByWord w h o n
by_value word.Value h o n e = (λ is. is, λ is. is)
by_value _ h o n e = absurd cc

says_none : (w : Word) (o : Open) (k : Key) → w ≡ word.Value → says_of w o k ≡ []
says_none word.Value o k e = refl
says_none _ o k e = absurd cc

count_none : (w : Word) → w ≡ word.Value → beside_count w ≡ 0
count_none word.Value e = refl
count_none _ e = absurd cc

none_by : (n : number_type.Number) (fields : List (List ℕ)) → beside_count n.word ≡ 0 → (number_by n fields).beside ≡ []
none_by n [] e = refl
none_by n (text ∷ more) e = ap (λ (k : ℕ). take k more) e

-- a number of another word
pub of_shown : (h : House) (p : Place) (w : Window) (n : number_type.Number) → (n.word ≡ word.Value → ⊥) → MayAskOf h p w (key_of n)
    → (IsShown h (open_of p w) (number_of n) × ((number_of n).beside ≡ grade_name (worst (share_of (open_of p w) (key_of n))) ∷ []))
    ↔ IsNumberOf h (open_of p w) (number_of n)
of_shown h p w n not may =
    let key : (number_of n).key ≡ key_of n = key_is n in
    let other : (number_of n).key.word ≡ word.Value → ⊥ = λ e. not (ap (λ (k : Key). k.word) (sym key) ∙ e) in
    let o : Open = open_of p w in
    let is = by_shown (number_of n).key.word h o (number_of n) other in
    let says : says_of (number_of n).key.word o (number_of n).key ≡ mark_of o (key_of n) =
    says_mark (number_of n).key.word o (number_of n).key other ∙ ap (λ (k : Key). mark_of o k) key in (
      λ two. record {
        may = subst (λ (k : Key). MayAskOf h p w k) (sym key) may;
        is = is.0 two.0;
        beside_it = two.1 ∙ sym says;
      },
      λ number. (is.1 number.is, number.beside_it ∙ says),
    )

-- a value
pub of_value : (h : House) (p : Place) (w : Window) (n : number_type.Number) → n.word ≡ word.Value → MayAskOf h p w (key_of n)
    → IsValueOf (open_of p w) (number_of n) ↔ IsNumberOf h (open_of p w) (number_of n)
of_value h p w n value may =
    let key : (number_of n).key ≡ key_of n = key_is n in
    let at : (number_of n).key.word ≡ word.Value = ap (λ (k : Key). k.word) key ∙ value in
    let is = by_value (number_of n).key.word h (open_of p w) (number_of n) at in
    let none : (number_of n).beside ≡ [] = none_by n (map (λ f. f.now) n.said) (count_none n.word value) in (
      λ v. record {
        may = subst (λ (k : Key). MayAskOf h p w k) (sym key) may;
        is = is.0 v;
        beside_it = none ∙ sym (says_none (number_of n).key.word (open_of p w) (number_of n).key at);
      },
      λ number. is.1 number.is,
    )

-- ---- the value of a run

abbrev IsOf : Key → List ℕ → Value → Type 0
IsOf k text v = (v.run + 1 ≡ k.from) × (v.moment ≡ k.to) × (of_text k.size text ≡ Some v.amount)

pub value_is : (o : Open) (n : number_type.Number) (values vs : List value_type.Value) (text : List ℕ) (found : Option ℕ) (r : Bool)
    → AsksNothing (number_of n) → AreFound values → AllPairs After (map seen_value values) → o.window.values ≡ map seen_value values
    → vs ≡ values → (number_of n).text ≡ text → found ≡ fold (found_at n.from n.to) None vs
    → r ≡ (bytes_eq text (codes "?") || is_same (of_text n.size text) found) → (r ≡ true) ↔ IsValueOf o (number_of n)
value_is o n values vs text found r none all pairs same items said is by =
    let said_is : List ℕ = (number_of n).text in
    let key : (number_of n).key ≡ key_of n = key_is n in
    let no : bytes_eq said_is (codes "?") ≡ false = not_mark said_is (none 0 said_is (omega arith)) in
    let at : r ≡ is_same (of_text n.size said_is) found =
    by ∙ (ap (λ (t : List ℕ). bytes_eq t (codes "?") || is_same (of_text n.size t) found) (sym said)
    ∙ ap (λ (b : Bool). b || is_same (of_text n.size said_is) found) no) in
    let two = is_value n.from n.to (of_text n.size said_is) found values all pairs
    (is ∙ ap (λ (xs : List value_type.Value). fold (found_at n.from n.to) None xs) items) in (
      (λ e. subst (λ (xs : List Value). Any (IsOf (number_of n).key said_is) (counting xs)) (sym same)
          (subst (λ (k : Key). Any (IsOf k said_is) (counting (map seen_value values))) (sym key) (two.0 (sym at ∙ e)))),
      (λ any. at ∙ two.1 (subst (λ (k : Key). Any (IsOf k said_is) (counting (map seen_value values))) key
          (subst (λ (xs : List Value). Any (IsOf (number_of n).key said_is) (counting xs)) same any))),
    )
