-- A number is judged as it is defined.
use Rattle.std.proofs.Common.{arith, ◌≡◌, ◌+◌, ◌<◌, ◌≤◌, ℕ, zero, suc, List, [], ◌∷◌, true, map, length, Option, None, Some}
use Rattle.std.proofs.Common.{refl, sym, ap, ◌∙◌, subst, inl, inr, get_or, take}
use Rattle.std.specs.Prelude.{◌↔◌, All, IsTrue, Ok, Err, Result, codes}
use Rattle.dc_units.specs.Text.{decimal_text}
use Rattle.mbdc_audit.specs.declared.exact.Exact.{Exact}
use Rattle.mbdc_audit.specs.declared.line.Word.{Word}
use Rattle.mbdc_audit.specs.declared.line.Word.TheVariants as word
use Rattle.mbdc_audit.specs.declared.teller.Counts.{Counts}
use Rattle.mbdc_audit.specs.declared.uses.Unit as unit_type
use Rattle.mbdc_audit.specs.declared.uses.Unit.TheVariants.{Kwh, CubicMetre, Allocated, Count, Smallest}
use Rattle.mbdc_audit.specs.House.{House, Key, Number}
use Rattle.mbdc_audit.specs.declared.house.Number as number_type
use Rattle.mbdc_audit.specs.View.{key_of, number_by, number_of}
use Rattle.mbdc_audit.specs.Judged.{IsFine, is_said}
use Rattle.mbdc_audit.specs.Published.{IsNumber, IsText, MayAsk, beside, number, Suffice, least, printed, rounded}
use Rattle.mbdc_audit.specs.File.{AsksNothing}
use Rattle.mbdc_audit.specs.Walk.{Checks, IsHeld, is_clean}
use Rattle.mbdc_audit.proofs.Said.{is_same, says}
use Rattle.mbdc_audit.proofs.TextsOf.{no_dash}
use Rattle.mbdc_audit.proofs.AllOpened.{all_map, all_more}

-- ---- what is found

pub checks_by : {X E : Type 0} (r : Result X E) (old mid new : Counts) (P Q R : Type 0)
    → (IsTrue (is_clean mid) ↔ (IsTrue (is_clean old) × P)) → Checks r mid new Q → ((P × Q) ↔ R) → Checks r old new R
checks_by (Ok x) old mid new P Q R first second whole = (
  λ clean. let m = second.0 clean in let o = first.0 m.0 in (o.0, whole.0 (o.1, m.1)),
  λ both. let parts = whole.1 both.1 in second.1 (first.1 (both.0, parts.0), parts.1),
)
checks_by (Err e) old mid new P Q R first second whole = tt

-- ---- decimals that suffice where there is no number

two_least : (unit : unit_type.Unit) → least unit ≤ 2
two_least Kwh = omega arith
two_least CubicMetre = omega arith
two_least Allocated = omega arith
two_least Count = omega arith
two_least Smallest = omega arith

two_suffice : (w : Word) (unit : unit_type.Unit) → Suffice w unit None 2
two_suffice word.Change unit = tt
two_suffice word.Carbon unit = omega arith
two_suffice word.Cost unit = refl
two_suffice _ unit = inl (two_least unit)

-- ---- a number that holds

pub judged : (n : Number) (x : Option Exact) (beside : List (List ℕ)) (d : ℕ) → d ≤ 3 → AsksNothing n
    → ((y : Exact) (e : ℕ) → e ≤ 3 → n.text ≡ decimal_text (rounded y e) → d ≡ e)
    → (IsFine n d x × (is_said n (printed d x ∷ beside) ≡ true)) ↔ IsHeld n x beside
judged n None beside d few none all = (
  λ both. let same = says n (codes "-") beside none both.1 in
      (record { decimals = 2; few = omega arith; fine = two_suffice n.key.word n.key.unit; printed_as = same.0 }, same.1),
  λ held. (tt, is_same n (codes "-") beside held.0.printed_as held.1),
)
judged n (Some x) beside d few none all = (
  λ both. let same = says n (decimal_text (rounded x d)) beside none both.1 in (
    record {
      decimals = d;
      few = few;
      fine = elim both.0 [ inl dash ↦ absurd (no_dash x d (sym same.0 ∙ dash)) | inr fine ↦ fine ];
      printed_as = same.0;
    },
    same.1,
  ),
  λ held. let same : d ≡ held.0.decimals = all x held.0.decimals held.0.few held.0.printed_as in (
    inr (subst (λ (e : ℕ). Suffice n.key.word n.key.unit (Some x) e) (sym same) held.0.fine),
    is_same n (decimal_text (rounded x d)) beside (held.0.printed_as ∙ ap (λ (e : ℕ). decimal_text (rounded x e)) (sym same)) held.1,
  ),
)

-- ---- one after the other

-- what is checked holds exactly if nothing is found that wasn't before
abbrev pub Checked : Counts → Counts → Type 0 → Type 0
Checked old new P = IsTrue (is_clean new) ↔ (IsTrue (is_clean old) × P)

push_all : {X : Type 0} (P : X → Type 0) (xs : List X) (i : ℕ) (d : X) → i < length xs → All P (take i xs) → P (get_or xs i d) → All P (take (suc i) xs)
push_all P [] i d lt all p = absurd (omega (arith, lt))
push_all P (x ∷ xs) zero d lt all p = all_more P x [] p all
push_all P (x ∷ xs) (suc i) d lt all p = all_more P x (take (suc i) xs) (all 0 x (omega arith))
    (push_all P xs i d (omega (arith, lt)) (λ k e below. all (suc k) e (omega (arith, below))) p)

-- the other way
pop_all : {X : Type 0} (P : X → Type 0) (xs : List X) (i : ℕ) (d : X) → i < length xs → All P (take (suc i) xs) → All P (take i xs) × P (get_or xs i d)
pop_all P [] i d lt all = absurd (omega (arith, lt))
pop_all P (x ∷ xs) zero d lt all = ((λ k e below. absurd (omega (arith, below))), all 0 x (omega arith))
pop_all P (x ∷ xs) (suc i) d lt all =
    let rest = pop_all P xs i d (omega (arith, lt)) (λ k e below. all (suc k) e (omega (arith, below))) in
    (all_more P x (take i xs) (all 0 x (omega arith)) rest.0, rest.1)

-- nothing is found only if nothing was before, and this holds; exactly then where that is so
abbrev pub Only : Type 0 → Counts → Counts → Type 0 → Type 0
Only Q old new P = (IsTrue (is_clean new) → IsTrue (is_clean old) × P) × (Q → IsTrue (is_clean old) × P → IsTrue (is_clean new))

pub only_more : {X : Type 0} (P : X → Type 0) (Q : Type 0) (xs : List X) (i j : ℕ) (d : X) (old mid new : Counts) → i < length xs → j ≡ i + 1
    → Only Q old mid (All P (take i xs)) → Only Q mid new (P (get_or xs i d)) → Only Q old new (All P (take j xs))
only_more P Q xs i j d old mid new lt e first second =
    let next : suc i ≡ j = omega (arith, e) in
    subst (λ (n : ℕ). Only Q old new (All P (take n xs))) next (
      λ clean. let m = second.0 clean in let o = first.0 m.0 in (o.0, push_all P xs i d lt o.1 m.1),
      λ q both. let parts = pop_all P xs i d lt both.1 in second.1 q (first.1 q (both.0, parts.0), parts.1),
    )

take_all : {X : Type 0} (n : ℕ) (xs : List X) → length xs ≤ n → take n xs ≡ xs
take_all zero [] e = refl
take_all zero (x ∷ xs) e = absurd (omega (arith, e))
take_all (suc n) [] e = refl
take_all (suc n) (x ∷ xs) e = ap (λ (l : List _). x ∷ l) (take_all n xs (omega (arith, e)))

pub only_all : {X : Type 0} (P : X → Type 0) (Q : Type 0) (xs : List X) (i : ℕ) (old new : Counts) → length xs ≤ i
    → Only Q old new (All P (take i xs)) → Only Q old new (All P xs)
only_all P Q xs i old new le only = subst (λ (l : List _). Only Q old new (All P l)) (take_all i xs le) only

pub all_unmap : {X Y : Type 0} (P : Y → Type 0) (f : X → Y) (xs : List X) → All P (map f xs) → All (λ x. P (f x)) xs
all_unmap P f [] all k d lt = absurd (omega (arith, lt))
all_unmap P f (x ∷ xs) all zero d lt = all 0 (f x) (omega arith)
all_unmap P f (x ∷ xs) all (suc k) d lt = all_unmap P f xs (λ j e below. all (suc j) e (omega (arith, below))) k d (omega (arith, lt))

pub only_map : {X Y : Type 0} (P : Y → Type 0) (Q : Type 0) (f : X → Y) (xs : List X) (old new : Counts) → Only Q old new (All (λ x. P (f x)) xs)
    → Only Q old new (All P (map f xs))
only_map P Q f xs old new only = (
  λ clean. let o = only.0 clean in (o.0, all_map P f xs o.1),
  λ q both. only.1 q (both.0, all_unmap P f xs both.1),
)

pub key_by : (n : number_type.Number) (fields : List (List ℕ)) → (number_by n fields).key ≡ key_of n
key_by n [] = refl
key_by n (text ∷ more) = refl

-- what the house says of a number
pub is_number : (h : House) (n : number_type.Number) (x : Option Exact) (b : List (List ℕ)) → x ≡ number h (key_of n) → b ≡ beside h (key_of n)
    → MayAsk h (number_of n).key → IsHeld (number_of n) x b ↔ IsNumber h (number_of n)
is_number h n x b e f may =
    let key : (number_of n).key ≡ key_of n = key_by n (map (λ f. f.now) n.said) in
    let exact : x ≡ number h (number_of n).key = e ∙ ap (λ (k : Key). number h k) (sym key) in
    let says : b ≡ beside h (number_of n).key = f ∙ ap (λ (k : Key). beside h k) (sym key) in (
      λ held. record {
        may = may;
        text = subst (λ (y : Option Exact). IsText (number_of n).key y (number_of n).text) exact held.0;
        beside_it = held.1 ∙ says;
      },
      λ is. (subst (λ (y : Option Exact). IsText (number_of n).key y (number_of n).text) (sym exact) is.text, is.beside_it ∙ sym says),
    )

-- what is sure of a number that asks for nothing
abbrev pub SureOf : House → number_type.Number → Type 0
SureOf h n = AsksNothing (number_of n) → IsNumber h (number_of n)

-- one more number of the house
pub number_more : (h : House) (xs ys : List number_type.Number) (i : ℕ) (d : number_type.Number) (x : Option Exact) (b : List (List ℕ)) (old mid new : Counts) → xs ≡ ys → i < length xs
    → All (λ n. MayAsk h n.key) (map number_of ys)
    → x ≡ number h (key_of (get_or xs i d)) → b ≡ beside h (key_of (get_or xs i d))
    → Only (All AsksNothing (map number_of ys)) old mid (All (SureOf h) (take i ys)) → (IsTrue (is_clean new) → IsTrue (is_clean mid))
    → (AsksNothing (number_of (get_or xs i d)) → Checked mid new (IsHeld (number_of (get_or xs i d)) x b))
    → Only (All AsksNothing (map number_of ys)) old new (All (SureOf h) (take (i + 1) ys))
number_more h xs ys i d x b old mid new same lt asks e f first kept second =
    let one : MayAsk h (number_of (get_or xs i d)).key =
    subst (λ (zs : List number_type.Number). All (λ n. MayAsk h (number_of n).key) zs) (sym same)
    (all_unmap (λ n. MayAsk h n.key) number_of ys asks) i d lt in
    let Q : Type 0 = All AsksNothing (map number_of ys) in
    let quiet : Q → AsksNothing (number_of (get_or xs i d)) = λ all.
    subst (λ (zs : List number_type.Number). All (λ n. AsksNothing (number_of n)) zs) (sym same) (all_unmap AsksNothing number_of ys all) i d lt in
    subst (λ (zs : List number_type.Number). Only Q old new (All (SureOf h) (take (i + 1) zs))) same
    (only_more (SureOf h) Q xs i (i + 1) d old mid new lt refl
    (subst (λ (zs : List number_type.Number). Only Q old mid (All (SureOf h) (take i zs))) (sym same) first) (
      λ clean. (kept clean, λ none. (is_number h (get_or xs i d) x b e f one).0 ((second none).0 clean).1),
      λ all both. (second (quiet all)).1 (both.0, (is_number h (get_or xs i d) x b e f one).1 (both.1 (quiet all))),
    ))

pub numbers_all : (h : House) (xs : List number_type.Number) (i : ℕ) (old new : Counts) → length xs ≤ i
    → Only (All AsksNothing (map number_of xs)) old new (All (SureOf h) (take i xs))
    → Only (All AsksNothing (map number_of xs)) old new (All (λ n. AsksNothing n → IsNumber h n) (map number_of xs))
numbers_all h xs i old new le only =
    let Q : Type 0 = All AsksNothing (map number_of xs) in
    only_map (λ n. AsksNothing n → IsNumber h n) Q number_of xs old new (only_all (SureOf h) Q xs i old new le only)
