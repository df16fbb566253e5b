-- The numbers of all places are judged, one after the other.
use Rattle.std.proofs.Common.{arith, ◌≡◌, ◌↔◌, ◌+◌, ◌<◌, ◌≤◌, ℕ, zero, suc, Bool, true, false, List, [], ◌∷◌, ◌++◌, map, length, take, Some, refl, sym, subst, get_or}
use Rattle.std.specs.Prelude.{All, flat_map, slice_get}
use Rattle.mbdc_audit.specs.declared.house.Number as number_type
use Rattle.mbdc_audit.specs.declared.house.Place as place_type
use Rattle.mbdc_audit.specs.declared.house.Window as window_type
use Rattle.mbdc_audit.specs.declared.teller.Counts.{Counts}
use Rattle.mbdc_audit.specs.Amount.{known}
use Rattle.mbdc_audit.specs.File.{all_opened}
use Rattle.mbdc_audit.specs.House.{House, Key, Number, Place, Span, Window}
use Rattle.mbdc_audit.specs.Published.{IsNumberOf, MayAskOf, Open}
use Rattle.mbdc_audit.specs.Sound.{IsPlace, IsWindow}
use Rattle.mbdc_audit.specs.View.{key_of, known_in, number_of, place_of, window_of}
use Rattle.mbdc_audit.specs.File.{AsksNothing, IfGiven}
use Rattle.mbdc_audit.specs.Walk.{AreGradedAll, IsGradedPlace, open_of}
use Rattle.mbdc_audit.proofs.Judge.{Only, all_unmap, only_all, only_map, only_more}
use Rattle.mbdc_audit.proofs.AllOpened.{all_flat_map, all_map}
use Rattle.mbdc_audit.proofs.PlacedNumbers.{key_is}

-- ---- one more, and all

pub each_more : {X : Type 0} (P Q : X → Type 0) (R : Type 0) (xs ys : List X) (i : ℕ) (d : X) (old mid new : Counts) → xs ≡ ys → i < length xs → All P ys
    → Only R old mid (All Q (take i ys)) → (P (get_or xs i d) → Only R mid new (Q (get_or xs i d))) → Only R old new (All Q (take (i + 1) ys))
each_more P Q R xs ys i d old mid new same lt all first second =
    subst (λ (zs : List _). Only R old new (All Q (take (i + 1) zs))) same
    (only_more Q R xs i (i + 1) d old mid new lt refl
    (subst (λ (zs : List _). Only R old mid (All Q (take i zs))) (sym same) first)
    (second (subst (λ (zs : List _). All P zs) (sym same) all i d lt)))

-- the same, of an element that the code names
-- that is so of each one where it is so
pub item_more : {X : Type 0} (P Q T : X → Type 0) (R : Type 0) (xs ys : List X) (i : ℕ) (x : X) (old mid new : Counts) → xs ≡ ys → i < length xs → x ≡ get_or xs i x → All P ys
    → (R → All T ys) → Only R old mid (All Q (take i ys)) → (P x → Only (T x) mid new (Q x)) → Only R old new (All Q (take (i + 1) ys))
item_more P Q T R xs ys i x old mid new same lt at all whole first second = each_more P Q R xs ys i x old mid new same lt all first
    (λ p. let one = second (subst P (sym at) p) in
    let here : R → T x = λ r. subst T (sym at) (subst (λ (zs : List _). All T zs) (sym same) (whole r) i x lt) in
    subst (λ (y : _). Only R mid new (Q y)) at (one.0, λ r both. one.1 (here r) both))

pub each_all : {X Y : Type 0} (P : Y → Type 0) (R : Type 0) (f : X → Y) (xs ys : List X) (i : ℕ) (old new : Counts) → xs ≡ ys → length xs ≤ i
    → Only R old new (All (λ x. P (f x)) (take i ys)) → Only R old new (All P (map f ys))
each_all P R f xs ys i old new same le checked = only_map P R f ys old new
    (only_all (λ x. P (f x)) R ys i old new (subst (λ (zs : List _). length zs ≤ i) same le) checked)

-- what is sure of a number of a place that asks for nothing
abbrev pub SureAt : House → Place → Window → number_type.Number → Type 0
SureAt h p w n = AsksNothing (number_of n) → IsNumberOf h (open_of p w) (number_of n)

-- one more number of a place
pub placed_more : (h : House) (p : Place) (w : Window) (xs ys : List number_type.Number) (i : ℕ) (d : number_type.Number) (old mid new : Counts) → xs ≡ ys → i < length xs
    → All (λ n. MayAskOf h p w n.key) (map number_of ys)
    → Only (All AsksNothing (map number_of ys)) old mid (All (SureAt h p w) (take i ys))
    → (MayAskOf h p w (key_of (get_or xs i d)) → Only (AsksNothing (number_of (get_or xs i d))) mid new (SureAt h p w (get_or xs i d)))
    → Only (All AsksNothing (map number_of ys)) old new (All (SureAt h p w) (take (i + 1) ys))
placed_more h p w xs ys i d old mid new same lt asks first second =
    let R : Type 0 = All AsksNothing (map number_of ys) in
    let quiet : R → AsksNothing (number_of (get_or xs i d)) = λ all.
    subst (λ (zs : List number_type.Number). All (λ n. AsksNothing (number_of n)) zs) (sym same) (all_unmap AsksNothing number_of ys all) i d lt in
    each_more (λ n. MayAskOf h p w (number_of n).key) (SureAt h p w) R xs ys i d old mid new same lt
    (all_unmap (λ n. MayAskOf h p w n.key) number_of ys asks) first
    (λ one. let it = second (subst (λ (k : Key). MayAskOf h p w k) (key_is (get_or xs i d)) one) in (it.0, λ r both. it.1 (quiet r) both))

-- ---- the windows of a place

abbrev pub AreAsked : House → Place → Window → Type 0
AreAsked h p w = All (λ n. MayAskOf h p w n.key) w.numbers

abbrev pub AreNumbers : House → Place → Window → Type 0
AreNumbers h p w = All (λ n. AsksNothing n → IsNumberOf h (open_of p w) n) w.numbers

-- what is known of a window
abbrev pub IsSet : {A : Type 0} → House → Place → window_type.Window A → Type 0
IsSet h p w = ((s : Span) × (slice_get h.spans w.span ≡ Some s) × IsWindow h p (window_of w) s)
    × (known_in w.values.items ≡ known (window_of w).values) × AreAsked h p (window_of w)

pub windows_set : {A : Type 0} (h : House) (p : place_type.Place A) → IsPlace h (place_of p) → IsGradedPlace p
    → All (λ w. AreAsked h (place_of p) w) (place_of p).windows → All (IsSet h (place_of p)) p.windows.items
windows_set h p sound graded asks k d lt = (
  all_unmap (λ w. (s : Span) × (slice_get h.spans w.span ≡ Some s) × IsWindow h (place_of p) w s) window_of p.windows.items sound.windows k d lt,
  (graded k d lt).0,
  all_unmap (λ w. AreAsked h (place_of p) w) window_of p.windows.items asks k d lt,
)

-- what is known of a place
abbrev pub IsPlaced : {A : Type 0} → House → place_type.Place A → Type 0
IsPlaced h p = IsPlace h (place_of p) × IsGradedPlace p × All (λ w. AreAsked h (place_of p) w) (place_of p).windows

pub places_set : {A : Type 0} (h : House) (places : List (place_type.Place A)) → All (IsPlace h) (map place_of places) → AreGradedAll places
    → All (λ p. All (λ w. AreAsked h p w) p.windows) (map place_of places) → All (IsPlaced h) places
places_set h places sound graded asks k d lt = (
  all_unmap (IsPlace h) place_of places sound k d lt,
  graded k d lt,
  all_unmap (λ p. All (λ w. AreAsked h p w) p.windows) place_of places asks k d lt,
)

-- ---- all windows of a house

front_of : {X : Type 0} (P : X → Type 0) (xs ys : List X) → All P (xs ++ ys) → All P xs
front_of P [] ys all k d lt = absurd (omega (arith, lt))
front_of P (x ∷ xs) ys all zero d lt = all 0 x (omega arith)
front_of P (x ∷ xs) ys all (suc k) d lt = front_of P xs ys (λ j e below. all (suc j) e (omega (arith, below))) k d (omega (arith, lt))

back_of : {X : Type 0} (P : X → Type 0) (xs ys : List X) → All P (xs ++ ys) → All P ys
back_of P [] ys all = all
back_of P (x ∷ xs) ys all = back_of P xs ys (λ j e below. all (suc j) e (omega (arith, below)))

all_unflat : {X Y : Type 0} (P : Y → Type 0) (f : X → List Y) (xs : List X) → All P (flat_map f xs) → All (λ x. All P (f x)) xs
all_unflat P f [] all k d lt = absurd (omega (arith, lt))
all_unflat P f (x ∷ xs) all zero d lt = front_of P (f x) (flat_map f xs) all
all_unflat P f (x ∷ xs) all (suc k) d lt = all_unflat P f xs (back_of P (f x) (flat_map f xs) all) k d (omega (arith, lt))

pub nested : (h : House) (P : Open → Type 0) → All P (all_opened h) → All (λ p. All (λ w. P (open_of p w)) p.windows) h.places
nested h P all = λ k d lt. all_unmap P (λ w. open_of (get_or h.places k d) w) (get_or h.places k d).windows
    (all_unflat P (λ p. map (λ w. open_of p w) p.windows) h.places all k d lt)

pub flat : (h : House) (P : Open → Type 0) → All (λ p. All (λ w. P (open_of p w)) p.windows) h.places → All P (all_opened h)
flat h P all = all_flat_map P (λ p. map (λ w. open_of p w) p.windows) h.places
    (λ k d lt. all_map P (λ w. open_of (get_or h.places k d) w) (get_or h.places k d).windows (all k d lt))

pub only_both : (P Q R S T U : Type 0) (old mid new : Counts) → P ↔ R → (U → S) → (U → T) → Only S old mid P → Only T mid new Q → Only U old new (R × Q)
only_both P Q R S T U old mid new same s t first second = (
  λ clean. let m = second.0 clean in let o = first.0 m.0 in (o.0, (same.0 o.1, m.1)),
  λ u both. second.1 (t u) (first.1 (s u) (both.0, same.1 both.1.0), both.1.1),
)

-- unless asking is allowed, each number holds
pub given : (asks : Bool) (P : Number → Type 0) (ns : List Number) → (asks ≡ false → All AsksNothing ns) → All (λ n. AsksNothing n → P n) ns → All (IfGiven asks P) ns
given true P ns quiet all = all
given false P ns quiet all = λ k d lt. all k d lt (quiet refl k d lt)
