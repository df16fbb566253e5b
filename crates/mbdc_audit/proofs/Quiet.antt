-- A house with a line more asks nothing, where the line has no question mark.
use Rattle.std.proofs.Common.{arith, ◌≡◌, ◌∙◌, ◌<◌, ◌+◌, ℕ, zero, suc, Bool, true, false, List, [], ◌∷◌, ◌++◌, length, map, take, drop, get_or, if◌then◌else◌}
use Rattle.std.proofs.Common.{refl, sym, subst}
use Rattle.std.specs.Prelude.{All, Contains, ◌==◌, ◌||◌, ◌&&◌, slice_get}
use Rattle.std.specs.List.{list_any}
use Rattle.mbdc_audit.specs.declared.line.Line.{Line}
use Rattle.mbdc_audit.specs.Line.{IsLine, has_mark, is_asked}
use Rattle.mbdc_audit.specs.File.{Adds, IsSaid, MayBeNext, Said, asks, begins, closes, counts, declares, lives, opens, parts, reads, spans, stands, strikes, totals, uses, allows}
use Rattle.mbdc_audit.specs.File.{in_last, in_place, in_window, is_of_place, opened, or_empty, with_number, with_said, empty}
use Rattle.mbdc_audit.specs.House.{House, Number, Place, Window}
use Rattle.mbdc_audit.specs.File.{AsksNothing}
use Rattle.mbdc_audit.specs.Walk.{IsQuiet}
use Rattle.mbdc_audit.proofs.Bodies.{all_cons, all_front, all_rest}
use Rattle.mbdc_audit.proofs.Grown.{all_empty, all_none, all_push}
use Rattle.mbdc_audit.proofs.Stages.{stage_is, stage_said}

-- ---- a text without a question mark

abbrev Plain : List ℕ → Type 0
Plain text = Contains text 63 → ⊥

or_no : (a b : Bool) → (a || b) ≡ false → (a ≡ false) × (b ≡ false)
or_no true b e = absurd cc
or_no false b e = (refl, e)

not_63 : (b : ℕ) → (b == 63) ≡ false → b ≡ 63 → ⊥
not_63 b e is = absurd cc

plain : (text : List ℕ) → has_mark text ≡ false → Plain text
plain [] none c = absurd (let lt = c.1 in omega arith)
plain (b ∷ text) none c = at (plain text (or_no (b == 63) (has_mark text) none).1) c.0 c.1 c.2
  where
    at : (Contains text 63 → ⊥) → (k : ℕ) → k < length (b ∷ text) → get_or (b ∷ text) k 63 ≡ 63 → ⊥
    at rest zero lt is = not_63 b (or_no (b == 63) (has_mark text) none).0 is
    at rest (suc k) lt is = rest (k, omega (arith, lt), is)

plain_all : {X : Type 0} (f : X → List ℕ) (xs : List X) → list_any (λ x. has_mark (f x)) xs ≡ false → All Plain (map f xs)
plain_all f [] none = all_none Plain
plain_all f (x ∷ xs) none =
    let two = or_no (has_mark (f x)) (list_any (λ y. has_mark (f y)) xs) none in
    all_cons Plain (f x) (map f xs) (plain (f x) two.0) (plain_all f xs two.1)

plain_at : (fields : List (List ℕ)) (place : ℕ) → All Plain fields → Plain (or_empty (slice_get fields place))
plain_at [] place all = plain [] refl
plain_at (f ∷ fields) zero all = all_front Plain f fields all
plain_at (f ∷ fields) (suc place) all = plain_at fields place (all_rest Plain f fields all)

take_all : {X : Type 0} (P : X → Type 0) (n : ℕ) (xs : List X) → All P xs → All P (take n xs)
take_all P zero xs all = all_none P
take_all P (suc n) [] all = all_none P
take_all P (suc n) (x ∷ xs) all = all_cons P x (take n xs) (all_front P x xs all) (take_all P n xs (all_rest P x xs all))

drop_all : {X : Type 0} (P : X → Type 0) (n : ℕ) (xs : List X) → All P xs → All P (drop n xs)
drop_all P zero xs all = all
drop_all P (suc n) [] all = all_none P
drop_all P (suc n) (x ∷ xs) all = drop_all P n xs (all_rest P x xs all)

-- ---- a house that grows

all_last : {X : Type 0} (P : X → Type 0) (f : X → X) → ((x : X) → P x → P (f x)) → (xs : List X) → All P xs → All P (in_last f xs)
all_last P f keeps [] all = all
all_last P f keeps (x ∷ []) all = all_cons P (f x) [] (keeps x (all_front P x [] all)) (all_none P)
all_last P f keeps (x ∷ y ∷ rest) all =
    all_cons P x (in_last f (y ∷ rest)) (all_front P x (y ∷ rest) all) (all_last P f keeps (y ∷ rest) (all_rest P x (y ∷ rest) all))

abbrev QuietIn : Window → Type 0
QuietIn w = All AsksNothing w.numbers

abbrev QuietAt : Place → Type 0
QuietAt p = All QuietIn p.windows

place_quiet : (f : Place → Place) (h : House) → ((p : Place) → QuietAt p → QuietAt (f p)) → IsQuiet h → IsQuiet (in_place f h)
place_quiet f h keeps q = record { of_places = all_last QuietAt f keeps h.places q.of_places; of_house = q.of_house }

window_quiet : (f : Window → Window) (h : House) → ((w : Window) → QuietIn w → QuietIn (f w)) → IsQuiet h → IsQuiet (in_window f h)
window_quiet f h keeps q = place_quiet (λ p. record p { windows = in_last f p.windows }) h (λ p all. all_last QuietIn f keeps p.windows all) q

number_quiet : (b : Bool) (h : House) (n : Number) → AsksNothing n → IsQuiet h → IsQuiet (with_number b n h)
number_quiet true h n none q = window_quiet (λ w. record w { numbers = w.numbers ++ n ∷ [] }) h (λ w all. all_push AsksNothing w.numbers n all none) q
number_quiet false h n none q = record { of_places = q.of_places; of_house = all_push AsksNothing h.numbers n q.of_house none }

same_quiet : (h g : House) → h.places ≡ g.places → h.numbers ≡ g.numbers → IsQuiet h → IsQuiet g
same_quiet h g places numbers q = record {
  of_places = subst (λ (ps : List Place). All QuietAt ps) places q.of_places;
  of_house = subst (λ (ns : List Number). All AsksNothing ns) numbers q.of_house;
}

grown_quiet : (h : House) (x : Said) → MayBeNext h x → ((n : Number) → x ≡ asks n → AsksNothing n) → IsQuiet h → IsQuiet (with_said x h)
grown_quiet h (begins label) may none q = same_quiet h (record h { label = label }) refl refl q
grown_quiet h (uses u) may none q = same_quiet h (with_said (uses u) h) refl refl q
grown_quiet h (allows a) may none q = same_quiet h (with_said (allows a) h) refl refl q
grown_quiet h (spans n s) may none q = same_quiet h (with_said (spans n s) h) refl refl q
grown_quiet h (declares d) may none q = same_quiet h (with_said (declares d) h) refl refl q
grown_quiet h (lives u) may none q = same_quiet h (with_said (lives u) h) refl refl q
grown_quiet h (stands n p) may none q = record {
  of_places = all_push QuietAt h.places p q.of_places (all_empty QuietIn p.windows may.3);
  of_house = q.of_house;
}
grown_quiet h (counts n r) may none q = place_quiet (λ p. record p { runs = p.runs ++ r ∷ [] }) h (λ p all. all) q
grown_quiet h (opens n) may none q = place_quiet (λ p. record p { windows = p.windows ++ opened n ∷ [] }) h
    (λ p all. all_push QuietIn p.windows (opened n) all (all_none AsksNothing)) q
grown_quiet h (reads v) may none q = window_quiet (λ w. record w { values = w.values ++ v ∷ [] }) h (λ w all. all) q
grown_quiet h (strikes x) may none q = window_quiet (λ w. record w { struck = w.struck ++ x ∷ [] }) h (λ w all. all) q
grown_quiet h (parts n x) may none q = window_quiet (λ w. record w { parts = w.parts ++ x ∷ [] }) h (λ w all. all) q
grown_quiet h (asks n) may none q = number_quiet (is_of_place n.key.word) h n (none n refl) q
grown_quiet h totals may none q = q
grown_quiet h closes may none q = q

pub quiet_empty : IsQuiet empty
quiet_empty = record { of_places = all_none QuietAt; of_house = all_none AsksNothing }

-- ---- a line of a number

staged : (stage : ℕ) (b : Bool) (any : Bool) → ((stage == 9) || (stage == 11)) && any ≡ false → stage ≡ (if b then 9 else 11) → any ≡ false
staged stage true any none is = subst (λ (n : ℕ). (((n == 9) || (n == 11)) && any) ≡ false) is none
staged stage false any none is = subst (λ (n : ℕ). (((n == 9) || (n == 11)) && any) ≡ false) is none

asks_nothing : (h : House) (text : List ℕ) (l : Line) (x : Said) → IsLine text l → IsSaid h x l → is_asked l ≡ false
    → (n : Number) → x ≡ asks n → AsksNothing n
asks_nothing h text l (asks m) line says none n is =
    let at = stage_is text l line ∙ stage_said h (asks m) l says in
    let all : All Plain (map (λ f. f.now) l.fields) =
    plain_all (λ f. f.now) l.fields (staged l.stage (is_of_place m.key.word) (list_any (λ f. has_mark f.now) l.fields) none at) in
    let of_m : AsksNothing m = all_cons Plain m.text m.beside
    (subst Plain says.text_is (plain_at (map (λ f. f.now) l.fields) l.text all))
    (subst (λ (fs : List (List ℕ)). All Plain fs) says.beside_is
    (take_all Plain (length m.beside) (drop (l.text + 1) (map (λ f. f.now) l.fields)) (drop_all Plain (l.text + 1) (map (λ f. f.now) l.fields) all))) in
    of_same m n is of_m
  where
    of_same : (m n : Number) → asks m ≡ asks n → AsksNothing m → AsksNothing n
    of_same m n is none =
        let same : m ≡ n = cc in
        subst AsksNothing same none
asks_nothing h text l x line says none n is = absurd cc

pub quiet : (h g : House) (text : List ℕ) (l : Line) → IsLine text l → is_asked l ≡ false → Adds h l g → IsQuiet h → IsQuiet g
quiet h g text l line none adds q = subst IsQuiet (sym adds.with_it)
    (grown_quiet h adds.said adds.may (asks_nothing g text l adds.said line adds.says none) q)
