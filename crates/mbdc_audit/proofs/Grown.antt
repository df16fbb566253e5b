-- A house with a line more keeps to the limits.
use Rattle.std.proofs.Common.{◌≡◌, ℕ, zero, suc, ◌-◌, ◌<◌, ◌≤◌, List, [], ◌∷◌, ◌++◌, length, drop, get_or, Bool, true, false, Some, refl, ap, sym, subst, arith}
use Rattle.std.specs.Prelude.{All, Any, slice_get}
use Rattle.std.proofs.lemmas.List.{length_push}
use Rattle.mbdc_audit.specs.Amount.{last_of}
use Rattle.mbdc_audit.specs.File.{IsWithin, Said, allows, asks, begins, closes, counts, declares, lives, opens, parts, reads, spans, stands, strikes, totals, uses}
use Rattle.mbdc_audit.specs.House.{House, Number, Place, Run, Window}
use Rattle.mbdc_audit.specs.Published.{MayAskOf}
use Rattle.mbdc_audit.specs.File.{AskedOf, InPlace, InWindow, MayBeNext, in_last, in_place, in_window, is_of_place, opened, with_number, with_said}
use Rattle.mbdc_audit.specs.Sound.{IsAt}
use Rattle.mbdc_audit.proofs.Bodies.{all_cons, all_front, all_rest}
use Rattle.mbdc_audit.specs.File.{Steps}

-- ---- the last one

pub last_cons : {X : Type 0} (x y : X) (rest : List X) → last_of (x ∷ y ∷ rest) ≡ last_of (y ∷ rest)
last_cons x y rest =
    let next : length (x ∷ y ∷ rest) - 1 ≡ suc (length (y ∷ rest) - 1) = omega arith in
    ap (λ (n : ℕ). drop n (x ∷ y ∷ rest)) next

at_zero : {X : Type 0} (Q : X → Type 0) (x : X) (k : ℕ) (y : X) → k < length (x ∷ []) → get_or (x ∷ []) k y ≡ y → Q y → Q x
at_zero Q x zero y lt at q = subst Q (sym at) q
at_zero Q x (suc k) y lt at q = absurd (omega arith)

any_one : {X : Type 0} (Q : X → Type 0) (x : X) → Any Q (last_of (x ∷ [])) → Q x
any_one Q x any = at_zero Q x any.0 any.1 any.2 any.3 any.4

pub all_none : {X : Type 0} (P : X → Type 0) → All P []
all_none P k d lt = absurd (omega arith)

pub all_empty : {X : Type 0} (P : X → Type 0) (xs : List X) → xs ≡ [] → All P xs
all_empty P xs none = subst (λ ys. All P ys) (sym none) (all_none P)

-- all of them hold, where the last one's change keeps it
pub all_in_last : {X : Type 0} (P Q : X → Type 0) (f : X → X) → ((x : X) → Q x → P x → P (f x)) → (xs : List X)
    → Any Q (last_of xs) → All P xs → All P (in_last f xs)
all_in_last P Q f keeps [] any all = all
all_in_last P Q f keeps (x ∷ []) any all = all_cons P (f x) [] (keeps x (any_one Q x any) (all_front P x [] all)) (all_none P)
all_in_last P Q f keeps (x ∷ y ∷ rest) any all =
    all_cons P x (in_last f (y ∷ rest)) (all_front P x (y ∷ rest) all)
    (all_in_last P Q f keeps (y ∷ rest) (subst (λ xs. Any Q xs) (last_cons x y rest) any) (all_rest P x (y ∷ rest) all))

-- what one more adds at the end
pub all_push : {X : Type 0} (P : X → Type 0) (xs : List X) (x : X) → All P xs → P x → All P (xs ++ x ∷ [])
all_push P [] x all here = all_cons P x [] here (all_none P)
all_push P (y ∷ ys) x all here = all_cons P y (ys ++ x ∷ []) (all_front P y ys all) (all_push P ys x (all_rest P y ys all) here)

pub length_in_last : {X : Type 0} (f : X → X) (xs : List X) → length (in_last f xs) ≡ length xs
length_in_last f [] = refl
length_in_last f (x ∷ []) = refl
length_in_last f (x ∷ y ∷ rest) = ap suc (length_in_last f (y ∷ rest))

-- ---- the limits

abbrev FewRuns : Place → Type 0
FewRuns p = length p.runs ≤ 16

abbrev FewIn : (Window → ℕ) → ℕ → Place → Type 0
FewIn count most p = All (λ w. count w ≤ most) p.windows

-- the open place changed, where it keeps to them
in_place_within : (Q : Place → Type 0) (f : Place → Place) (h : House) → InPlace Q h
    → ((p : Place) → Q p → FewRuns p → FewRuns (f p))
    → ((p : Place) → Q p → FewIn (λ w. length w.values) 2048 p → FewIn (λ w. length w.values) 2048 (f p))
    → ((p : Place) → Q p → FewIn (λ w. length w.parts) 64 p → FewIn (λ w. length w.parts) 64 (f p)) → IsWithin h → IsWithin (in_place f h)
in_place_within Q f h any few_runs few_values few_parts few = record {
  spans = few.spans;
  uses = few.uses;
  users = few.users;
  places = subst (λ (n : ℕ). n ≤ 16384) (sym (length_in_last f h.places)) few.places;
  meters = all_in_last FewRuns Q f few_runs h.places any few.meters;
  values = all_in_last (FewIn (λ w. length w.values) 2048) Q f few_values h.places any few.values;
  parts = all_in_last (FewIn (λ w. length w.parts) 64) Q f few_parts h.places any few.parts;
}

-- the open window changed
in_window_within : (Q : Place → Window → Type 0) (g : Window → Window) (h : House) → InWindow Q h
    → ((p : Place) (w : Window) → Q p w → length w.values ≤ 2048 → length (g w).values ≤ 2048)
    → ((p : Place) (w : Window) → Q p w → length w.parts ≤ 64 → length (g w).parts ≤ 64) → IsWithin h → IsWithin (in_window g h)
in_window_within Q g h any few_values few_parts few =
    in_place_within (λ p. Any (Q p) (last_of p.windows)) (λ p. record p { windows = in_last g p.windows }) h any
    (λ p q runs. runs)
    (λ p q all. all_in_last (λ w. length w.values ≤ 2048) (Q p) g (few_values p) p.windows q all)
    (λ p q all. all_in_last (λ w. length w.parts ≤ 64) (Q p) g (few_parts p) p.windows q all) few

asked_within : (b : Bool) (h : House) (n : Number) → AskedOf b h n → IsWithin h → IsWithin (with_number b n h)
asked_within true h n may few = in_window_within (λ p w. MayAskOf h p w n.key) (λ w. record w { numbers = w.numbers ++ n ∷ [] }) h may
    (λ p w q le. le) (λ p w q le. le) few
asked_within false h n may few = record {
  spans = few.spans;
  uses = few.uses;
  users = few.users;
  places = few.places;
  meters = few.meters;
  values = few.values;
  parts = few.parts;
}

pub kept_within : (h : House) (x : Said) → MayBeNext h x → IsWithin h → IsWithin (with_said x h)
kept_within h (begins label) may few = record {
  spans = few.spans;
  uses = few.uses;
  users = few.users;
  places = few.places;
  meters = few.meters;
  values = few.values;
  parts = few.parts;
}
kept_within h (uses u) may few = record {
  spans = few.spans;
  uses = (let long = length_push h.uses u in let lt = may.1 in omega arith);
  users = few.users;
  places = few.places;
  meters = few.meters;
  values = few.values;
  parts = few.parts;
}
kept_within h (allows a) may few = record {
  spans = few.spans;
  uses = few.uses;
  users = few.users;
  places = few.places;
  meters = few.meters;
  values = few.values;
  parts = few.parts;
}
kept_within h (spans n s) may few = record {
  spans = (let long = length_push h.spans s in let is = may.0 in let lt = may.1 in omega arith);
  uses = few.uses;
  users = few.users;
  places = few.places;
  meters = few.meters;
  values = few.values;
  parts = few.parts;
}
kept_within h (declares d) may few = record {
  spans = few.spans;
  uses = few.uses;
  users = few.users;
  places = few.places;
  meters = few.meters;
  values = few.values;
  parts = few.parts;
}
kept_within h (lives u) may few = record {
  spans = few.spans;
  uses = few.uses;
  users = (let long = length_push h.users u in let lt = may.1 in omega arith);
  places = few.places;
  meters = few.meters;
  values = few.values;
  parts = few.parts;
}
kept_within h (stands n p) may few = record {
  spans = few.spans;
  uses = few.uses;
  users = few.users;
  places = (let long = length_push h.places p in let is = may.0 in let lt = may.1 in omega arith);
  meters = all_push FewRuns h.places p few.meters (let none = ap length may.2 in omega arith);
  values = all_push (FewIn (λ w. length w.values) 2048) h.places p few.values (all_empty (λ w. length w.values ≤ 2048) p.windows may.3);
  parts = all_push (FewIn (λ w. length w.parts) 64) h.places p few.parts (all_empty (λ w. length w.parts ≤ 64) p.windows may.3);
}
kept_within h (counts n r) may few =
    in_place_within (λ p. (n ≡ length p.runs) × (n < 16)) (λ p. record p { runs = p.runs ++ r ∷ [] }) h may
    (λ p q runs. let long = length_push p.runs r in let is = q.0 in let lt = q.1 in omega arith) (λ p q all. all) (λ p q all. all) few
kept_within h (opens n) may few =
    in_place_within (λ p. All (λ w. w.span < n) (last_of p.windows)) (λ p. record p { windows = p.windows ++ opened n ∷ [] }) h may.0
    (λ p q runs. runs)
    (λ p q all. all_push (λ w. length w.values ≤ 2048) p.windows (opened n) all (omega arith))
    (λ p q all. all_push (λ w. length w.parts ≤ 64) p.windows (opened n) all (omega arith)) few
kept_within h (reads v) may few =
    in_window_within (λ p w. (length w.values < 2048) × ((r : Run) × (slice_get p.runs v.run ≡ Some r) × IsAt r v v.source))
    (λ w. record w { values = w.values ++ v ∷ [] }) h may.0
    (λ p w q le. let long = length_push w.values v in let lt = q.0 in omega arith) (λ p w q le. le) few
kept_within h (strikes x) may few =
    in_window_within (λ p w. x.run < length p.runs) (λ w. record w { struck = w.struck ++ x ∷ [] }) h may (λ p w q le. le) (λ p w q le. le) few
kept_within h (parts n x) may few =
    in_window_within (λ p w. (n ≡ w.span) × (length w.parts < 64)) (λ w. record w { parts = w.parts ++ x ∷ [] }) h may.0
    (λ p w q le. le) (λ p w q le. let long = length_push w.parts x in let lt = q.1 in omega arith) few
kept_within h (asks n) may few = asked_within (is_of_place n.key.word) h n may few
kept_within h totals may few = few
kept_within h closes may few = few

pub steps_within : (s : ℕ) (h : House) (lines : List (List ℕ)) (t : ℕ) (g : House) → Steps s h lines t g → IsWithin h → IsWithin g
steps_within s h [] t g steps few = subst (λ (x : House). IsWithin x) (sym steps.1) few
steps_within s h (line ∷ lines) t g steps few =
    let adds = steps.2.adds in
    steps_within steps.0 steps.1 lines t g steps.3
    (subst (λ (x : House). IsWithin x) (sym adds.with_it) (kept_within h adds.said adds.may few))
