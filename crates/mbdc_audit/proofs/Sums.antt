-- What a place's parts sum to is the place's amount.
use Rattle.std.proofs.Common.{arith, ◌≡◌, ℕ, List, [], ◌∷◌, Bool, true, false, map, filter, Option, None, Some}
use Rattle.std.proofs.lemmas.Bool.{and_parts}
use Rattle.std.proofs.Common.{refl, sym, ap, ◌∙◌, if◌then◌else◌, is_some}
use Rattle.std.proofs.lemmas.List.Sums.{sum_by-cons}
use Rattle.mbdc_audit.specs.Consumption.Order.{IsInOrder}
use Rattle.mbdc_audit.specs.Consumption.Period.{added, sum_of}
use Rattle.mbdc_audit.specs.House.{Part, Place, Window}
use Rattle.mbdc_audit.specs.Amount.{amount, entries, known, mark}
use Rattle.mbdc_audit.specs.Sound.{Tile}
use Rattle.mbdc_audit.specs.Published.{Open, Share, amount_or_0, house, is_held, is_whole, plain, share, shares_of}
use Rattle.mbdc_audit.specs.Grade.{has_number}
use Rattle.mbdc_audit.proofs.Parts.{add_up}

all_held : (p : Place) (parts : List Part) → filter (is_held house p) parts ≡ parts
all_held p [] = refl
all_held p (x ∷ parts) = ap (λ (ys : List Part). x ∷ ys) (all_held p parts)

given : (b : Bool) (a : Option ℕ) → is_some (if b then a else None) ≡ true → a ≡ Some (amount_or_0 (if b then a else None))
given true None e = grind arith
given true (Some n) e = refl
given false a e = grind arith

pub total : (p : Place) (w : Window) (parts : List Part) → is_whole (map (λ x. share p w x.from x.to) parts) ≡ true
    → sum_of (map (λ x. amount p.runs (known w.values) x.from x.to) parts)
    ≡ Some (plain (map (λ x. share p w x.from x.to) parts))
total p w [] e = refl
total p w (x ∷ parts) e =
    let a : Option ℕ = amount p.runs (known w.values) x.from x.to in
    let b : Bool = has_number (mark p.runs (known w.values) x.from x.to) in
    let one : a ≡ Some (amount_or_0 (if b then a else None)) = given b a (and_parts _ _ e).0 in
    let more = total p w parts (and_parts _ _ e).1 in
    ap (λ (y : Option ℕ). added y (sum_of (map (λ x. amount p.runs (known w.values) x.from x.to) parts))) one
    ∙ (ap (λ (y : Option ℕ). added (Some (amount_or_0 (if b then a else None))) y) more
    ∙ ap (λ (n : ℕ). Some n) (sym (sum_by-cons (λ (s : Share). amount_or_0 s.amount) (share p w x.from x.to)
    (map (λ x. share p w x.from x.to) parts))))

pub of_place : (o : Open) (from to : ℕ) (first : Part) (later : List Part) → o.window.parts ≡ first ∷ later
    → Tile from to (first ∷ later) → IsInOrder (entries o.place.runs (known o.window.values))
    → is_whole (shares_of house o) ≡ true
    → amount o.place.runs (known o.window.values) from to ≡ Some (plain (shares_of house o))
of_place o from to first later is tile order whole =
    let held : shares_of house o ≡ map (λ x. share o.place o.window x.from x.to) (first ∷ later) =
    ap (λ (ys : List Part). map (λ x. share o.place o.window x.from x.to) ys) (all_held o.place o.window.parts ∙ is) in
    sym (add_up (entries o.place.runs (known o.window.values)) order from to first later tile)
    ∙ (total o.place o.window (first ∷ later) (sym (ap is_whole held) ∙ whole)
    ∙ ap (λ (ys : List Share). Some (plain ys)) (sym held))
