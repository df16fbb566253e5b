-- Two windows that agree on what decides a moment tile.
use Rattle.std.proofs.Common.{arith, ◌≡◌, ◌≤◌, ◌<◌, ◌++◌, ℕ, List, [], ◌∷◌, Option, sym, ap, subst, ◌∙◌}
use Rattle.mbdc_audit.specs.declared.consumption.entry.Entry.{Entry}
use Rattle.mbdc_audit.specs.Consumption.Curve.{curve}
use Rattle.mbdc_audit.specs.Consumption.Order.{IsInOrder}
use Rattle.mbdc_audit.specs.Consumption.Period.{added, consumption}
use Rattle.mbdc_audit.proofs.Consumed.Local.{consumption_is_local}
use Rattle.mbdc_audit.proofs.Consumed.Rising.{two_periods}
use Rattle.mbdc_audit.proofs.Consumed.Risen.{rising_curve}

below : (a b : ℕ) → a < b → a ≤ b
below a b lt = omega arith

apart : (a b : ℕ) → a < b → a ≡ b → ⊥
apart a b lt e = omega arith

-- a list that has the entries of a window, before and after which others stand
like : (xs f g : List Entry) (a : Entry) (m : List Entry) (n : Entry) (from to : ℕ) → IsInOrder xs
    → xs ≡ f ++ (a ∷ (m ++ (n ∷ g))) → a.moment ≤ from → from ≤ to → to < n.moment
    → consumption xs from to ≡ consumption (a ∷ (m ++ (n ∷ []))) from to
like xs f g a m n from to order is le le' lt = ap (λ (ys : List Entry). consumption ys from to) is
    ∙ consumption_is_local f a m n g from to (subst (λ (ys : List Entry). IsInOrder ys) is order) le le' (below to n.moment lt)
    (λ e. absurd (apart to n.moment lt e))

pub tile : (all one other : List Entry) (f f' g g' p p' q q' : List Entry) (a n d e : Entry) (m k : List Entry)
    (from middle to : ℕ) → IsInOrder all → IsInOrder one → IsInOrder other
    → all ≡ f ++ (a ∷ (m ++ (n ∷ g))) → one ≡ f' ++ (a ∷ (m ++ (n ∷ g')))
    → all ≡ p ++ (d ∷ (k ++ (e ∷ q))) → other ≡ p' ++ (d ∷ (k ++ (e ∷ q')))
    → a.moment ≤ from → from ≤ middle → middle < n.moment → d.moment ≤ middle → middle ≤ to → to < e.moment
    → added (consumption one from middle) (consumption other middle to) ≡ consumption all from to
tile all one other f f' g g' p p' q q' a n d e m k from middle to order order' order'' is is' at at' le le' lt lo lo' lt' =
    ap (λ (x : Option ℕ). added x (consumption other middle to))
    (like one f' g' a m n from middle order' is' le le' lt ∙ sym (like all f g a m n from middle order is le le' lt))
    ∙ (ap (λ (x : Option ℕ). added (consumption all from middle) x)
    (like other p' q' d k e middle to order'' at' lo lo' lt' ∙ sym (like all p q d k e middle to order at lo lo' lt'))
    ∙ two_periods (curve all) (rising_curve all order) from middle to le' lo')
