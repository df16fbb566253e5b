-- Which entries a consumption depends on.
use Rattle.std.proofs.Common.{◌≡◌, ℕ, ◌+◌, ◌-◌, ◌<◌, ◌≤◌, ⊎_elim, List, [], ◌∷◌, ◌++◌, Some, refl, sym, ap, ◌∙◌, subst, append_assoc, zero-add, arith}
use Rattle.std.proofs.lemmas.Bool.{cases_lt}
use Rattle.mbdc_audit.specs.declared.consumption.entry.Entry.{Entry}
use Rattle.mbdc_audit.specs.Consumption.Step.{step, total}
use Rattle.mbdc_audit.specs.Consumption.Order.{IsInOrder}
use Rattle.mbdc_audit.specs.Consumption.Curve.{passed, curve}
use Rattle.mbdc_audit.specs.Consumption.Period.{between, consumption}
use Rattle.mbdc_audit.specs.Consumption.Run.{IsSettled}
use Rattle.mbdc_audit.proofs.Consumed.Grown.{Ascends, end_of, grown, ascends, end_later, total-one, total-cons, none_passed, passed_first, curve-within}
use Rattle.mbdc_audit.proofs.Consumed.Risen.{share-zero, grown-before, grown-past}

-- ---- lists that are joined

pub total-append : (a : Entry) (front : List Entry) (m : Entry) (back : List Entry)
    → total (a ∷ (front ++ (m ∷ back))) ≡ total (a ∷ (front ++ (m ∷ []))) + total (m ∷ back)
total-append a [] m back =
    let whole = total-cons a m back in
    let front = total-cons a m [] in
    let one = total-one m in
    omega (arith, whole, front, one)
total-append a (b ∷ front) m back =
    let whole = total-cons a b (front ++ (m ∷ back)) in
    let part = total-cons a b (front ++ (m ∷ [])) in
    let rest = total-append b front m back in
    omega (arith, whole, part, rest)

pub end_of-append : (a : Entry) (front : List Entry) (m : Entry) (back : List Entry) → end_of a (front ++ (m ∷ back)) ≡ end_of m back
end_of-append a [] m back = refl
end_of-append a (b ∷ front) m back = end_of-append b front m back

pub ascends_to : (a : Entry) (front : List Entry) (m : Entry) (back : List Entry) → Ascends a (front ++ (m ∷ back)) → a.moment ≤ m.moment
ascends_to a [] m back up = up.0
ascends_to a (b ∷ front) m back up = let le = ascends_to b front m back up.1 in omega arith

pub ascends_behind : (a : Entry) (front : List Entry) (m : Entry) (back : List Entry) → Ascends a (front ++ (m ∷ back)) → Ascends m back
ascends_behind a [] m back up = up.1
ascends_behind a (b ∷ front) m back up = ascends_behind b front m back up.1

pub ascends_front : (a : Entry) (front back : List Entry) → Ascends a (front ++ back) → Ascends a front
ascends_front a [] back up = tt
ascends_front a (b ∷ front) back up = (up.0, ascends_front b front back up.1)

pub ascends_end : (a : Entry) (front back : List Entry) → Ascends a (front ++ back) → Ascends (end_of a front) back
ascends_end a [] back up = up
ascends_end a (b ∷ front) back up = ascends_end b front back up.1

-- ---- what stands before an entry, and behind one

pub grown-append_front : (a : Entry) (front : List Entry) (m : Entry) (back : List Entry) (t : ℕ) → Ascends a (front ++ (m ∷ back)) → m.moment ≤ t
    → grown a (front ++ (m ∷ back)) t ≡ total (a ∷ (front ++ (m ∷ []))) + grown m back t
grown-append_front a [] m back t up le =
    let past = grown-past a m back t le in
    let front = total-cons a m [] in
    let one = total-one m in
    omega (arith, past, front, one)
grown-append_front a (b ∷ front) m back t up le =
    let to = ascends_to b front m back up.1 in
    let past = grown-past a b (front ++ (m ∷ back)) t (omega arith) in
    let part = total-cons a b (front ++ (m ∷ [])) in
    let rest = grown-append_front b front m back t up.1 le in
    omega (arith, past, part, rest)

-- at an entry's own moment only those of that moment count
pub grown-here : (a : Entry) (rest : List Entry) (t : ℕ) → Ascends a rest → t ≡ a.moment → grown a rest t ≡ total (a ∷ passed t rest)
grown-here a [] t up here = sym (total-one a)
grown-here a (b ∷ rest) t up here = ⊎_elim
    (λ (before : t < b.moment).
    grown-before a b rest t before ∙ share-zero a b t here ∙ sym (total-one a)
    ∙ ap (λ (l : List Entry). total (a ∷ l)) (sym (none_passed t b rest up.1 before)))
    (λ (past : b.moment ≤ t).
    grown-past a b rest t past ∙ ap (λ (n : ℕ). step a b + n) (grown-here b rest t up.1 (omega arith))
    ∙ sym (total-cons a b (passed t rest))
    ∙ ap (λ (l : List Entry). total (a ∷ l)) (sym (passed_first t b rest past)))
    (cases_lt t b.moment)

-- at the last entry's moment all count
pub grown-end : (a : Entry) (rest : List Entry) → Ascends a rest → grown a rest (end_of a rest).moment ≡ total (a ∷ rest)
grown-end a [] up = sym (total-one a)
grown-end a (b ∷ rest) up =
    grown-past a b rest (end_of b rest).moment (end_later b rest up.1)
    ∙ ap (λ (n : ℕ). step a b + n) (grown-end b rest up.1)
    ∙ sym (total-cons a b rest)

pub grown-append_back : (a : Entry) (rest back : List Entry) (t : ℕ) → Ascends a (rest ++ back) → a.moment ≤ t → t ≤ (end_of a rest).moment
    → (t ≡ (end_of a rest).moment → IsSettled (end_of a rest) back) → grown a (rest ++ back) t ≡ grown a rest t
grown-append_back a [] back t up from within settled =
    let here : t ≡ a.moment = omega arith in
    grown-here a back t up here ∙ ap (λ (u : ℕ). total (a ∷ passed u back)) here ∙ settled here
grown-append_back a (b ∷ rest) back t up from within settled = ⊎_elim
    (λ (before : t < b.moment). grown-before a b (rest ++ back) t before ∙ sym (grown-before a b rest t before))
    (λ (past : b.moment ≤ t).
    grown-past a b (rest ++ back) t past
    ∙ ap (λ (n : ℕ). step a b + n) (grown-append_back b rest back t up.1 past within settled)
    ∙ sym (grown-past a b rest t past))
    (cases_lt t b.moment)

-- ---- the curve and the consumption

-- what stands before an entry that is passed raises the curve by a fixed sum
pub curve-append_front : (front : List Entry) (m : Entry) (back : List Entry) (t : ℕ) → IsInOrder (front ++ (m ∷ back)) → m.moment ≤ t → t ≤ (end_of m back).moment
    → curve (front ++ (m ∷ back)) t ≡ Some (total (front ++ (m ∷ [])) + grown m back t)
curve-append_front [] m back t order from within =
    curve-within m back t (ascends m back order) from within
    ∙ ap (λ (n : ℕ). Some n) (sym (ap (λ (n : ℕ). n + grown m back t) (total-one m) ∙ zero-add (grown m back t)))
curve-append_front (a ∷ front) m back t order from within =
    let up = ascends a (front ++ (m ∷ back)) order in
    let to = ascends_to a front m back up in
    let end = end_of-append a front m back in
    let within' : t ≤ (end_of a (front ++ (m ∷ back))).moment = subst (λ (e : Entry). t ≤ e.moment) (sym end) within in
    curve-within a (front ++ (m ∷ back)) t up (omega arith) within'
    ∙ ap (λ (n : ℕ). Some n) (grown-append_front a front m back t up from)

pub ascends_in : (front : List Entry) (m : Entry) (back : List Entry) → IsInOrder (front ++ (m ∷ back)) → Ascends m back
ascends_in [] m back order = ascends m back order
ascends_in (a ∷ front) m back order = ascends_behind a front m back (ascends a (front ++ (m ∷ back)) order)

end_of_front : (a : Entry) (rest back : List Entry) → Ascends a (rest ++ back) → (end_of a rest).moment ≤ (end_of a (rest ++ back)).moment
end_of_front a [] back up = end_later a back up
end_of_front a (b ∷ rest) back up = end_of_front b rest back up.1

-- the amount grown in a window is all that a consumption within it depends on
pub consumption-in : (front : List Entry) (m : Entry) (middle back : List Entry) (from to : ℕ) → IsInOrder (front ++ (m ∷ (middle ++ back)))
    → m.moment ≤ from → from ≤ to → to ≤ (end_of m middle).moment → (to ≡ (end_of m middle).moment → IsSettled (end_of m middle) back)
    → consumption (front ++ (m ∷ (middle ++ back))) from to ≡ Some (grown m middle to - grown m middle from)
consumption-in front m middle back from to order low le high settled =
    let up = ascends_in front m (middle ++ back) order in
    let end = end_of_front m middle back up in
    let sum = total (front ++ (m ∷ [])) in
    let first : curve (front ++ (m ∷ (middle ++ back))) from ≡ Some (sum + grown m middle from) =
    curve-append_front front m (middle ++ back) from order low (omega arith)
    ∙ ap (λ (n : ℕ). Some (sum + n)) (grown-append_back m middle back from up low (omega arith) (λ here. settled (omega arith))) in
    let last : curve (front ++ (m ∷ (middle ++ back))) to ≡ Some (sum + grown m middle to) =
    curve-append_front front m (middle ++ back) to order (omega arith) (omega arith)
    ∙ ap (λ (n : ℕ). Some (sum + n)) (grown-append_back m middle back to up (omega arith) high settled) in
    let amount : (sum + grown m middle to) - (sum + grown m middle from) ≡ grown m middle to - grown m middle from = omega arith in
    (λ i. between (first i) (last i)) ∙ ap (λ (n : ℕ). Some n) amount

consumption-window : (m : Entry) (middle : List Entry) (from to : ℕ) → Ascends m middle → m.moment ≤ from → from ≤ to → to ≤ (end_of m middle).moment
    → consumption (m ∷ middle) from to ≡ Some (grown m middle to - grown m middle from)
consumption-window m middle from to up low le high =
    let first = curve-within m middle from up low (omega arith) in
    let last = curve-within m middle to up (omega arith) high in
    λ i. between (first i) (last i)

-- only the entries of a window count: any that begins at or before the period, and ends at or after it
pub consumption_is_local : (front : List Entry) (first : Entry) (middle : List Entry) (last : Entry) (back : List Entry) (from to : ℕ)
    → IsInOrder (front ++ (first ∷ (middle ++ (last ∷ back))))
    → first.moment ≤ from → from ≤ to → to ≤ last.moment → (to ≡ last.moment → IsSettled last back)
    → consumption (front ++ (first ∷ (middle ++ (last ∷ back)))) from to ≡ consumption (first ∷ (middle ++ (last ∷ []))) from to
consumption_is_local front first middle last back from to order low le high settled =
    let window = middle ++ (last ∷ []) in
    let lists : window ++ back ≡ middle ++ (last ∷ back) = append_assoc middle (last ∷ []) back in
    let whole = λ (l : List Entry). front ++ (first ∷ l) in
    let order' : IsInOrder (front ++ (first ∷ (window ++ back))) = subst (λ (l : List Entry). IsInOrder (front ++ (first ∷ l))) (sym lists) order in
    let end : end_of first window ≡ last = end_of-append first middle last [] in
    let high' : to ≤ (end_of first window).moment = subst (λ (e : Entry). to ≤ e.moment) (sym end) high in
    let settled' : to ≡ (end_of first window).moment → IsSettled (end_of first window) back =
    subst (λ (e : Entry). to ≡ e.moment → IsSettled e back) (sym end) settled in
    let up = ascends_front first window back (ascends_in front first (window ++ back) order') in
    ap (λ (l : List Entry). consumption (front ++ (first ∷ l)) from to) (sym lists)
    ∙ consumption-in front first window back from to order' low le high' settled'
    ∙ sym (consumption-window first window from to up low le high')
