-- Another value in the place of one.
use Rattle.std.proofs.Common.{◌≡◌, ℕ, ◌+◌, ◌-◌, ◌<◌, ◌≤◌, ◌⊎◌, inl, inr, ⊎_elim, List, [], ◌∷◌, ◌++◌, Option, None, Some, refl, sym, ap, ◌∙◌, subst, arith}
use Rattle.std.proofs.lemmas.Bool.{cases_lt}
use Rattle.mbdc_audit.specs.declared.consumption.entry.Entry.{Entry}
use Rattle.mbdc_audit.specs.Consumption.Step.{step}
use Rattle.mbdc_audit.specs.Consumption.Order.{IsInOrder}
use Rattle.mbdc_audit.specs.Consumption.Curve.{curve}
use Rattle.mbdc_audit.specs.Consumption.Period.{between, consumption, DifferByAtMost}
use Rattle.mbdc_audit.specs.Consumption.Run.{valued}
use Rattle.mbdc_audit.proofs.Consumed.Grown.{Ascends, ascends, end_of, grown, curve-after, curve-before, curve-within}
use Rattle.mbdc_audit.proofs.Consumed.Local.{end_of-append}
use Rattle.mbdc_audit.proofs.Consumed.Risen.{grown-before, grown-past, grown_rises, share-le-step}
use Rattle.mbdc_audit.proofs.Consumed.Turns.{step-rising}

-- the same, or both between a sum and the sum with a difference
abbrev IsNear : ℕ → ℕ → ℕ → ℕ → Type 0
IsNear low d m n = (m ≡ n) ⊎ ((low ≤ m) × ((m ≤ low + d) × ((low ≤ n) × (n ≤ low + d))))

near-more : (low d m n k : ℕ) → IsNear low d m n → IsNear (k + low) d (k + m) (k + n)
near-more low d m n k = ⊎_elim
    (λ (same : m ≡ n). inl (ap (λ (x : ℕ). k + x) same))
    (λ (band : (low ≤ m) × ((m ≤ low + d) × ((low ≤ n) × (n ≤ low + d)))).
    inr (omega (arith, band), (omega (arith, band), (omega (arith, band), omega (arith, band)))))

-- two differences of near sums
near-differences : (low d m n m' n' : ℕ) → IsNear low d m n → IsNear low d m' n' → m ≤ m' → n ≤ n' → (m' - m ≤ (n' - n) + d) × (n' - n ≤ (m' - m) + d)
near-differences low d m n m' n' near near' up up' = ⊎_elim
    (λ (same : m ≡ n). ⊎_elim
    (λ (same' : m' ≡ n'). (omega (arith, same, same'), omega (arith, same, same')))
    (λ (band : (low ≤ m') × ((m' ≤ low + d) × ((low ≤ n') × (n' ≤ low + d)))). (omega (arith, same, band), omega (arith, same, band)))
    near')
    (λ (band : (low ≤ m) × ((m ≤ low + d) × ((low ≤ n) × (n ≤ low + d)))). ⊎_elim
    (λ (same' : m' ≡ n'). (omega (arith, same', band, up, up'), omega (arith, same', band, up, up')))
    (λ (band' : (low ≤ m') × ((m' ≤ low + d) × ((low ≤ n') × (n' ≤ low + d)))). (omega (arith, band, band', up, up'), omega (arith, band, band', up, up')))
    near')
    near

near_next : (low d : ℕ) (a b : Entry) (rest rest' : List Entry) (t : ℕ) → IsNear low d (grown b rest t) (grown b rest' t)
    → IsNear (step a b + low) d (grown a (b ∷ rest) t) (grown a (b ∷ rest') t)
near_next low d a b rest rest' t near = ⊎_elim
    (λ (before : t < b.moment). inl (grown-before a b rest t before ∙ sym (grown-before a b rest' t before)))
    (λ (past : b.moment ≤ t).
    subst (λ (m : ℕ). IsNear (step a b + low) d m (grown a (b ∷ rest') t)) (sym (grown-past a b rest t past))
    (subst (λ (n : ℕ). IsNear (step a b + low) d (step a b + grown b rest t) n) (sym (grown-past a b rest' t past))
    (near-more low d (grown b rest t) (grown b rest' t) (step a b) near)))
    (cases_lt t b.moment)

-- ---- near curves have near differences

module _ (low d : ℕ) (a : Entry) (rest rest' : List Entry) (from to : ℕ) (up : Ascends a rest) (up' : Ascends a rest')
    (end : (end_of a rest).moment ≡ (end_of a rest').moment) (near : (t : ℕ) → IsNear low d (grown a rest t) (grown a rest' t)) where
  none_before : curve (a ∷ rest) from ≡ None → curve (a ∷ rest') from ≡ None → DifferByAtMost d (consumption (a ∷ rest) from to) (consumption (a ∷ rest') from to)
  none_before none none' =
      subst (λ (o : Option ℕ). DifferByAtMost d (between o (curve (a ∷ rest) to)) (consumption (a ∷ rest') from to)) (sym none)
      (subst (λ (o : Option ℕ). DifferByAtMost d None (between o (curve (a ∷ rest') to))) (sym none') tt)

  all_known : (m n : ℕ) (e e' : Option ℕ) → curve (a ∷ rest) from ≡ Some m → curve (a ∷ rest') from ≡ Some n → curve (a ∷ rest) to ≡ e → curve (a ∷ rest') to ≡ e'
      → DifferByAtMost d (between (Some m) e) (between (Some n) e') → DifferByAtMost d (consumption (a ∷ rest) from to) (consumption (a ∷ rest') from to)
  all_known m n e e' is is' ends ends' holds =
      let first : consumption (a ∷ rest) from to ≡ between (Some m) e = λ i. between (is i) (ends i) in
      let second : consumption (a ∷ rest') from to ≡ between (Some n) e' = λ i. between (is' i) (ends' i) in
      subst (λ (o : Option ℕ). DifferByAtMost d o (consumption (a ∷ rest') from to)) (sym first)
      (subst (λ (o : Option ℕ). DifferByAtMost d (between (Some m) e) o) (sym second) holds)

  pub differ : from ≤ to → DifferByAtMost d (consumption (a ∷ rest) from to) (consumption (a ∷ rest') from to)
  differ le = ⊎_elim
      (λ (early : from < a.moment). none_before (curve-before a rest from up early) (curve-before a rest' from up' early))
      (λ (since : a.moment ≤ from). ⊎_elim
      (λ (late : (end_of a rest).moment < from). none_before (curve-after a rest from up late) (curve-after a rest' from up' (omega arith)))
      (λ (within : from ≤ (end_of a rest).moment).
      let m = curve-within a rest from up since within in
      let n = curve-within a rest' from up' since (omega arith) in
      ⊎_elim
      (λ (late : (end_of a rest).moment < to). all_known (grown a rest from) (grown a rest' from) None None m n (curve-after a rest to up late) (curve-after a rest' to up' (omega arith)) tt)
      (λ (within' : to ≤ (end_of a rest).moment).
      all_known (grown a rest from) (grown a rest' from) (Some (grown a rest to)) (Some (grown a rest' to)) m n
      (curve-within a rest to up (omega arith) within') (curve-within a rest' to up' (omega arith) (omega arith))
      (near-differences low d (grown a rest from) (grown a rest' from) (grown a rest to) (grown a rest' to) (near from) (near to)
      (grown_rises a rest from to up since le) (grown_rises a rest' from to up' since le)))
      (cases_lt (end_of a rest).moment to))
      (cases_lt (end_of a rest).moment from))
      (cases_lt from a.moment)

-- ---- a value between its neighbours' in the place of another

module _ (v x y : Entry) (back : List Entry) (value : ℕ) (same : v.meter ≡ x.meter) (same' : x.meter ≡ y.meter)
    (low : v.value ≤ x.value) (high : x.value ≤ y.value) (low' : v.value ≤ value) (high' : value ≤ y.value) where
  abbrev d : ℕ
  d = y.value - v.value

  abbrev z : Entry
  z = valued value x

  -- between the neighbours
  grown-first : (t : ℕ) → Ascends v (x ∷ (y ∷ back)) → IsNear 0 d (grown v (x ∷ (y ∷ back)) t) (grown v (z ∷ (y ∷ back)) t)
  grown-first t up =
      let into = step-rising v x same low in
      let out = step-rising x y same' high in
      let into' = step-rising v z same low' in
      let out' = step-rising z y same' high' in
      ⊎_elim
      (λ (before : t < x.moment).
      let m = grown-before v x (y ∷ back) t before in
      let n = grown-before v z (y ∷ back) t before in
      let part = share-le-step v x t (omega arith) in
      let part' = share-le-step v z t (omega arith) in
      inr (omega arith, (omega (arith, m, part, into), (omega arith, omega (arith, n, part', into')))))
      (λ (past : x.moment ≤ t).
      let m = grown-past v x (y ∷ back) t past in
      let n = grown-past v z (y ∷ back) t past in
      ⊎_elim
      (λ (before : t < y.moment).
      let m' = grown-before x y back t before in
      let n' = grown-before z y back t before in
      let part = share-le-step x y t (omega arith) in
      let part' = share-le-step z y t (omega arith) in
      inr (omega arith, (omega (arith, m, m', part, into, out), (omega arith, omega (arith, n, n', part', into', out')))))
      (λ (past' : y.moment ≤ t).
      let m' = grown-past x y back t past' in
      let n' = grown-past z y back t past' in
      inl (omega (arith, m, m', n, n', into, out, into', out')))
      (cases_lt t y.moment))
      (cases_lt t x.moment)

  -- what was consumed before the entry before it
  abbrev low_of : Entry → List Entry → ℕ
  low_of a [] = step a v + 0
  low_of a (b ∷ front) = step a b + low_of b front

  grown-near : (a : Entry) (front : List Entry) (t : ℕ) → Ascends a (front ++ (v ∷ (x ∷ (y ∷ back))))
      → IsNear (low_of a front) d (grown a (front ++ (v ∷ (x ∷ (y ∷ back)))) t) (grown a (front ++ (v ∷ (z ∷ (y ∷ back)))) t)
  grown-near a [] t up = near_next 0 d a v (x ∷ (y ∷ back)) (z ∷ (y ∷ back)) t (grown-first t up.1)
  grown-near a (b ∷ front) t up = near_next (low_of b front) d a b (front ++ (v ∷ (x ∷ (y ∷ back)))) (front ++ (v ∷ (z ∷ (y ∷ back)))) t (grown-near b front t up.1)

  other_ascends : (a : Entry) (front : List Entry) → Ascends a (front ++ (v ∷ (x ∷ (y ∷ back)))) → Ascends a (front ++ (v ∷ (z ∷ (y ∷ back))))
  other_ascends a [] up = up
  other_ascends a (b ∷ front) up = (up.0, other_ascends b front up.1)

  pub other_value : (front : List Entry) (from to : ℕ) → IsInOrder (front ++ (v ∷ (x ∷ (y ∷ back)))) → from ≤ to
      → DifferByAtMost d (consumption (front ++ (v ∷ (x ∷ (y ∷ back)))) from to) (consumption (front ++ (v ∷ (z ∷ (y ∷ back)))) from to)
  other_value [] from to order le =
      let up = ascends v (x ∷ (y ∷ back)) order in
      differ 0 d v (x ∷ (y ∷ back)) (z ∷ (y ∷ back)) from to up up refl (λ t. grown-first t up) le
  other_value (a ∷ front) from to order le =
      let up = ascends a (front ++ (v ∷ (x ∷ (y ∷ back)))) order in
      let end = end_of-append a front v (x ∷ (y ∷ back)) ∙ sym (end_of-append a front v (z ∷ (y ∷ back))) in
      differ (low_of a front) d a (front ++ (v ∷ (x ∷ (y ∷ back)))) (front ++ (v ∷ (z ∷ (y ∷ back)))) from to up (other_ascends a front up)
      (ap (λ (e : Entry). e.moment) end) (λ t. grown-near a front t up) le
