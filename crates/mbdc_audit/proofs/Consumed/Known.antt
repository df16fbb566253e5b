-- Where the curve is known, and that it is never negative.
use Rattle.std.proofs.Common.{◌≡◌, ◌≢◌, ℕ, zero, suc, ◌+◌, ◌-◌, ◌<◌, ◌≤◌, List, [], ◌∷◌, length, get_or, Option, None, Some, IsSome, refl, sym, ap, ◌∙◌, subst, arith}
use Rattle.std.specs.Prelude.{Any}
use Rattle.mbdc_audit.specs.declared.consumption.entry.Entry.{Entry}
use Rattle.mbdc_audit.specs.Consumption.Step.{total}
use Rattle.mbdc_audit.specs.Consumption.Order.{IsInOrder}
use Rattle.mbdc_audit.specs.Consumption.Curve.{passed, curve}
use Rattle.mbdc_audit.specs.Consumption.Period.{between, added, consumption, Rises}
use Rattle.mbdc_audit.specs.Consumption.Run.{IsSettled}
use Rattle.mbdc_audit.proofs.Consumed.Grown.{Ascends, end_of, ascends, end_later, total-one, total-cons, none_passed, passed_first, curve-nil, curve-within}
use Rattle.mbdc_audit.proofs.Consumed.Risen.{known, rising_curve}
use Rattle.mbdc_audit.proofs.Consumed.Turns.{step-exchange}

-- no entry is after the last one, and the last one is an entry
later_than : (a : Entry) (rest : List Entry) → Ascends a rest → (k : ℕ) (x : Entry) → k < length (a ∷ rest) → get_or (a ∷ rest) k x ≡ x
    → (a.moment ≤ x.moment) × (x.moment ≤ (end_of a rest).moment)
later_than a rest up zero x lt is =
    let end = end_later a rest up in
    subst (λ (y : Entry). (a.moment ≤ y.moment) × (y.moment ≤ (end_of a rest).moment)) is (omega arith, end)
later_than a [] up (suc k) x lt is = absurd (omega arith)
later_than a (b ∷ rest) up (suc k) x lt is = let more = later_than b rest up.1 k x (omega arith) is in (omega arith, omega arith)

end_among : (a : Entry) (rest : List Entry) (P : Entry → Type 0) → P (end_of a rest) → Any P (a ∷ rest)
end_among a [] P holds = (0, a, omega arith, refl, holds)
end_among a (b ∷ rest) P holds = let more = end_among b rest P holds in (suc more.0, more.1, omega arith, more.3, more.4)

some_value : (o : Option ℕ) → IsSome o → (x : ℕ) × (o ≡ Some x)
some_value None is = absurd (cc)
some_value (Some x) is = (x, refl)

known_between : (entries : List Entry) (t : ℕ) → IsInOrder entries → IsSome (curve entries t) → Any (λ e. e.moment ≤ t) entries × Any (λ e. t ≤ e.moment) entries
known_between [] t order is = let none = curve-nil t in let some = some_value (curve [] t) is in let value = some.1 in absurd (cc)
known_between (a ∷ rest) t order is =
    let some = some_value (curve (a ∷ rest) t) is in
    let k = known a rest t some.0 (ascends a rest order) some.1 in
    ((0, a, omega arith, refl, k.from), end_among a rest (λ e. t ≤ e.moment) k.within)

between_known : (entries : List Entry) (t : ℕ) → IsInOrder entries → Any (λ e. e.moment ≤ t) entries × Any (λ e. t ≤ e.moment) entries → IsSome (curve entries t)
between_known [] t order both = let lt = both.0.2 in absurd (omega arith)
between_known (a ∷ rest) t order both =
    let up = ascends a rest order in
    let first = later_than a rest up both.0.0 both.0.1 both.0.2 both.0.3 in
    let last = later_than a rest up both.1.0 both.1.1 both.1.2 both.1.3 in
    let low = both.0.4 in
    let high = both.1.4 in
    subst (λ (o : Option ℕ). IsSome o) (sym (curve-within a rest t up (omega arith) (omega arith))) refl

pub known_iff : (entries : List Entry) (t : ℕ) → IsInOrder entries
    → (IsSome (curve entries t) → Any (λ e. e.moment ≤ t) entries × Any (λ e. t ≤ e.moment) entries)
    × (Any (λ e. e.moment ≤ t) entries × Any (λ e. t ≤ e.moment) entries → IsSome (curve entries t))
known_iff entries t order = (known_between entries t order, between_known entries t order)

-- ---- no consumption is negative

at_values : (x y : Option ℕ) (m n : ℕ) → x ≡ Some m → y ≡ Some n → Rises x y → m ≤ n
at_values x y m n is is' up =
    let up' : Rises (Some m) y = subst (λ (o : Option ℕ). Rises o y) is up in
    subst (λ (o : Option ℕ). Rises (Some m) o) is' up'

pub never_falls : (entries : List Entry) (from to before after : ℕ) → IsInOrder entries → from ≤ to
    → curve entries from ≡ Some before → curve entries to ≡ Some after → before ≤ after
never_falls entries from to before after order le is is' =
    at_values (curve entries from) (curve entries to) before after is is' ((rising_curve entries order).rises from to le)

added_up : (x y : Option ℕ) (amount : ℕ) → Rises x y → between x y ≡ Some amount → added x (Some amount) ≡ y
added_up None y amount up is = absurd (cc)
added_up (Some m) None amount up is = absurd (cc)
added_up (Some m) (Some n) amount up is = let e : n - m ≡ amount = cc in let sums : m + amount ≡ n = omega arith in ap (λ (k : ℕ). Some k) sums

pub adds_up : (entries : List Entry) (from to amount : ℕ) → IsInOrder entries → from ≤ to
    → consumption entries from to ≡ Some amount → added (curve entries from) (Some amount) ≡ curve entries to
adds_up entries from to amount order le is = added_up (curve entries from) (curve entries to) amount ((rising_curve entries order).rises from to le) is

-- ---- settled entries

pub settled_last : (e : Entry) → IsSettled e []
settled_last e = total-one e

pub settled_later : (e next : Entry) (back : List Entry) → IsInOrder (e ∷ next ∷ back) → e.moment < next.moment → IsSettled e (next ∷ back)
settled_later e next back order later =
    ap (λ (l : List Entry). total (e ∷ l)) (none_passed e.moment next back (ascends e (next ∷ back) order).1 later) ∙ total-one e

pub settled_exchanged : (e next : Entry) (back : List Entry) → IsInOrder (e ∷ next ∷ back) → e.moment ≡ next.moment → e.meter ≢ next.meter
    → IsSettled next back → IsSettled e (next ∷ back)
settled_exchanged e next back order same other settled =
    ap (λ (l : List Entry). total (e ∷ l)) (passed_first e.moment next back (omega arith))
    ∙ total-cons e next (passed e.moment back)
    ∙ (λ i. step-exchange e next other i + total (next ∷ passed (same i) back))
    ∙ ap (λ (n : ℕ). 0 + n) settled
