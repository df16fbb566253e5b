-- What a place consumed in a period is the number that is defined.
use Rattle.std.proofs.Common.{arith, ◌≡◌, ◌&&◌, ◌+◌, ◌*◌, ◌≤◌, ℕ, List, [], ◌∷◌, true, map, Option, None, Some}
use Rattle.std.proofs.Common.{sym, ap, ◌∙◌, subst, if◌then◌else◌, is_some}
use Rattle.mbdc_audit.specs.Consumption.Order.{IsInOrder}
use Rattle.mbdc_audit.specs.declared.curve.Amount as amount_type
use Rattle.mbdc_audit.specs.declared.curve.Run as run_type
use Rattle.mbdc_audit.specs.declared.exact.Exact.{Exact}
use Rattle.mbdc_audit.specs.declared.house.Fact.TheVariants.{Factor}
use Rattle.mbdc_audit.specs.declared.house.Part as part_type
use Rattle.mbdc_audit.specs.declared.house.Place as place_type
use Rattle.mbdc_audit.specs.declared.house.Value as value_type
use Rattle.mbdc_audit.specs.declared.house.Window as window_type
use Rattle.mbdc_audit.specs.Amount.{counting, entries, entry_of, known}
use Rattle.mbdc_audit.specs.Grade.{grade_name}
use Rattle.mbdc_audit.specs.House.{House, Key, Value}
use Rattle.mbdc_audit.specs.Number.{in_unit}
use Rattle.mbdc_audit.specs.Published.{Share, amount_or_0, declared, exact, share, share_of, shown_of, worst}
use Rattle.mbdc_audit.specs.View.{known_in, place_of, run_of, window_of}
use Rattle.mbdc_audit.specs.Walk.{IsGraded, open_of, scale_in}
use Rattle.mbdc_audit.proofs.Shares.{share_of_part, share_same}
use Rattle.mbdc_audit.proofs.SumOf.{exact_is}

pub graded : {A : Type 0} (p : place_type.Place A) (w : window_type.Window A) (runs : List run_type.Run) (values : List value_type.Value) (a b : ℕ) (x : amount_type.Amount)
    → runs ≡ p.runs.items → values ≡ w.values.items → known_in w.values.items ≡ known (window_of w).values
    → IsInOrder (entries (place_of p).runs (known (window_of w).values)) → a ≤ b
    → (IsInOrder (map (entry_of (map run_of runs)) (counting (known_in values))) → a ≤ b → IsGraded (map run_of runs) (known_in values) a b x)
    → IsGraded (map run_of p.runs.items) (known (window_of w).values) a b x
graded p w runs values a b x e f same order le of =
    let one = subst (λ (rs : List run_type.Run). IsInOrder (map (entry_of (map run_of rs)) (counting (known_in values))) → a ≤ b → IsGraded (map run_of rs) (known_in values) a b x) e of in
    let two = subst (λ (vs : List value_type.Value). IsInOrder (map (entry_of (map run_of p.runs.items)) (counting (known_in vs))) → a ≤ b → IsGraded (map run_of p.runs.items) (known_in vs) a b x) f one in
    let three = subst (λ (vs : List Value). IsInOrder (map (entry_of (map run_of p.runs.items)) (counting vs)) → a ≤ b → IsGraded (map run_of p.runs.items) vs a b x) same two in
    three order le

abbrev part_at : ℕ → ℕ → amount_type.Amount → part_type.Part
part_at a b x = record { line = 0; from = a; to = b; user = None; amount = x }

pub no_number : {A : Type 0} (h : House) (p : place_type.Place A) (w : window_type.Window A) (k : Key) (x : amount_type.Amount)
    → IsGraded (map run_of p.runs.items) (known (window_of w).values) k.from k.to x → x.amount ≡ None
    → None ≡ shown_of h (open_of (place_of p) (window_of w)) k
no_number h p w k x g none =
    let e : share (place_of p) (window_of w) k.from k.to ≡ share_of_part p.weight (part_at k.from k.to x) = share_same p (window_of w) (part_at k.from k.to x) g in
    sym (ap (λ (s : Share). if is_some s.amount && true then exact h w.span p.used k.unit (s ∷ []) else None) e
    ∙ ap (λ (y : Option ℕ). if is_some y && true then exact h w.span p.used k.unit (share_of_part p.weight (part_at k.from k.to x) ∷ []) else None) none)

plus : (n m : ℕ) → n ≡ m → n ≡ 0 + m
plus n m e = omega (arith, e)

pub a_number : {A : Type 0} (h : House) (p : place_type.Place A) (w : window_type.Window A) (k : Key) (x : amount_type.Amount) (n one two weight : ℕ) (y : Exact)
    → IsGraded (map run_of p.runs.items) (known (window_of w).values) k.from k.to x → x.amount ≡ Some n → one ≡ n → two ≡ n → weight ≡ p.weight
    → Some y ≡ in_unit (one, two * weight) (scale_in h p.used k.unit) (declared h (Factor p.used) w.span)
    → Some y ≡ shown_of h (open_of (place_of p) (window_of w)) k
a_number h p w k x n one two weight y g some f t v exact_at =
    let e : share (place_of p) (window_of w) k.from k.to ≡ share_of_part p.weight (part_at k.from k.to x) = share_same p (window_of w) (part_at k.from k.to x) g in
    let s : Share = share_of_part p.weight (part_at k.from k.to x) in
    let amount : n ≡ amount_or_0 x.amount = ap amount_or_0 (sym some) in
    exact_at ∙ (exact_is h w.span p.used k.unit (s ∷ []) one (two * weight) (plus one (amount_or_0 x.amount) (f ∙ amount))
    (plus (two * weight) (amount_or_0 x.amount * p.weight) (ap (λ (m : ℕ). m * weight) (t ∙ amount) ∙ ap (λ (m : ℕ). amount_or_0 x.amount * m) v))
    ∙ sym (ap (λ (s : Share). if is_some s.amount && true then exact h w.span p.used k.unit (s ∷ []) else None) e
    ∙ ap (λ (z : Option ℕ). if is_some z && true then exact h w.span p.used k.unit (s ∷ []) else None) some))

pub a_mark : {A : Type 0} (p : place_type.Place A) (w : window_type.Window A) (k : Key) (x : amount_type.Amount)
    → IsGraded (map run_of p.runs.items) (known (window_of w).values) k.from k.to x
    → grade_name x.grade ∷ [] ≡ grade_name (worst (share_of (open_of (place_of p) (window_of w)) k)) ∷ []
a_mark p w k x g = ap (λ (s : Share). grade_name s.mark ∷ []) (sym (share_same p (window_of w) (part_at k.from k.to x) g))
