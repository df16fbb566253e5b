-- The values of a window that were checked.
use Rattle.std.proofs.Common.{◌≡◌, ◌↔◌, ◌<◌, ◌≤◌, ◌+◌, ◌-◌, ◌⊎◌, ◌++◌, ℕ, List, [], ◌∷◌, length, take, map, flat_map, get_or, refl, sym, ◌∙◌, ap, All, AllPairs}
use Rattle.std.proofs.Common.{Option, IfSome, slice_get, option_map}
use Rattle.std.proofs.lemmas.Option.{slice_get-map}
use Rattle.std.proofs.lemmas.List.{get_or_default, length-map}
use Rattle.mbdc_audit.specs.declared.curve.Run as run_type
use Rattle.mbdc_audit.specs.declared.house.Value.{Value}
use Rattle.mbdc_audit.specs.House.{End, Run, Span, Window}
use Rattle.mbdc_audit.specs.Sound.{AreNear, AreTimed, IsTimed, begin_at, end_at, ends_in}
use Rattle.mbdc_audit.specs.View.{run_of, seen_value, source_of}
use Rattle.mbdc_audit.specs.Walk.{AreInOrder}
use Rattle.mbdc_audit.proofs.Checks.{all_append, all_at, all_map, all_of, back, pairs_map, pairs_of, through, took}
use Rattle.mbdc_audit.proofs.Ends.{flat_more}
use Rattle.mbdc_audit.proofs.Ordered.{in_order_push}

pub flat_of : {X Y Z : Type 0} (g : Y → List Z) (f : X → Y) (xs : List X) → flat_map (λ x. g (f x)) xs ≡ flat_map g (map f xs)
flat_of g f [] = refl
flat_of {X} {Y} {Z} g f (x ∷ xs) = ap (λ (zs : List Z). g (f x) ++ zs) (flat_of g f xs)

pub values_at : (T : Value → Type 0) (N : End → Type 0) (f : Value → List End) (xs : List Value) (i : ℕ) (d : Value) → i < length xs
    → ((All T (take i xs) × AllPairs AreInOrder (take i xs) × All N (flat_map f (take i xs)))
    × (All N (f (get_or xs i d))
    × (T (get_or xs i d) × IfSome (slice_get (take i xs) (length (take i xs) - 1)) (λ v. AreInOrder v (get_or xs i d)))))
    ↔ (All T (take (i + 1) xs) × AllPairs AreInOrder (take (i + 1) xs) × All N (flat_map f (take (i + 1) xs)))
values_at T N f xs i d below =
    let x : Value = get_or xs i d in
    let is = get_or_default xs i d x below in
    let each = all_at T xs i d below in
    let order = through (in_order_push (take i xs) x) (pairs_of AreInOrder (sym (took xs i x below is))) in
    let near = through (back (all_append N (flat_map f (take i xs)) (f x))) (all_of N (flat_more f xs i x below is)) in (
      λ r. (each.1 (r.0.0, r.1.1.0), order.0 (r.0.1, r.1.1.1), near.0 (r.0.2, r.1.0)),
      λ q. let a = each.0 q.0 in let b = order.1 q.1 in let c = near.1 q.2 in ((a.0, b.0, c.0), (c.1, (a.1, b.1))),
    )

pub are_timed : (runs : List Run) (s : Span) (w : Window) (vs : List Value) → w.values ≡ map seen_value vs
    → (All (λ v. IsTimed runs (seen_value v)) vs × AllPairs AreInOrder vs
    × All (λ e. AreNear e s.from ⊎ AreNear e s.to) (flat_map (λ v. ends_in (source_of v)) vs)) ↔ AreTimed runs s w
are_timed runs s w vs is =
    let each = through (back (all_map (IsTimed runs) seen_value vs)) (all_of (IsTimed runs) (sym is)) in
    let order = through (back (pairs_map (λ a b. (a.moment < b.moment) ⊎ ((a.moment ≡ b.moment) × (a.run ≤ b.run))) seen_value vs))
    (pairs_of (λ a b. (a.moment < b.moment) ⊎ ((a.moment ≡ b.moment) × (a.run ≤ b.run))) (sym is)) in
    let near = all_of (λ e. AreNear e s.from ⊎ AreNear e s.to) (flat_of (λ v. ends_in v.source) seen_value vs
    ∙ ap (λ us. flat_map (λ v. ends_in v.source) us) (sym is)) in (
      λ r. record { each = each.0 r.0; order = order.0 r.1; near = near.0 r.2 },
      λ r. (each.1 r.each, order.1 r.order, near.1 r.near),
    )

pub from_at : (runs : List run_type.Run) (t : ℕ)
    → begin_at (option_map run_of (slice_get runs 0)) t ≡ begin_at (slice_get (map run_of runs) 0) t
from_at runs t = ap (λ (o : Option Run). begin_at o t) (sym (slice_get-map run_of runs 0))

pub to_at : (runs : List run_type.Run) (t : ℕ) → end_at (option_map run_of (slice_get runs (length runs - 1))) t
    ≡ end_at (slice_get (map run_of runs) (length (map run_of runs) - 1)) t
to_at runs t =
    ap (λ (o : Option Run). end_at o t) (sym (slice_get-map run_of runs (length runs - 1)))
    ∙ ap (λ (n : ℕ). end_at (slice_get (map run_of runs) (n - 1)) t) (sym (length-map runs run_of))
