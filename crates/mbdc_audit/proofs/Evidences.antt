-- Values of places by their uses.
use Rattle.std.proofs.Common.{◌≡◌, ◌↔◌, ℕ, List, map, true, refl, sym, ap, subst, Option, Some, None}
use Rattle.std.specs.Prelude.{All, IsSome, is_some, slice_get}
use Rattle.mbdc_audit.specs.House.{Run, Use, Window}
use Rattle.mbdc_audit.specs.Settled.{IsReadBy}
use Rattle.mbdc_audit.specs.Sound.{IsRead}
use Rattle.mbdc_audit.specs.View.{place_of}
use Rattle.mbdc_audit.specs.declared.house.Place as place_type
use Rattle.mbdc_audit.specs.declared.uses.Counted.{Counted}
use Rattle.mbdc_audit.proofs.Checks.{all_map, back}

some_of : (o : Option Use) → is_some o ≡ true → (u : Use) × (o ≡ Some u)
some_of None e = absurd cc
some_of (Some u) e = (u, refl)

pub read_by : (us : List Use) (used : ℕ) (rs runs : List Run) (q : Counted) (ws windows : List Window) → rs ≡ runs → windows ≡ ws
    → ((u : Use) → slice_get us used ≡ Some u → u.counts ≡ q)
    → ((u : Use) × (slice_get us used ≡ Some u) × All (IsRead runs u.counts) windows) ↔ (IsSome (slice_get us used) × All (IsRead rs q) ws)
read_by us used rs runs q ws windows e e' one = (
  λ r. (
    ap is_some r.1,
    subst (λ (k : List Run). All (IsRead k q) ws) (sym e) (subst (λ (l : List Window). All (IsRead runs q) l) e'
        (subst (λ (k : Counted). All (IsRead runs k) windows) (one r.0 r.1) r.2)),
  ),
  λ p. let u = some_of (slice_get us used) p.0 in (
    u.0,
    u.1,
    subst (λ (k : Counted). All (IsRead runs k) windows) (sym (one u.0 u.1))
        (subst (λ (l : List Window). All (IsRead runs q) l) (sym e') (subst (λ (k : List Run). All (IsRead k q) ws) e p.1)),
  ),
)

pub all_by : {A : Type 0} (us uses : List Use) (ps places : List (place_type.Place A)) → us ≡ uses → places ≡ ps
    → All (λ p. IsReadBy us (place_of p)) ps ↔ All (λ p. IsReadBy uses p) (map place_of places)
all_by {A} us uses ps places e e' = subst (λ (k : List Use). All (λ p. IsReadBy us (place_of p)) ps ↔ All (λ p. IsReadBy k p) (map place_of places)) e
    (subst (λ (l : List (place_type.Place A)). All (λ p. IsReadBy us (place_of p)) ps ↔ All (λ p. IsReadBy us p) (map place_of l)) (sym e')
    (back (all_map (λ p. IsReadBy us p) (λ p. place_of p) ps)))
