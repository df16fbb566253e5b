-- What a value is by itself.
use Rattle.std.proofs.Common.{◌≡◌, ℕ, zero, suc, List, [], ◌∷◌, map, sym, ap, ◌∙◌, subst, Some}
use Rattle.std.specs.Prelude.{slice_get}
use Rattle.mbdc_audit.specs.House.{Run}
use Rattle.mbdc_audit.specs.View.{run_of}
use Rattle.mbdc_audit.specs.Walk.{RestsOn}
use Rattle.mbdc_audit.specs.declared.curve.Run as run_type
use Rattle.mbdc_audit.specs.declared.house.Value as value_type
use Rattle.mbdc_audit.specs.declared.uses.Counted.{Counted}

get_map : (rs : List run_type.Run) (n : ℕ) (r : run_type.Run) → slice_get rs n ≡ Some r → slice_get (map run_of rs) n ≡ Some (run_of r)
get_map [] n r e = absurd cc
get_map (x ∷ rs) zero r e = let same : x ≡ r = cc in ap (λ (y : run_type.Run). Some (run_of y)) same
get_map (x ∷ rs) (suc n) r e = get_map rs n r e

one_of_some : (x y : Run) → Some x ≡ Some y → x ≡ y
one_of_some x y e = cc

pub found : (rs : List run_type.Run) (q : Counted) (v : value_type.Value) (r : run_type.Run) (m n : ℕ) → slice_get rs v.run ≡ Some r
    → RestsOn (run_of r) q m v → m ≡ n
    → (x : Run) × (slice_get (map run_of rs) v.run ≡ Some x) × RestsOn x q n v
found rs q v r m n there rests e = (run_of r, get_map rs v.run r there, subst (λ (k : ℕ). RestsOn (run_of r) q k v) e rests)

pub only : (rs : List run_type.Run) (q : Counted) (v : value_type.Value) (r : run_type.Run) (P : Type 0) (n : ℕ)
    → slice_get rs v.run ≡ Some r → (RestsOn (run_of r) q n v → P)
    → (x : Run) × (slice_get (map run_of rs) v.run ≡ Some x) × RestsOn x q n v → P
only rs q v r P n there f h = f (subst (λ (y : Run). RestsOn y q n v) (one_of_some h.0 (run_of r) (sym h.1 ∙ get_map rs v.run r there)) h.2)
