-- What a `BTreeMap` has at a key, seen through a view.
use Rattle.std.proofs.Common.{◌≡◌, Bool, true, false, cond, List, [], ◌∷◌, Option, Some, refl, ap, map}
use Rattle.std.specs.Prelude.{option_map}
use Rattle.std.specs.Map.{lookup}
use Rattle.std.specs.BTreeMap.{is_at}
use Rattle.std.specs.Ordering.{eq_by_cmp}
use Rattle.std.specs.declared.cmp.Ordering.{Ordering}
use Rattle.std.specs.FinMap.{find}
use Rattle.dc_meters.proofs.InOrder.{keys_of}

module _ {K X Y : Type 0} (R : K → K → Ordering) (view : X → Y) where
  abbrev pub viewed : K × X → K × Y
  viewed e = (e.0, view e.1)

  one_entry : (test : Bool) (x : X) (o : Option X) (p : Option Y) → p ≡ option_map view o → cond test (Some (view x)) p ≡ option_map view (cond test (Some x) o)
  one_entry true x o p is = refl
  one_entry false x o p is = is

  pub found_at : (q : K) (es : List (K × X)) → find R q (map viewed es) ≡ option_map view (lookup (is_at (R q)) es)
  found_at q [] = refl
  found_at q (e ∷ es) = one_entry (eq_by_cmp R q e.0) e.1 (lookup (is_at (R q)) es) (find R q (map viewed es)) (found_at q es)

  pub keys_viewed : (es : List (K × X)) → keys_of (map viewed es) ≡ keys_of es
  keys_viewed [] = refl
  keys_viewed (e ∷ es) = ap (λ (l : List K). e.0 ∷ l) (keys_viewed es)

  pub seconds_viewed : (es : List (K × X)) → map (λ (e : K × Y). e.1) (map viewed es) ≡ map (λ (e : K × X). view e.1) es
  seconds_viewed [] = refl
  seconds_viewed (e ∷ es) = ap (λ (l : List Y). view e.1 ∷ l) (seconds_viewed es)
