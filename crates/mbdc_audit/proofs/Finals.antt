-- Whether anything is to come after a period's end.
use Rattle.std.proofs.Common.{arith, ◌≡◌, ◌-◌, ◌||◌, ℕ, suc, List, [], ◌∷◌, length, map, Bool, true, false, refl, sym, ap, ◌∙◌, None, Some, drop, filter}
use Rattle.std.specs.Prelude.{All, nat_le, slice_get}
use Rattle.std.specs.List.{list_any}
use Rattle.mbdc_audit.specs.Amount.{is_by, is_final, last_of}
use Rattle.mbdc_audit.specs.House.{Run, Value}
use Rattle.mbdc_audit.specs.Kept.{goes_on, rises_from}
use Rattle.mbdc_audit.specs.View.{known_in, run_of}
use Rattle.mbdc_audit.specs.declared.curve.Run as run_type
use Rattle.mbdc_audit.specs.declared.house.Value as value_type
use Rattle.mbdc_audit.proofs.Lasting.{Found, known_list}
use Rattle.mbdc_audit.proofs.Nears.{rises_is}

last_more : (x y : Run) (rs : List Run) → last_of (x ∷ y ∷ rs) ≡ last_of (y ∷ rs)
last_more x y rs =
    let e : length (x ∷ y ∷ rs) - 1 ≡ suc (length (y ∷ rs) - 1) = omega arith in
    ap (λ (n : ℕ). drop n (x ∷ y ∷ rs)) e

some_same : (x y : run_type.Run) → Some x ≡ Some y → y ≡ x
some_same x y e = cc

pub last_there : (rs : List run_type.Run) (r : run_type.Run) → Some r ≡ slice_get rs (length rs - 1) → last_of (map run_of rs) ≡ run_of r ∷ []
last_there [] r e = absurd cc
last_there (x ∷ []) r e = ap (λ (y : run_type.Run). run_of y ∷ []) (some_same r x e)
last_there (x ∷ y ∷ rs) r e =
    let n : length (x ∷ y ∷ rs) - 1 ≡ suc (length (y ∷ rs) - 1) = omega arith in
    last_more (run_of x) (run_of y) (map run_of rs)
    ∙ last_there (y ∷ rs) r (e ∙ ap (λ (k : ℕ). slice_get (x ∷ y ∷ rs) k) n)

pub last_none : (rs : List run_type.Run) → None ≡ slice_get rs (length rs - 1) → last_of (map run_of rs) ≡ []
last_none [] e = refl
last_none (x ∷ []) e = absurd cc
last_none (x ∷ y ∷ rs) e =
    let n : length (x ∷ y ∷ rs) - 1 ≡ suc (length (y ∷ rs) - 1) = omega arith in
    last_more (run_of x) (run_of y) (map run_of rs) ∙ last_none (y ∷ rs) (e ∙ ap (λ (k : ℕ). slice_get (x ∷ y ∷ rs) k) n)

pub final_is : (t : ℕ) (runs : List Run) (xs : List value_type.Value) (a b : Bool) → All Found xs
    → a ≡ list_any (λ r. is_by t r.over) (last_of runs) → b ≡ rises_from t None xs → (a || b) ≡ is_final runs (known_in xs) t
final_is t runs xs a b found ea eb =
    ap (λ (x : Bool). x || b) ea
    ∙ ap (λ (x : Bool). list_any (λ r. is_by t r.over) (last_of runs) || x)
    (eb ∙ (rises_is t None xs ∙ sym (ap (λ (l : List Value). goes_on (filter (λ v. nat_le t v.moment) l)) (known_list xs found))))

pub then_final : (a b r : Bool) → a ≡ true → (a || b) ≡ r → true ≡ r
then_final true b r e h = h
then_final false b r e h = absurd cc

pub else_final : (a b r : Bool) → a ≡ false → (a || b) ≡ r → b ≡ r
else_final true b r e h = absurd cc
else_final false b r e h = h
