-- What runs declare.
use Rattle.std.proofs.Common.{arith, get_or, ◌≤◌, ◌≡◌, ◌-◌, ◌<◌, ℕ, zero, suc, List, [], ◌∷◌, length, true, false, map}
use Rattle.std.proofs.Common.{refl, sym, ap, Some, None, Result, Ok, Err}
use Rattle.std.specs.Prelude.{◌==◌, nat_lt}
use Rattle.std.specs.List.{slice_get}
use Rattle.std.proofs.lemmas.Bool.Decides.{nat_tests}
use Rattle.std.specs.Result.{result_unwrap_or}
use Rattle.std.proofs.lemmas.Option.{slice_get_read}
use Rattle.mbdc_audit.specs.Amount.{entry_of, of_run}
use Rattle.mbdc_audit.specs.House.{Run}
use Rattle.mbdc_audit.specs.Kept.{know}
use Rattle.mbdc_audit.specs.View.{amount_or_0, run_of}
use Rattle.mbdc_audit.specs.declared.curve.Run as run_type
use Rattle.mbdc_audit.specs.declared.house.Value as value_type

-- ---- runs

pub of_there : (f : Run → ℕ) (rs : List run_type.Run) (n : ℕ) (r : run_type.Run) → slice_get rs n ≡ Some r
    → of_run f (map run_of rs) n ≡ f (run_of r)
of_there f [] n r e = absurd cc
of_there f (x ∷ rs) zero r e = let same : x ≡ r = cc in ap (λ (y : run_type.Run). f (run_of y)) same
of_there f (x ∷ rs) (suc n) r e =
    let less : suc n - 1 ≡ n = omega arith in
    let not_first : (suc n == 0) ≡ false = grind (arith, nat_tests) in
    rw (not_first, less) (of_there f rs n r e)

pub of_none : (f : Run → ℕ) (rs : List run_type.Run) (n : ℕ) → slice_get rs n ≡ None → of_run f (map run_of rs) n ≡ 0
of_none f [] n e = refl
of_none f (x ∷ rs) zero e = absurd cc
of_none f (x ∷ rs) (suc n) e =
    let less : suc n - 1 ≡ n = omega arith in
    let not_first : (suc n == 0) ≡ false = grind (arith, nat_tests) in
    rw (not_first, less) (of_none f rs n e)

past : (rs : List run_type.Run) (n : ℕ) → length rs ≤ n → slice_get rs n ≡ None
past [] n le = refl
past (x ∷ rs) zero le = absurd (omega (arith, le))
past (x ∷ rs) (suc n) le = past rs n (omega (arith, le))

pub declared_there : (f : Run → ℕ) (rs : List run_type.Run) (n : ℕ) (r : run_type.Run) → true ≡ nat_lt n (length rs) → r ≡ get_or rs n r
    → f (run_of r) ≡ of_run f (map run_of rs) n
declared_there f rs n r there is =
    let lt : n < length rs = grind (arith, nat_tests) in
    sym (of_there f rs n r (slice_get_read rs (length rs) n r refl lt is))

pub declared_not : (f : Run → ℕ) (rs : List run_type.Run) (n : ℕ) → false ≡ nat_lt n (length rs) → 0 ≡ of_run f (map run_of rs) n
declared_not f rs n none = let le : length rs ≤ n = grind (arith, nat_tests) in sym (of_none f rs n (past rs n le))

pub amount_is : {E : Type 0} (r : Result ℕ E) → result_unwrap_or r 0 ≡ amount_or_0 r
amount_is (Ok n) = refl
amount_is (Err e) = refl

pub same_entry : (rs : List run_type.Run) (v : value_type.Value) (n most size : ℕ) → n ≡ amount_or_0 v.found
    → most ≡ of_run (λ r. r.most) (map run_of rs) v.run → size ≡ of_run (λ r. r.size) (map run_of rs) v.run
    → record { moment = v.moment; meter = v.run; value = n; most = most; size = size } ≡ entry_of (map run_of rs) (know v)
same_entry rs v n most size e e' e'' = rw (e, e', e'') refl
