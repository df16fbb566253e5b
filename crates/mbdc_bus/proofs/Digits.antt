-- The masks that a search selects are masks: they fix at most eight decimal digits.
use Rattle.std.proofs.Common.{◌≡◌, ℕ, zero, suc, ◌+◌, ◌-◌, ◌≤◌, Bool, true, false, List, [], ◌∷◌, ◌++◌, Some, None, length, map, ◌==◌, arith, refl, ◌∙◌}
use Rattle.std.specs.Prelude.{replicate, if◌then◌else◌}
use Rattle.std.specs.List.{list_all}
use Rattle.std.proofs.lemmas.Bool.{and_from, and_parts}
use Rattle.std.proofs.lemmas.List.Folds.{list_all-append}
use Rattle.dc_address.specs.Digits.{is_digit}
use Rattle.dc_address.specs.Mask.{IsMask, is_place}
use Rattle.dc_address.specs.declared.identity.Identity.{Identity}
use Rattle.dc_search.specs.Bus.{visited}
use Rattle.dc_search.specs.Prefix.{mask_of_digits}
use Rattle.dc_search.specs.State.{SearchState, after_shared, after_split, children, first_of, rest_of}
use Rattle.dc_search.specs.Walk.{ten_digits}
use Rattle.dc_search.proofs.Sweeps.{counted}

abbrev pub IsDecimal : List ℕ → Type 0
IsDecimal digits = list_all is_digit digits ≡ true

abbrev pub AreDecimal : List (List ℕ) → Type 0
AreDecimal [] = Unit {0}
AreDecimal (digits ∷ rest) = IsDecimal digits × AreDecimal rest

free_places : (free : ℕ) → list_all is_place (replicate free None) ≡ true
free_places zero = refl
free_places (suc free) = free_places free

fixed_places : (digits : List ℕ) → IsDecimal digits → list_all is_place (map Some digits) ≡ true
fixed_places [] are = refl
fixed_places (digit ∷ rest) are = let parts = and_parts (is_digit digit) (list_all is_digit rest) are in and_from (is_digit digit) (list_all is_place (map Some rest)) parts.0 (fixed_places rest parts.1)

places_long : (digits : List ℕ) (free : ℕ) → length (map Some digits ++ replicate free None) ≡ length digits + free
places_long [] zero = refl
places_long [] (suc free) = let e = places_long [] free in omega (arith, e)
places_long (digit ∷ rest) free = let e = places_long rest free in omega (arith, e)

pub is_mask : (digits : List ℕ) → length digits ≤ 8 → IsDecimal digits → IsMask (mask_of_digits digits)
unfolding mask_of_digits
is_mask digits few are = record {
  count = places_long digits (8 - length digits) ∙ omega (arith, few);
  digits_are = list_all-append is_place (map Some digits) (replicate (8 - length digits) None) ∙ and_from _ _ (fixed_places digits are) (free_places (8 - length digits));
  maker_is = tt;
  version_is = λ e. cc;
  kind_is = λ e. cc;
}

-- ---- the masks that are due stay so

decimal_rest : (due : List (List ℕ)) → AreDecimal due → AreDecimal (rest_of due)
decimal_rest [] are = tt
decimal_rest (digits ∷ rest) are = are.1

decimal_first : (due : List (List ℕ)) → AreDecimal due → IsDecimal (first_of due)
decimal_first [] are = refl
decimal_first (digits ∷ rest) are = are.0

decimal_append : (front back : List (List ℕ)) → AreDecimal front → AreDecimal back → AreDecimal (front ++ back)
decimal_append [] back are others = others
decimal_append (digits ∷ rest) back are others = (are.0, decimal_append rest back are.1 others)

one_more : (digits : List ℕ) (digit : ℕ) → IsDecimal digits → is_digit digit ≡ true → IsDecimal (digits ++ digit ∷ [])
one_more digits digit are is = list_all-append is_digit digits (digit ∷ []) ∙ and_from _ _ are (and_from (is_digit digit) true is refl)

with_each : (digits ds : List ℕ) → IsDecimal digits → IsDecimal ds → AreDecimal (map (λ digit. digits ++ digit ∷ []) ds)
with_each digits [] are small = tt
with_each digits (d ∷ ds) are small =
    let parts = and_parts (is_digit d) (list_all is_digit ds) small in (one_more digits d are parts.0, with_each digits ds are parts.1)

decimal_collided : (s : SearchState) (full : Bool) → AreDecimal s.due → AreDecimal (if full then after_shared s else after_split s).due
decimal_collided s true are = decimal_rest s.due are
decimal_collided s false are = decimal_append (children (first_of s.due)) (rest_of s.due) (with_each (first_of s.due) ten_digits (decimal_first s.due are) refl) (decimal_rest s.due are)

pub decimal_visited : (matching : List Identity) (s : SearchState) → AreDecimal s.due → AreDecimal (visited matching s).due
decimal_visited [] s are = decimal_rest s.due are
decimal_visited (x ∷ []) s are = decimal_rest s.due are
decimal_visited (x ∷ y ∷ more) s are = decimal_collided (counted s) (length (first_of s.due) == 8) are
