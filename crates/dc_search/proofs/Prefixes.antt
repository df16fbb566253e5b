-- Masks that fix the first digits, one more digit at a time, and the numbers that they match.
use Rattle.std.proofs.Common.{◌≡◌, ℕ, zero, suc, ◌+◌, ◌-◌, ◌*◌, ◌/◌, ◌%◌, ◌^◌, ◌<◌, ◌&&◌, List, [], ◌∷◌, ◌++◌, Option, Some, None, length, map, get_or, slice_set, ◌==◌, arith, ap, sym, ◌∙◌, refl, append_assoc, length-append}
use Rattle.std.specs.Prelude.{replicate, slice_get}
use Rattle.std.specs.Int.Digits.{number_from_digits}
use Rattle.std.proofs.Math.Seq.{set-append_seam}
use Rattle.std.proofs.Math.Nat.{div-div-eq-div-mul, pow-suc}
use Rattle.std.proofs.lemmas.List.{length-map}
use Rattle.std.proofs.lemmas.Bool.{eq-eqb}
use Rattle.std.proofs.lemmas.Bool.Decides.{nat_tests}
use Rattle.std.proofs.lemmas.Int.Digits.{number_push}
use Rattle.dc_address.specs.Digits.{decimal_digits}
use Rattle.dc_address.specs.Mask.{MaskParts, mask_of_all, matches, with_digit}
use Rattle.dc_address.proofs.Masks.{matches-mask_of_all, matches-with_digit}
use Rattle.dc_address.specs.declared.identity.Identity.{Identity}
use Rattle.dc_search.specs.Prefix.{mask_of_digits}

pub mask_of_digits-nil : mask_of_digits [] ≡ mask_of_all
unfolding mask_of_digits
mask_of_digits-nil = refl

map_push : (digits : List ℕ) (digit : ℕ) → map Some (digits ++ digit ∷ []) ≡ map Some digits ++ Some digit ∷ []
map_push [] digit = refl
map_push (first ∷ rest) digit = ap (λ places. Some first ∷ places) (map_push rest digit)

set_free : (digits : List ℕ) (free digit : ℕ) → slice_set (map Some digits ++ replicate (suc free) None) (length digits) (Some digit) ≡ map Some (digits ++ digit ∷ []) ++ replicate free None
set_free digits free digit =
    ap (λ place. slice_set (map Some digits ++ replicate (suc free) None) place (Some digit)) (sym (length-map digits Some))
    ∙ set-append_seam (map Some digits) None (replicate free None) (Some digit)
    ∙ sym (append_assoc (map Some digits) (Some digit ∷ []) (replicate free None))
    ∙ ap (λ places. places ++ replicate free None) (sym (map_push digits digit))

mask_with : List (Option ℕ) → MaskParts
mask_with places = record { digits = places; maker = None; version = None; kind = None }

-- the mask of one more digit
pub with_digit-mask_of_digits : (digits : List ℕ) (free digit : ℕ) → length digits + suc free ≡ 8
    → with_digit (mask_of_digits digits) (length digits) digit ≡ mask_of_digits (digits ++ digit ∷ [])
unfolding mask_of_digits mask_with
with_digit-mask_of_digits digits free digit eight =
    let before : 8 - length digits ≡ suc free = omega arith in
    let later : 8 - length (digits ++ digit ∷ []) ≡ free = omega (arith, length-append digits (digit ∷ [])) in
    ap mask_with
    (ap (λ n. slice_set (map Some digits ++ replicate n None) (length digits) (Some digit)) before
    ∙ set_free digits free digit
    ∙ ap (λ n. map Some (digits ++ digit ∷ []) ++ replicate n None) (sym later))

free_place : (digits : List ℕ) (free : ℕ) → slice_get (map Some digits ++ replicate (suc free) None) (length digits) ≡ Some None
free_place [] free = refl
free_place (first ∷ rest) free = free_place rest free

-- the digit at a place
free_digit : (digits : List ℕ) (free : ℕ) → length digits + suc free ≡ 8 → slice_get (mask_of_digits digits).digits (length digits) ≡ Some None
unfolding mask_of_digits
free_digit digits free eight =
    let before : 8 - length digits ≡ suc free = omega arith in
    ap (λ n. slice_get (map Some digits ++ replicate n None) (length digits)) before ∙ free_place digits free

digit_at : (width place number : ℕ) (below : ℕ) → place + suc below ≡ width → get_or (decimal_digits width number) place 0 ≡ number / 10 ^ below % 10
unfolding decimal_digits
digit_at zero place number below total = absurd (omega arith)
digit_at (suc width) zero number below total = ap (λ w. number / 10 ^ w % 10) (omega arith)
digit_at (suc width) (suc place) number below total = digit_at width place number below (omega arith)

one_more_digit : (x d p : ℕ) → d < 10 → ((d == x % 10) && (x / 10 == p)) ≡ (x == p * 10 + d)
one_more_digit x d p small = grind (arith, nat_tests)

-- the masks of a walk: these digits, which write this number, before this many free places
pub record Node (digits : List ℕ) (free number : ℕ) : Type 0 where
  pub count : length digits + free ≡ 8
  pub value : number_from_digits 10 digits ≡ number
  pub agrees : (meter : Identity) → matches (mask_of_digits digits) meter ≡ (meter.number / 10 ^ free == number)

pub node_root : Node [] 8 0
node_root = record {
  count = refl;
  value = refl;
  agrees = λ meter.
      ap (λ mask. matches mask meter) mask_of_digits-nil ∙ matches-mask_of_all meter ∙ sym (eq-eqb (meter.number / 100000000) 0 (omega (arith, meter.has_eight_digits)));
}

pub node_child : (digits : List ℕ) (free number digit : ℕ) → digit < 10 → Node digits (suc free) number → Node (digits ++ digit ∷ []) free (number * 10 + digit)
node_child digits free number digit small node = record {
  count = omega (arith, length-append digits (digit ∷ []), node.count);
  value = number_push 10 digits digit ∙ ap (λ n. n * 10 + digit) node.value;
  agrees = λ meter.
      let above : ℕ = meter.number / 10 ^ free in
      let place : length digits < 8 = omega (arith, node.count) in
      ap (λ mask. matches mask meter) (sym (with_digit-mask_of_digits digits free digit node.count))
      ∙ matches-with_digit (mask_of_digits digits) (length digits) digit meter place (free_digit digits free node.count)
      ∙ ap (λ d. (digit == d) && matches (mask_of_digits digits) meter) (digit_at 8 (length digits) meter.number free node.count)
      ∙ ap (λ b. (digit == above % 10) && b) (node.agrees meter)
      ∙ ap (λ n. (digit == above % 10) && (n == number)) (ap (λ n. meter.number / n) (pow-suc 10 free) ∙ sym (div-div-eq-div-mul meter.number (10 ^ free) 10))
      ∙ one_more_digit above digit number small;
}
