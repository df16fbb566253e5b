-- What visits find of the meters whose numbers lie in a range.
use Rattle.std.proofs.Common.{◌≡◌, ℕ, ◌<◌, ◌≤◌, inl, inr, List, [], ◌∷◌, ◌++◌, None, length, map, arith, ap, sym, ◌∙◌, refl, subst}
use Rattle.std.specs.List.{cons_option}
use Rattle.std.proofs.lemmas.List.Elements.{filter_map-append}
use Rattle.std.proofs.lemmas.Bool.{cases_lt}
use Rattle.dc_address.specs.declared.identity.Identity.{Identity}
use Rattle.dc_search.specs.Walk.{Visit, found_in, found_of, shared_in, shared_of, with_number}
use Rattle.dc_search.proofs.Ranges.{Ascending, Ascending-append, Ascending-ordered, Has, Has-append_cases, Has-append_left, Has-append_right}

abbrev pub numbers_of : List Identity → List ℕ
numbers_of meters = map (λ meter. meter.number) meters

-- the meters of the range that are alone with their number are found, and its numbers of more than one meter shared
pub record Covers (low high : ℕ) (bus : List Identity) (visits : List Visit) : Type 0 where
  pub found_up : Ascending low high (numbers_of (found_of visits))
  pub found_in : (meter : Identity) → Has (found_of visits) meter → (low ≤ meter.number) × (meter.number < high) × (with_number meter.number bus ≡ meter ∷ [])
  pub found_all : (meter : Identity) → low ≤ meter.number → meter.number < high → with_number meter.number bus ≡ meter ∷ [] → Has (found_of visits) meter
  pub shared_up : Ascending low high (shared_of visits)
  pub shared_in : (number : ℕ) → Has (shared_of visits) number → (low ≤ number) × (number < high) × (1 < length (with_number number bus))
  pub shared_all : (number : ℕ) → low ≤ number → number < high → 1 < length (with_number number bus) → Has (shared_of visits) number

pub Covers-nothing : (low : ℕ) (bus : List Identity) → Covers low low bus []
Covers-nothing low bus = record {
  found_up = omega arith;
  found_in = λ meter has. absurd has;
  found_all = λ meter from below alone. absurd (omega arith);
  shared_up = omega arith;
  shared_in = λ number has. absurd has;
  shared_all = λ number from below more. absurd (omega arith);
}

numbers-append : (xs ys : List Identity) → numbers_of (xs ++ ys) ≡ numbers_of xs ++ numbers_of ys
numbers-append [] ys = refl
numbers-append (x ∷ xs) ys = ap (λ rest. x.number ∷ rest) (numbers-append xs ys)

pub Covers-append : (low middle high : ℕ) (bus : List Identity) (xs ys : List Visit)
    → Covers low middle bus xs → Covers middle high bus ys → Covers low high bus (xs ++ ys)
Covers-append low middle high bus xs ys first second =
    let found : found_of (xs ++ ys) ≡ found_of xs ++ found_of ys = filter_map-append found_in xs ys in
    let shared : shared_of (xs ++ ys) ≡ shared_of xs ++ shared_of ys = filter_map-append shared_in xs ys in
    let ordered : low ≤ middle = Ascending-ordered low middle (shared_of xs) first.shared_up in
    let ordered_2 : middle ≤ high = Ascending-ordered middle high (shared_of ys) second.shared_up in
    record {
      found_up = subst (Ascending low high) (sym (ap numbers_of found ∙ numbers-append (found_of xs) (found_of ys)))
          (Ascending-append low middle high (numbers_of (found_of xs)) (numbers_of (found_of ys)) first.found_up second.found_up);
      found_in = λ meter has.
          elim (Has-append_cases (found_of xs) (found_of ys) meter (subst (λ zs. Has zs meter) found has)) [
            | inl h ↦ let is = first.found_in meter h in (is.0, omega (arith, is.1), is.2)
            | inr h ↦ let is = second.found_in meter h in (omega (arith, is.0), is.1, is.2)
          ];
      found_all = λ meter from below alone. subst (λ zs. Has zs meter) (sym found)
          (elim (cases_lt meter.number middle) [
            | inl before ↦ Has-append_left (found_of xs) (found_of ys) meter (first.found_all meter from before alone)
            | inr behind ↦ Has-append_right (found_of xs) (found_of ys) meter (second.found_all meter behind below alone)
          ]);
      shared_up = subst (Ascending low high) (sym shared)
          (Ascending-append low middle high (shared_of xs) (shared_of ys) first.shared_up second.shared_up);
      shared_in = λ number has.
          elim (Has-append_cases (shared_of xs) (shared_of ys) number (subst (λ zs. Has zs number) shared has)) [
            | inl h ↦ let is = first.shared_in number h in (is.0, omega (arith, is.1), is.2)
            | inr h ↦ let is = second.shared_in number h in (omega (arith, is.0), is.1, is.2)
          ];
      shared_all = λ number from below more. subst (λ zs. Has zs number) (sym shared)
          (elim (cases_lt number middle) [
            | inl before ↦ Has-append_left (shared_of xs) (shared_of ys) number (first.shared_all number from before more)
            | inr behind ↦ Has-append_right (shared_of xs) (shared_of ys) number (second.shared_all number behind below more)
          ]);
    }

-- a visit that finds nothing itself
pub Covers-cons : (low high : ℕ) (bus : List Identity) (visit : Visit) (visits : List Visit)
    → found_in visit ≡ None → shared_in visit ≡ None → Covers low high bus visits → Covers low high bus (visit ∷ visits)
Covers-cons low high bus visit visits no_found no_shared covers =
    let found : found_of (visit ∷ visits) ≡ found_of visits = ap (λ o. cons_option o (found_of visits)) no_found in
    let shared : shared_of (visit ∷ visits) ≡ shared_of visits = ap (λ o. cons_option o (shared_of visits)) no_shared in
    record {
      found_up = subst (λ zs. Ascending low high (numbers_of zs)) (sym found) covers.found_up;
      found_in = λ meter has. covers.found_in meter (subst (λ zs. Has zs meter) found has);
      found_all = λ meter from below alone. subst (λ zs. Has zs meter) (sym found) (covers.found_all meter from below alone);
      shared_up = subst (Ascending low high) (sym shared) covers.shared_up;
      shared_in = λ number has. covers.shared_in number (subst (λ zs. Has zs number) shared has);
      shared_all = λ number from below more. subst (λ zs. Has zs number) (sym shared) (covers.shared_all number from below more);
    }
