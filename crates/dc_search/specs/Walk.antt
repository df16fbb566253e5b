-- What a search finds on a bus: the selections of the walk over masks, in the order in which they are made.
-- A mask that more than one meter matches is followed by its ten masks with the next digit.
use Rattle.std.specs.Prelude.{◌≡◌, ◌↔◌, ◌<◌, ℕ, Contains, map, zero, suc, Bool, ◌&&◌, List, [], ◌∷◌}
use Rattle.std.specs.Prelude.{◌++◌, Option, Some, None, length, filter, nat_lt, ◌==◌, if◌then◌else◌}
use Rattle.std.specs.List.{filter_map, flat_map}
use Rattle.std.specs.List.Sorted.{IsStrictlyIncreasing}
use Rattle.std.specs.Int.Digits.{number_from_digits}
use Rattle.dc_address.specs.Mask.{matches}
use Rattle.dc_address.specs.declared.identity.Identity.{Identity}
use Rattle.dc_search.specs.Prefix.{mask_of_digits}

-- one selection: the digits that its mask fixes, and the meters that match
pub record Visit : Type 0 where
  pub digits : List ℕ
  pub matching : List Identity

-- a bus is the list of the meters on it
abbrev pub visit : List ℕ → List Identity → Visit
visit digits bus = record {
  digits = digits;
  matching = filter (matches (mask_of_digits digits)) bus;
}

-- more than one meter answers, and the answers collide
abbrev pub has_collision : Visit → Bool
has_collision visit = nat_lt 1 (length visit.matching)

abbrev pub ten_digits : List ℕ
ten_digits = 0 ∷ 1 ∷ 2 ∷ 3 ∷ 4 ∷ 5 ∷ 6 ∷ 7 ∷ 8 ∷ 9 ∷ []

-- the walk from a mask whose last places, this many, are free
unfoldable pub walk : ℕ → List ℕ → List Identity → List Visit
walk zero digits bus = visit digits bus ∷ []
walk (suc places) digits bus =
    visit digits bus ∷ (if has_collision (visit digits bus)
    then flat_map (λ digit. walk places (digits ++ digit ∷ []) bus) ten_digits else [])

-- the whole walk begins with all wildcards
abbrev pub walk_of : List Identity → List Visit
walk_of bus = walk 8 [] bus

-- a meter that answers alone is found
abbrev pub only_one : List Identity → Option Identity
only_one [] = None
only_one (meter ∷ []) = Some meter
only_one (meter ∷ other ∷ more) = None

abbrev pub found_in : Visit → Option Identity
found_in visit = only_one visit.matching

abbrev pub found_of : List Visit → List Identity
found_of visits = filter_map found_in visits

-- where all eight digits are fixed, a collision is of meters that share their number
abbrev pub shared_in : Visit → Option ℕ
shared_in visit = if has_collision visit && length visit.digits == 8
    then Some (number_from_digits 10 visit.digits) else None

abbrev pub shared_of : List Visit → List ℕ
shared_of visits = filter_map shared_in visits

-- ---- what a whole walk finds

-- the meters that have this number
abbrev pub with_number : ℕ → List Identity → List Identity
with_number number bus = filter (λ meter. meter.number == number) bus

-- `found` are the meters whose number is unique, `shared` the numbers of several meters; both
-- ascend
pub record FindsAll (bus found : List Identity) (shared : List ℕ) : Type 0 where
  pub alone : (meter : Identity) → Contains found meter ↔
      (with_number meter.number bus ≡ meter ∷ [])
  pub by_number : IsStrictlyIncreasing (map (λ meter. meter.number) found)
  pub common : (number : ℕ) → Contains shared number ↔ (1 < length (with_number number bus))
  pub ascending : IsStrictlyIncreasing shared
