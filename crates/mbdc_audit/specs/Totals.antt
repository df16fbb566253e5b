-- What is summed of the parts of a house as the code has them: shares, places, comparable flats (this product).
use Rattle.std.specs.Prelude.{◌≡◌, ℕ, ◌+◌, ◌-◌, ◌*◌, ◌==◌, ◌&&◌, Bool, true, false, not, nat_lt, nat_le, if◌then◌else◌}
use Rattle.std.specs.Prelude.{List, [], ◌∷◌, length, decimal, Option, None, Some, is_some, option_map, option_to_list}
use Rattle.std.specs.Prelude.{slice_get, filter, flat_map, fold, All}
use Rattle.std.specs.List.{list_all, list_any}
use Rattle.std.specs.Str.{bytes_eq}
use Rattle.mbdc_audit.specs.declared.house.Part as part_type
use Rattle.mbdc_audit.specs.declared.house.Place as place_type
use Rattle.mbdc_audit.specs.declared.house.User as user_type
use Rattle.mbdc_audit.specs.declared.house.Window as window_type
use Rattle.mbdc_audit.specs.declared.index.Index as index_type
use Rattle.mbdc_audit.specs.declared.grade.Grade.{Grade}
use Rattle.mbdc_audit.specs.declared.grade.Grade.TheVariants.{Measured, Missing}
use Rattle.mbdc_audit.specs.declared.numbers.Basis.{Basis}
use Rattle.mbdc_audit.specs.declared.numbers.Total.{Total}
use Rattle.mbdc_audit.specs.Grade.{grade_name, rank, worst as worse}
use Rattle.mbdc_audit.specs.House.{House, Span, at}
use Rattle.mbdc_audit.specs.Index.{at as numbers_at, flat_key}
use Rattle.mbdc_audit.specs.Published.{Holder, amount_or_0, flat, house, is_part_user, numbered, opened, shares, worst}
use Rattle.mbdc_audit.specs.Sound.{begin_at, end_at}
use Rattle.mbdc_audit.specs.View.{run_of}
use Rattle.mbdc_audit.specs.Walk.{is_held_part}

-- what parts consumed and their worst mark, with a part more
abbrev pub joined : part_type.Part → Option (ℕ × Grade) → ℕ × Grade
joined x None = (amount_or_0 x.amount.amount, x.amount.grade)
joined x (Some s) = (amount_or_0 x.amount.amount + s.0, worse x.amount.grade s.1)

-- what a holder's parts of a flat consumed, and their worst mark; none where it has none
abbrev pub share_in : Holder → List ℕ → List part_type.Part → Option (ℕ × Grade)
share_in who name [] = None
share_in who name (x ∷ parts) = if is_held_part who name x then Some (joined x (share_in who name parts)) else share_in who name parts

-- a sum with a share more: of one without a number only that it is there
abbrev pub total_with : Total → ℕ → Option (ℕ × Grade) → Total
total_with t weight None = t
total_with t weight (Some s) = if nat_lt (rank s.1) 4
    then record {
      plain = t.plain + s.0;
      weighted = t.weighted + s.0 * weight;
      grade = worse t.grade s.1;
      count = t.count + 1;
      without = t.without;
    }
    else record { plain = t.plain; weighted = t.weighted; grade = worse t.grade s.1; count = t.count + 1; without = t.without + 1 }

-- a sum with a window more, and with a place more
abbrev pub window_sum : {A : Type 0} → Holder → ℕ → place_type.Place A → Total → window_type.Window A → Total
window_sum who span p t w = if w.span == span then total_with t p.weight (share_in who p.flat.now w.parts.items) else t

abbrev pub place_sum : {A : Type 0} → Holder → ℕ → ℕ → Total → place_type.Place A → Total
place_sum who span used t p = if p.used == used then fold (window_sum who span p) t p.windows.items else t

abbrev pub no_total : Total
no_total = record { plain = 0; weighted = 0; grade = Measured; count = 0; without = 0 }

abbrev pub or_missing : Total → Total
or_missing t = if t.count == 0 then record t { grade = Missing } else t

-- THE SUM of a holder's parts of a use in a span
abbrev pub total_of : {A : Type 0} → Holder → ℕ → ℕ → List (place_type.Place A) → Total
total_of who span used places = or_missing (fold (place_sum who span used) no_total places)

-- the places of numbers
abbrev pub picked : {X : Type 0} → List X → List ℕ → List X
picked xs numbers = flat_map (λ n. option_to_list (slice_get xs n)) numbers

-- places by the keys of their flats
abbrev pub IsIndex : {A : Type 0} → index_type.Index A → List (place_type.Place A) → Type 0
IsIndex i places = (key : ℕ) → picked places (numbers_at i key) ≡ filter (λ p. key == flat_key p.flat.now) places

-- no part of a place is a holder's
abbrev pub HasNoPart : {A : Type 0} → Holder → place_type.Place A → Type 0
HasNoPart who p = All (λ w. All (λ x. is_held_part who p.flat.now x ≡ false) w.parts.items) p.windows.items

-- there is a number of it: of each of its windows; of the house of one
abbrev pub is_known : Holder → Total → Bool
is_known house t = nat_lt t.without t.count
is_known who t = (t.without == 0) && nat_lt 0 t.count

-- ---- comparable flats

-- what comparable flats consumed, with a flat and its area more, if its sum is measured or by hand
abbrev pub basis_with : Basis → Total → ℕ → Basis
basis_with b t area = if nat_le (rank t.grade) 1 then record b {
  sum = record (b.sum) { plain = b.sum.plain + t.plain; weighted = b.sum.weighted + t.weighted; grade = worse b.sum.grade t.grade };
  areas = b.areas + area;
  count = b.count + 1;
} else b

abbrev pub has_area : List ℕ → List user_type.User → Bool
has_area name users = list_any (λ v. bytes_eq v.flat.now name && is_some v.area) users

-- the same with a user more, if no later one of the flat has an area
abbrev pub basis_more : {A : Type 0} → List (place_type.Place A) → Basis → user_type.User → List user_type.User → Basis
basis_more places b u users = if is_some u.area && not (has_area u.flat.now users)
    then basis_with b (total_of (flat u.flat.now) b.span b.used places) (amount_or_0 u.area) else b

abbrev pub basis_on : {A : Type 0} → List (place_type.Place A) → Basis → List user_type.User → Basis
basis_on places b [] = b
basis_on places b (u ∷ users) = basis_on places (basis_more places b u users) users

-- WHAT COMPARABLE FLATS CONSUMED of a use in a span
abbrev pub basis_of : {A : Type 0} → ℕ → ℕ → List (place_type.Place A) → List user_type.User → Basis
basis_of span used places users =
    basis_on places (record { span = span; used = used; sum = no_total; areas = 0; count = 0 }) users

-- each of these is that of its use and span
abbrev pub IsBasis : {A : Type 0} → List (place_type.Place A) → List user_type.User → Basis → Type 0
IsBasis places users b = b ≡ basis_of b.span b.used places users

abbrev pub AreBases : {A : Type 0} → List (place_type.Place A) → List user_type.User → List Basis → Type 0
AreBases places users bases = All (IsBasis places users) bases

-- ---- the whole of a span

-- a place of a use of a flat, with a window of a span
abbrev pub has_own : {A : Type 0} → List ℕ → ℕ → ℕ → place_type.Place A → Bool
has_own name used span p = (p.used == used) && (bytes_eq name p.flat.now && list_any (λ w. w.span == span) p.windows.items)

abbrev pub is_window_own : {A : Type 0} → ℕ → ℕ → window_type.Window A → Bool
is_window_own user span w = if w.span == span then list_all (λ x. is_part_user user x.user) w.parts.items else true

-- its time covers a span, and all of its parts there are a user's; or it isn't such a place
abbrev pub is_filled : {A : Type 0} → ℕ → List ℕ → ℕ → ℕ → Span → place_type.Place A → Bool
is_filled user name used span s p = if has_own name used span p
    then (begin_at (option_map run_of (slice_get p.runs.items 0)) (at s.from) == at s.from)
    && ((end_at (option_map run_of (slice_get p.runs.items (length p.runs.items - 1))) (at s.to) == at s.to)
    && list_all (is_window_own user span) p.windows.items)
    else true

-- ---- numbers

-- the mark of a holder's sum; of the house how many places have no number, and how many there are
abbrev pub beside_sum : House → Holder → ℕ → ℕ → List (List ℕ)
beside_sum h house span used =
    decimal (length (opened h span used) - length (numbered h span used)) ∷ decimal (length (opened h span used)) ∷ []
beside_sum h who span used = grade_name (worst (shares h who span used)) ∷ []
