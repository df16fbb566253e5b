-- What comparable flats consumed, by the users as the code has them.
use Rattle.std.proofs.Common.{arith, ◌≡◌, ◌&&◌, ◌||◌, ◌+◌, ◌*◌, ◌<◌, ◌≤◌, ℕ, zero, suc, List, [], ◌∷◌, ◌++◌, Bool, true, false, map, filter, length, Option, Some}
use Rattle.std.proofs.Common.{refl, sym, ap, ◌∙◌, subst, if◌then◌else◌, is_some, not, get_or}
use Rattle.std.specs.Prelude.{◌==◌, All, find, flat_map, nat_lt, nat_le}
use Rattle.std.specs.List.{list_any}
use Rattle.std.specs.Str.{bytes_eq}
use Rattle.std.proofs.lemmas.Bool.{false≢true}
use Rattle.std.proofs.lemmas.Bool.Decides.{nat_tests}
use Rattle.std.proofs.lemmas.List.Sums.{sum_by-append, sum_by-cons}
use Rattle.mbdc_audit.specs.declared.grade.Grade.{Grade}
use Rattle.mbdc_audit.specs.House.{House, Part, User}
use Rattle.mbdc_audit.specs.Published.{Holder, Open, Share, areas, based, flats, is_held, is_reliable, is_whole, opened, plain, share, shares, shares_of, weighted, worst}
use Rattle.mbdc_audit.specs.View.{house_of, user_of}
use Rattle.mbdc_audit.specs.Walk.{AreGradedAll}
use Rattle.mbdc_audit.proofs.Summed.{all_joined, has_some, joined, some_lack, whole_rows, wholes_few}
use Rattle.mbdc_audit.proofs.Shares.{IsMarked, IsSum, is_sum, joined_is, share_marked, whole}
use Rattle.mbdc_audit.proofs.AllOpened.{all_flat_map, all_map}
use Rattle.mbdc_audit.specs.declared.house.House as house_type
use Rattle.mbdc_audit.specs.declared.house.Place as place_type
use Rattle.mbdc_audit.specs.declared.house.User as user_type
use Rattle.mbdc_audit.specs.declared.numbers.Basis.{Basis}
use Rattle.mbdc_audit.specs.declared.numbers.Total.{Total}
use Rattle.mbdc_audit.specs.Totals.{IsBasis, basis_more, basis_of, basis_on, basis_with, has_area, no_total, total_of}
use Rattle.mbdc_audit.specs.Grade.{rank, worst as worse}
use Rattle.mbdc_audit.specs.Published.{amount_or_0, flat}

-- ---- bases that are known

same_keys : (m n : ℕ) → (m == n) ≡ true → m ≡ n
same_keys m n e = grind (arith, nat_tests)

left : (a b : Bool) → (a && b) ≡ true → a ≡ true
left true b e = refl
left false b e = absurd cc

right : (a b : Bool) → (a && b) ≡ true → b ≡ true
right true b e = e
right false b e = absurd cc

found_one : {A : Type 0} (places : List (place_type.Place A)) (users : List user_type.User) (span used : ℕ) (x b : Basis) (later : Option Basis) (t : Bool)
    → ((x.span == span) && (x.used == used)) ≡ t → IsBasis places users x → (later ≡ Some b → b ≡ basis_of span used places users)
    → (if t then Some x else later) ≡ Some b → b ≡ basis_of span used places users
found_one places users span used x b later true e one more is =
    let same : x ≡ b = cc in
    let at : x.span ≡ span = same_keys x.span span (left (x.span == span) (x.used == used) e) in
    let of : x.used ≡ used = same_keys x.used used (right (x.span == span) (x.used == used) e) in
    sym same ∙ (one ∙ (ap (λ (n : ℕ). basis_of n x.used places users) at ∙ ap (λ (n : ℕ). basis_of span n places users) of))
found_one places users span used x b later false e one more is = more is

pub found : {A : Type 0} (places : List (place_type.Place A)) (users : List user_type.User) (span used : ℕ) (bases : List Basis) (b : Basis)
    → All (IsBasis places users) bases → find (λ b. (b.span == span) && (b.used == used)) bases ≡ Some b → b ≡ basis_of span used places users
found places users span used [] b all is = absurd cc
found places users span used (x ∷ bases) b all is = found_one places users span used x b (find (λ b. (b.span == span) && (b.used == used)) bases)
    ((x.span == span) && (x.used == used)) refl (all 0 x (omega arith))
    (λ e. found places users span used bases b (λ k d lt. all (suc k) d (omega (arith, lt))) e) is

-- ---- a basis is of its span and use

kept_by : {A : Type 0} (places : List (place_type.Place A)) (b : Basis) (t : Total) (area : ℕ) (c : Bool)
    → ((if c then record b {
      sum = record (b.sum) { plain = b.sum.plain + t.plain; weighted = b.sum.weighted + t.weighted; grade = worse b.sum.grade t.grade };
      areas = b.areas + area;
      count = b.count + 1;
    } else b).span ≡ b.span)
    × ((if c then record b {
      sum = record (b.sum) { plain = b.sum.plain + t.plain; weighted = b.sum.weighted + t.weighted; grade = worse b.sum.grade t.grade };
      areas = b.areas + area;
      count = b.count + 1;
    } else b).used ≡ b.used)
kept_by places b t area true = (refl, refl)
kept_by places b t area false = (refl, refl)

kept_more : {A : Type 0} (places : List (place_type.Place A)) (b : Basis) (u : user_type.User) (c : Bool) (x : Basis) → (x.span ≡ b.span) × (x.used ≡ b.used)
    → ((if c then x else b).span ≡ b.span) × ((if c then x else b).used ≡ b.used)
kept_more places b u true x same = same
kept_more places b u false x same = (refl, refl)

kept : {A : Type 0} (places : List (place_type.Place A)) (b : Basis) (u : user_type.User) (users : List user_type.User)
    → ((basis_more places b u users).span ≡ b.span) × ((basis_more places b u users).used ≡ b.used)
kept places b u users = kept_more places b u (is_some u.area && not (has_area u.flat.now users))
    (basis_with b (total_of (flat u.flat.now) b.span b.used places) (amount_or_0 u.area))
    (kept_by places b (total_of (flat u.flat.now) b.span b.used places) (amount_or_0 u.area) (nat_le (rank (total_of (flat u.flat.now) b.span b.used places).grade) 1))

kept_on : {A : Type 0} (places : List (place_type.Place A)) (b : Basis) (users : List user_type.User)
    → ((basis_on places b users).span ≡ b.span) × ((basis_on places b users).used ≡ b.used)
kept_on places b [] = (refl, refl)
kept_on places b (u ∷ users) =
    let one = kept places b u users in
    let more = kept_on places (basis_more places b u users) users in
    (more.0 ∙ one.0, more.1 ∙ one.1)

pub is_one : {A : Type 0} (places : List (place_type.Place A)) (users : List user_type.User) (span used : ℕ) (b : Basis)
    → b ≡ basis_of span used places users → IsBasis places users b
is_one places users span used b is =
    let same = kept_on places (record { span = span; used = used; sum = no_total; areas = 0; count = 0 }) users in
    let at : b.span ≡ span = ap (λ (b : Basis). b.span) is ∙ same.0 in
    let of : b.used ≡ used = ap (λ (b : Basis). b.used) is ∙ same.1 in
    is ∙ (ap (λ (n : ℕ). basis_of n used places users) (sym at) ∙ ap (λ (n : ℕ). basis_of b.span n places users) (sym of))

-- ---- one more

pushed_one : {X : Type 0} (P : X → Type 0) (xs : List X) (x : X) → All P xs → P x → All P (xs ++ x ∷ [])
pushed_one P [] x all p zero d lt = p
pushed_one P [] x all p (suc k) d lt = absurd (omega (arith, lt))
pushed_one P (y ∷ xs) x all p zero d lt = all 0 d (omega arith)
pushed_one P (y ∷ xs) x all p (suc k) d lt = pushed_one P xs x (λ j e below. all (suc j) e (omega (arith, below))) p k d (omega (arith, lt))

pub all_pushed : {X : Type 0} (P : X → Type 0) (xs ys : List X) (x : X) → ys ≡ xs ++ x ∷ [] → All P xs → P x → All P ys
all_pushed P xs ys x is all p = subst (λ (l : List _). All P l) (sym is) (pushed_one P xs x all p)

-- ---- the flats that are compared

any_area : (name : List ℕ) (users : List user_type.User)
    → list_any (λ v. bytes_eq v.flat name && is_some v.area) (map user_of users) ≡ has_area name users
any_area name [] = refl
any_area name (u ∷ users) = ap (λ (b : Bool). (bytes_eq u.flat.now name && is_some u.area) || b) (any_area name users)

marked_parts : (o : Open) (parts : List Part) → All IsMarked (map (λ x. share o.place o.window x.from x.to) parts)
marked_parts o parts = all_map IsMarked (λ x. share o.place o.window x.from x.to) parts (λ k d lt. share_marked o.place o.window _ _)

pub all_marked : (h : House) (who : Holder) (span used : ℕ) → All IsMarked (shares h who span used)
all_marked h who span used = all_flat_map IsMarked (shares_of who) (opened h span used)
    (λ k d lt. marked_parts (get_or (opened h span used) k d) (filter (is_held who (get_or (opened h span used) k d).place) (get_or (opened h span used) k d).window.parts))

few_below : (n : ℕ) → nat_le n 1 ≡ true → nat_lt n 4 ≡ true
few_below n e = grind (arith, nat_tests)

-- a reliable sum is of all shares
reliable_whole : (xs : List Share) → All IsMarked xs → nat_le (rank (worst xs)) 1 ≡ true → is_whole xs ≡ true
reliable_whole [] all e = refl
reliable_whole (s ∷ xs) all e = whole s xs all ∙ few_below (rank (worst (s ∷ xs))) e

not_less : (m n : ℕ) → m ≤ n → (m < n → ⊥) → m ≡ n
not_less m n le isnt = omega (arith, le, isnt)

reliable_sum : (h : House) (who : Holder) (span used : ℕ) (t : Total) → IsSum (map (shares_of who) (opened h span used)) t
    → nat_le (rank t.grade) 1 ≡ true → (t.plain ≡ plain (shares h who span used)) × (t.weighted ≡ weighted (shares h who span used))
reliable_sum h who span used t is e =
    let rows : List (List Share) = map (shares_of who) (opened h span used) in
    let grade : t.grade ≡ worst (shares h who span used) = is.grade_is ∙ ap worst (joined_is (shares_of who) (opened h span used)) in
    let all : is_whole (shares h who span used) ≡ true = reliable_whole (shares h who span used) (all_marked h who span used)
    (ap (λ (g : Grade). nat_le (rank g) 1) (sym grade) ∙ e) in
    let none : length (whole_rows rows) < length (filter has_some rows) → ⊥ =
    λ lt. false≢true (sym (some_lack rows lt) ∙ (ap is_whole (joined_is (shares_of who) (opened h span used)) ∙ all)) in
    let same : joined (whole_rows rows) ≡ shares h who span used =
    all_joined rows (not_less (length (whole_rows rows)) (length (filter has_some rows)) (wholes_few rows) none) ∙ joined_is (shares_of who) (opened h span used) in
    (is.plain_is ∙ ap plain same, is.weighted_is ∙ ap weighted same)

reliable_is : (h : House) (who : Holder) (span used : ℕ) (t : Total) → IsSum (map (shares_of who) (opened h span used)) t
    → nat_le (rank t.grade) 1 ≡ is_reliable (shares h who span used)
reliable_is h who span used t is =
    ap (λ (g : Grade). nat_le (rank g) 1) (is.grade_is ∙ ap worst (joined_is (shares_of who) (opened h span used)))

-- ---- what they consumed

abbrev pub shares_at : House → ℕ → ℕ → List User → List Share
shares_at h span used users = flat_map (λ u. shares h (flat u.flat) span used) users

abbrev kept_users : House → ℕ → ℕ → List User → List User
kept_users h span used users = filter (λ u. is_reliable (shares h (flat u.flat) span used)) users

pub record AddsFlats (h : House) (span used : ℕ) (b c : Basis) (users : List User) : Type 0 where
  pub plain_is : c.sum.plain ≡ b.sum.plain + plain (shares_at h span used users)
  pub weighted_is : c.sum.weighted ≡ b.sum.weighted + weighted (shares_at h span used users)
  pub areas_are : c.areas ≡ b.areas + areas users
  pub count_is : c.count ≡ b.count + length users

abbrev pub with_area : Basis → Total → ℕ → Bool → Basis
with_area b t area c = if c then record b {
  sum = record (b.sum) { plain = b.sum.plain + t.plain; weighted = b.sum.weighted + t.weighted; grade = worse b.sum.grade t.grade };
  areas = b.areas + area;
  count = b.count + 1;
} else b

pub flat_more : (h : House) (span used : ℕ) (b c : Basis) (u : User) (users : List User) (t : Total) (r : Bool)
    → (r ≡ true → (t.plain ≡ plain (shares h (flat u.flat) span used)) × (t.weighted ≡ weighted (shares h (flat u.flat) span used)))
    → AddsFlats h span used (with_area b t (amount_or_0 u.area) r) c users
    → AddsFlats h span used b c (if r then u ∷ users else users)
flat_more h span used b c u users t true sums a =
    let p = sum_by-append (λ (s : Share). amount_or_0 s.amount) (shares h (flat u.flat) span used) (shares_at h span used users) in
    let w = sum_by-append (λ (s : Share). amount_or_0 s.amount * s.weight) (shares h (flat u.flat) span used) (shares_at h span used users) in
    let x = sum_by-cons (λ (u : User). amount_or_0 u.area) u users in
    record {
      plain_is = omega (arith, a.plain_is, p, (sums refl).0);
      weighted_is = omega (arith, a.weighted_is, w, (sums refl).1);
      areas_are = omega (arith, a.areas_are, x);
      count_is = omega (arith, a.count_is);
    }
flat_more h span used b c u users t false sums a = a

user_more : {A : Type 0} (h : house_type.House A) (span used : ℕ) (b c : Basis) (u : user_type.User) (users : List user_type.User) (one some : Bool)
    → has_area u.flat.now users ≡ one → is_some u.area ≡ some
    → ((b : Basis) → b.span ≡ span → b.used ≡ used → AddsFlats (house_of h) span used b (basis_on h.places.items b users) (kept_users (house_of h) span used (flats (map user_of users))))
    → AreGradedAll h.places.items → b.span ≡ span → b.used ≡ used
    → AddsFlats (house_of h) span used b (basis_on h.places.items (if some && not one then basis_with b (total_of (flat u.flat.now) b.span b.used h.places.items) (amount_or_0 u.area) else b) users)
    (kept_users (house_of h) span used (if one then flats (map user_of users) else if some then user_of u ∷ flats (map user_of users) else flats (map user_of users)))
user_more h span used b c u users true true e f more graded at of = more b at of
user_more h span used b c u users true false e f more graded at of = more b at of
user_more h span used b c u users false false e f more graded at of = more b at of
user_more h span used b c u users false true e f more graded at of =
    let t : Total = total_of (flat u.flat.now) b.span b.used h.places.items in
    let t' : Total = total_of (flat u.flat.now) span used h.places.items in
    let same : t ≡ t' = ap (λ (n : ℕ). total_of (flat u.flat.now) n b.used h.places.items) at ∙ ap (λ (n : ℕ). total_of (flat u.flat.now) span n h.places.items) of in
    let is : IsSum (map (shares_of (flat u.flat.now)) (opened (house_of h) span used)) t =
    subst (λ (x : Total). IsSum (map (shares_of (flat u.flat.now)) (opened (house_of h) span used)) x) (sym same) (is_sum h (flat u.flat.now) span used graded) in
    let kept_at = kept_by h.places.items b t (amount_or_0 u.area) (nat_le (rank t.grade) 1) in
    let a : AddsFlats (house_of h) span used b (basis_on h.places.items (with_area b t (amount_or_0 u.area) (nat_le (rank t.grade) 1)) users)
    (if nat_le (rank t.grade) 1 then user_of u ∷ kept_users (house_of h) span used (flats (map user_of users)) else kept_users (house_of h) span used (flats (map user_of users))) =
    flat_more (house_of h) span used b (basis_on h.places.items (with_area b t (amount_or_0 u.area) (nat_le (rank t.grade) 1)) users) (user_of u)
    (kept_users (house_of h) span used (flats (map user_of users))) t (nat_le (rank t.grade) 1)
    (λ r. reliable_sum (house_of h) (flat u.flat.now) span used t is r)
    (more (with_area b t (amount_or_0 u.area) (nat_le (rank t.grade) 1)) (kept_at.0 ∙ at) (kept_at.1 ∙ of)) in
    subst (λ (r : Bool). AddsFlats (house_of h) span used b (basis_on h.places.items (with_area b t (amount_or_0 u.area) (nat_le (rank t.grade) 1)) users)
    (if r then user_of u ∷ kept_users (house_of h) span used (flats (map user_of users)) else kept_users (house_of h) span used (flats (map user_of users))))
    (reliable_is (house_of h) (flat u.flat.now) span used t is) a

flats_is : (u : user_type.User) (users : List user_type.User)
    → flats (map user_of (u ∷ users)) ≡ (if has_area u.flat.now users then flats (map user_of users) else if is_some u.area then user_of u ∷ flats (map user_of users) else flats (map user_of users))
flats_is u users = ap (λ (b : Bool). if b then flats (map user_of users) else if is_some u.area then user_of u ∷ flats (map user_of users) else flats (map user_of users)) (any_area u.flat.now users)

adds_flats : {A : Type 0} (h : house_type.House A) (span used : ℕ) (users : List user_type.User) → AreGradedAll h.places.items
    → (b : Basis) → b.span ≡ span → b.used ≡ used → AddsFlats (house_of h) span used b (basis_on h.places.items b users) (kept_users (house_of h) span used (flats (map user_of users)))
adds_flats h span used [] graded b at of = record { plain_is = omega arith; weighted_is = omega arith; areas_are = omega arith; count_is = omega arith }
adds_flats h span used (u ∷ users) graded b at of =
    subst (λ (us : List User). AddsFlats (house_of h) span used b (basis_on h.places.items (basis_more h.places.items b u users) users) (kept_users (house_of h) span used us))
    (sym (flats_is u users))
    (user_more h span used b b u users (has_area u.flat.now users) (is_some u.area) refl refl (adds_flats h span used users graded) graded at of)

no_more : (n m : ℕ) → n ≡ 0 + m → n ≡ m
no_more n m e = omega (arith, e)

pub record IsBased (h : House) (span used : ℕ) (b : Basis) : Type 0 where
  pub plain_is : b.sum.plain ≡ plain (shares_at h span used (based h span used))
  pub weighted_is : b.sum.weighted ≡ weighted (shares_at h span used (based h span used))
  pub areas_are : b.areas ≡ areas (based h span used)
  pub count_is : b.count ≡ length (based h span used)

pub is_based : {A : Type 0} (h : house_type.House A) (span used : ℕ) (b : Basis) → AreGradedAll h.places.items
    → b ≡ basis_of span used h.places.items h.users.items → IsBased (house_of h) span used b
is_based h span used b graded is =
    let none : Basis = record { span = span; used = used; sum = no_total; areas = 0; count = 0 } in
    let a : AddsFlats (house_of h) span used none b (based (house_of h) span used) =
    subst (λ (x : Basis). AddsFlats (house_of h) span used none x (based (house_of h) span used)) (sym is) (adds_flats h span used h.users.items graded none refl refl) in
    record { plain_is = no_more _ _ a.plain_is; weighted_is = no_more _ _ a.weighted_is; areas_are = no_more _ _ a.areas_are; count_is = no_more _ _ a.count_is }
