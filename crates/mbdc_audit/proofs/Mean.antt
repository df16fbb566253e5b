-- A user's share by area is the number that is defined.
use Rattle.std.proofs.Common.{arith, ◌≡◌, ◌<◌, ◌≤◌, ◌*◌, ℕ, Bool, true, false, length, Option, None, Some}
use Rattle.std.proofs.Common.{refl, sym, ap, ◌∙◌, if◌then◌else◌}
use Rattle.std.specs.Prelude.{◌==◌, find, nat_le, option_map}
use Rattle.std.proofs.lemmas.Bool.Decides.{nat_tests}
use Rattle.mbdc_audit.specs.declared.exact.Exact.{Exact}
use Rattle.mbdc_audit.specs.declared.house.House as house_type
use Rattle.mbdc_audit.specs.declared.house.User as user_type
use Rattle.mbdc_audit.specs.declared.house.Fact.TheVariants.{Average, Factor}
use Rattle.mbdc_audit.specs.declared.numbers.Basis.{Basis}
use Rattle.mbdc_audit.specs.declared.uses.Unit as unit_type
use Rattle.mbdc_audit.specs.House.{House}
use Rattle.mbdc_audit.specs.Number.{in_unit, of_ratio, times}
use Rattle.mbdc_audit.specs.Published.{area_of, areas, based, declared, exact, mean_of, user_at}
use Rattle.mbdc_audit.specs.Totals.{basis_of}
use Rattle.mbdc_audit.specs.View.{house_of, user_of}
use Rattle.mbdc_audit.specs.Walk.{AreGradedAll, scale_in}
use Rattle.mbdc_audit.proofs.Based.{IsBased, is_based, shares_at}
use Rattle.mbdc_audit.proofs.SumOf.{exact_is}
use Rattle.mbdc_audit.proofs.Whole.{user_is}

abbrev area_in : Option user_type.User → Option ℕ
area_in None = None
area_in (Some u) = u.area

area_by : (u : Option user_type.User) (a : Option ℕ) → area_in u ≡ a → area_of (option_map user_of u) ≡ a
area_by None a e = e
area_by (Some u) a e = e

abbrev pub mean_at : {A : Type 0} → house_type.House A → ℕ → ℕ → unit_type.Unit → ℕ → Option Exact
mean_at h span used unit who = mean_of (house_of h) span used unit (area_of (user_at (house_of h) who)) (declared (house_of h) (Average used unit) span)

area_is : {A : Type 0} (h : house_type.House A) (who : ℕ) (u : Option user_type.User) (a : Option ℕ) → find (λ u. u.number == who) h.users.items ≡ u → area_in u ≡ a
    → area_of (user_at (house_of h) who) ≡ a
area_is h who u a e f = ap area_of (user_is who h.users.items ∙ ap (λ (x : Option user_type.User). option_map user_of x) e) ∙ area_by u a f

pub no_user : {A : Type 0} (h : house_type.House A) (span used : ℕ) (unit : unit_type.Unit) (who : ℕ) → find (λ u. u.number == who) h.users.items ≡ None
    → mean_at h span used unit who ≡ None
no_user h span used unit who e = ap (λ (a : Option ℕ). mean_of (house_of h) span used unit a (declared (house_of h) (Average used unit) span)) (area_is h who None None e refl)

pub no_area : {A : Type 0} (h : house_type.House A) (span used : ℕ) (unit : unit_type.Unit) (who : ℕ) (u : user_type.User) → find (λ u. u.number == who) h.users.items ≡ Some u
    → u.area ≡ None → mean_at h span used unit who ≡ None
no_area h span used unit who u e f = ap (λ (a : Option ℕ). mean_of (house_of h) span used unit a (declared (house_of h) (Average used unit) span)) (area_is h who (Some u) None e f)

pub given : {A : Type 0} (h : house_type.House A) (span used : ℕ) (unit : unit_type.Unit) (who : ℕ) (u : user_type.User) (area average : ℕ) → find (λ u. u.number == who) h.users.items ≡ Some u
    → u.area ≡ Some area → declared (house_of h) (Average used unit) span ≡ Some average
    → mean_at h span used unit who ≡ Some (record { is_negative = false; num = average * area; den = of_ratio * of_ratio })
given h span used unit who u area average e f d =
    ap (λ (a : Option ℕ). mean_of (house_of h) span used unit a (declared (house_of h) (Average used unit) span)) (area_is h who (Some u) (Some area) e f)
    ∙ ap (λ (x : Option ℕ). mean_of (house_of h) span used unit (Some area) x) d

shared : {A : Type 0} (h : house_type.House A) (span used : ℕ) (unit : unit_type.Unit) (who : ℕ) (u : user_type.User) (area : ℕ) → find (λ u. u.number == who) h.users.items ≡ Some u
    → u.area ≡ Some area → declared (house_of h) (Average used unit) span ≡ None
    → mean_at h span used unit who ≡ mean_of (house_of h) span used unit (Some area) None
shared h span used unit who u area e f d =
    ap (λ (a : Option ℕ). mean_of (house_of h) span used unit a (declared (house_of h) (Average used unit) span)) (area_is h who (Some u) (Some area) e f)
    ∙ ap (λ (x : Option ℕ). mean_of (house_of h) span used unit (Some area) x) d

is_few : (n m : ℕ) → n < 3 → n ≡ m → nat_le 3 m ≡ false
is_few n m lt e = grind (arith, nat_tests)

is_many : (n m : ℕ) → 3 ≤ n → n ≡ m → nat_le 3 m ≡ true
is_many n m le e = grind (arith, nat_tests)

abbrev share_by : House → ℕ → ℕ → unit_type.Unit → ℕ → Bool → Option Exact
share_by h span used unit area b = if b then option_map (times area (areas (based h span used))) (exact h span used unit (shares_at h span used (based h span used))) else None

pub few : {A : Type 0} (h : house_type.House A) (span used : ℕ) (unit : unit_type.Unit) (who : ℕ) (u : user_type.User) (area : ℕ) (b : Basis) → find (λ u. u.number == who) h.users.items ≡ Some u
    → u.area ≡ Some area → declared (house_of h) (Average used unit) span ≡ None → AreGradedAll h.places.items
    → b ≡ basis_of span used h.places.items h.users.items → b.count < 3 → mean_at h span used unit who ≡ None
few h span used unit who u area b e f d graded is lt =
    let s : IsBased (house_of h) span used b = is_based h span used b graded is in
    shared h span used unit who u area e f d ∙ ap (λ (c : Bool). share_by (house_of h) span used unit area c) (is_few b.count (length (based (house_of h) span used)) lt s.count_is)

pub mean : {A : Type 0} (h : house_type.House A) (span used : ℕ) (unit : unit_type.Unit) (who : ℕ) (u : user_type.User) (area : ℕ) (b : Basis) (x : Exact) → find (λ u. u.number == who) h.users.items ≡ Some u
    → u.area ≡ Some area → declared (house_of h) (Average used unit) span ≡ None → AreGradedAll h.places.items
    → b ≡ basis_of span used h.places.items h.users.items → 3 ≤ b.count
    → Some x ≡ in_unit (b.sum.plain, b.sum.weighted) (scale_in (house_of h) used unit) (declared (house_of h) (Factor used) span)
    → mean_at h span used unit who ≡ Some (times area b.areas x)
mean h span used unit who u area b x e f d graded is le exact_at =
    let s : IsBased (house_of h) span used b = is_based h span used b graded is in
    shared h span used unit who u area e f d
    ∙ (ap (λ (c : Bool). share_by (house_of h) span used unit area c) (is_many b.count (length (based (house_of h) span used)) le s.count_is)
    ∙ (ap (λ (y : Option Exact). option_map (times area (areas (based (house_of h) span used))) y)
    (sym (exact_at ∙ exact_is (house_of h) span used unit (shares_at (house_of h) span used (based (house_of h) span used)) b.sum.plain b.sum.weighted s.plain_is s.weighted_is))
    ∙ ap (λ (n : ℕ). Some (times area n x)) (sym s.areas_are)))

abbrev as_share : ℕ → ℕ → Option Exact
as_share p q = Some (record { is_negative = false; num = p * q; den = of_ratio * of_ratio })

pub given_by : {A : Type 0} (h : house_type.House A) (span used : ℕ) (unit : unit_type.Unit) (who : ℕ) (u : user_type.User) (area average p q : ℕ) → find (λ u. u.number == who) h.users.items ≡ Some u
    → u.area ≡ Some area → declared (house_of h) (Average used unit) span ≡ Some average → p ≡ average → q ≡ area
    → Some (record { is_negative = false; num = p * q; den = of_ratio * of_ratio }) ≡ mean_at h span used unit who
given_by h span used unit who u area average p q e f d one other =
    ap (λ (n : ℕ). as_share n q) one ∙ (ap (λ (n : ℕ). as_share average n) other ∙ sym (given h span used unit who u area average e f d))
