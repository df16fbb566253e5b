-- A serial under days, one by one.
use Rattle.std.proofs.Common.{rules, ◌≡◌, ℕ, ◌+◌, ◌<◌, Bool, true, false, cond, List, [], ◌∷◌, ◌++◌, refl, sym, ap, ◌∙◌, take, length, get_or, suc, zero}
use Rattle.std.specs.Prelude.{◌&&◌, ◌||◌, not}
use Rattle.std.specs.List.{list_any}
use Rattle.std.specs.Ordering.{nat_cmp, is_eq}
use Rattle.std.specs.BTreeMap.{is_at}
use Rattle.std.specs.Cmp.{IsTotalOrder, nat_cmp_total, eq_by_cmp_equiv}
use Rattle.std.proofs.lemmas.Cmp.{on_total, then_total}
use Rattle.std.proofs.lemmas.List.{take_more}
use Rattle.dc_units.specs.Date.{Day}
use Rattle.mbdc_change.specs.State.{ReadingRow}
use Rattle.dc_meters.specs.declared.filed.Filed.{Filed}
use Rattle.dc_meters.specs.Due.{day_cmp, due_days, has_value, same_day}
use Rattle.dc_meters.specs.Points.{points_of}
use Rattle.dc_meters.specs.Orders.{filed_cmp, found, is_under_days, IsUnfiled}
use Rattle.dc_meters.proofs.DueDates.{same_day-is, due_days_are}
use Rattle.dc_meters.proofs.UnderKeys.{any_same}
use Rattle.dc_meters.proofs.FiledReadings.{any_push, is_filed, one_in, one_out}

pub days_total : IsTotalOrder day_cmp
days_total = then_total (on_total (λ (d : Day). d.year) nat_cmp_total) (then_total (on_total (λ (d : Day). d.month) nat_cmp_total) (on_total (λ (d : Day). d.day) nat_cmp_total))

pub taken_more : (days : List Day) (i : ℕ) (day : Day) → i < length days → day ≡ get_or days i day → take (i + 1) days ≡ take i days ++ day ∷ []
taken_more days i day within is = search (rules, take_more)

abbrev among : List Day → Filed Day → Bool
among days q = list_any (λ day. is_eq (day_cmp q.key day)) days

among_more : (days : List Day) (i : ℕ) (day : Day) (q : Filed Day) → take (i + 1) days ≡ take i days ++ day ∷ [] → among (take (i + 1) days) q ≡ (among (take i days) q || is_eq (day_cmp q.key day))
among_more days i day q more = ap (λ (l : List Day). among l q) more ∙ any_push (λ d. is_eq (day_cmp q.key d)) (take i days) day

in_step : (o t d s : Bool) → ((o || (t && s)) || (d && s)) ≡ (o || ((t || d) && s))
in_step true t d s = refl
in_step false true true true = refl
in_step false true true false = refl
in_step false true false true = refl
in_step false true false false = refl
in_step false false d s = refl

out_step : (o t d s : Bool) → ((o && not (t && s)) && not (d && s)) ≡ (o && not ((t || d) && s))
out_step false t d s = refl
out_step true true true true = refl
out_step true true true false = refl
out_step true true false true = refl
out_step true true false false = refl
out_step true false d s = refl

-- one day more
pub filed_day : (before new : List (Filed Day)) (old : List (Filed Day)) (days : List Day) (i : ℕ) (day : Day) (serial : ℕ) → take (i + 1) days ≡ take i days ++ day ∷ []
    → ((q : Filed Day) → found day_cmp before q ≡ (found day_cmp old q || is_under_days (take i days) serial q))
    → ((q : Filed Day) → found day_cmp new q ≡ cond (is_at (filed_cmp day_cmp (record { key = day; serial = serial })) q) true (found day_cmp before q))
    → (q : Filed Day) → found day_cmp new q ≡ (found day_cmp old q || is_under_days (take (i + 1) days) serial q)
filed_day before new old days i day serial more so_far is q =
    let s : Bool = is_eq (nat_cmp q.serial serial) in
    is q ∙ one_in days_total (record { key = day; serial = serial }) q (found day_cmp before q)
    ∙ ap (λ (b : Bool). b || (is_eq (day_cmp q.key day) && s)) (so_far q)
    ∙ in_step (found day_cmp old q) (among (take i days) q) (is_eq (day_cmp q.key day)) s
    ∙ ap (λ (b : Bool). found day_cmp old q || (b && s)) (sym (among_more days i day q more))

pub unfiled_day : (before new : List (Filed Day)) (old : List (Filed Day)) (days : List Day) (i : ℕ) (day : Day) (serial : ℕ) → take (i + 1) days ≡ take i days ++ day ∷ []
    → ((q : Filed Day) → found day_cmp before q ≡ (found day_cmp old q && not (is_under_days (take i days) serial q)))
    → ((q : Filed Day) → found day_cmp new q ≡ cond (is_at (filed_cmp day_cmp (record { key = day; serial = serial })) q) false (found day_cmp before q))
    → (q : Filed Day) → found day_cmp new q ≡ (found day_cmp old q && not (is_under_days (take (i + 1) days) serial q))
unfiled_day before new old days i day serial more so_far is q =
    let s : Bool = is_eq (nat_cmp q.serial serial) in
    is q ∙ one_out days_total (record { key = day; serial = serial }) q (found day_cmp before q)
    ∙ ap (λ (b : Bool). b && not (is_eq (day_cmp q.key day) && s)) (so_far q)
    ∙ out_step (found day_cmp old q) (among (take i days) q) (is_eq (day_cmp q.key day)) s
    ∙ ap (λ (b : Bool). found day_cmp old q && not (b && s)) (sym (among_more days i day q more))

-- ---- some days went in, and all go out

front_among : (test : Day → Bool) (days : List Day) (i : ℕ) → list_any test (take i days) ≡ true → list_any test days ≡ true
front_among test days zero e = cc
front_among test [] (suc i) e = cc
front_among test (d ∷ days) (suc i) e = at (test d) e (front_among test days i)
  where
    at : (b : Bool) → (b || list_any test (take i days)) ≡ true → (list_any test (take i days) ≡ true → list_any test days ≡ true) → (b || list_any test days) ≡ true
    at true e later = refl
    at false e later = later e

back_at : (o t a s : Bool) → (t ≡ true → a ≡ true) → (s ≡ true → o ≡ false) → ((o || (t && s)) && not (a && s)) ≡ o
back_at true t a true all new = absurd (let e = new refl in cc)
back_at true t true false all new = refl
back_at true t false false all new = refl
back_at false true true true all new = refl
back_at false true false true all new = absurd (let e = all refl in cc)
back_at false true a false all new = refl
back_at false false a s all new = refl

pub filed_back : (between back : List (Filed Day)) (old : List (Filed Day)) (days : List Day) (i : ℕ) (serial : ℕ) → IsUnfiled day_cmp serial old
    → ((q : Filed Day) → found day_cmp between q ≡ (found day_cmp old q || is_under_days (take i days) serial q))
    → ((q : Filed Day) → found day_cmp back q ≡ (found day_cmp between q && not (is_under_days days serial q)))
    → (q : Filed Day) → found day_cmp back q ≡ found day_cmp old q
filed_back between back old days i serial unfiled so_far is q =
    let s : Bool = is_eq (nat_cmp q.serial serial) in
    is q ∙ ap (λ (b : Bool). b && not (is_under_days days serial q)) (so_far q)
    ∙ back_at (found day_cmp old q) (among (take i days) q) (among days q) s (front_among (λ d. is_eq (day_cmp q.key d)) days i) (unfiled q)

-- ---- the days of a reading are those for which it has a value

pub under_days : (r : ReadingRow) (days : List Day) (q : Filed Day) → days ≡ due_days (points_of r.parts) → is_under_days days r.serial q ≡ is_filed has_value q r
under_days r days q are =
    let mirrored = any_same (λ day. is_eq (day_cmp q.key day)) (λ day. same_day day q.key) days (λ day. (eq_by_cmp_equiv days_total).symm q.key day ∙ sym (same_day-is day q.key)) in
    ap (λ (b : Bool). b && is_eq (nat_cmp q.serial r.serial)) (mirrored ∙ ap (λ (l : List Day). list_any (λ day. same_day day q.key) l) are ∙ due_days_are q.key (points_of r.parts))
