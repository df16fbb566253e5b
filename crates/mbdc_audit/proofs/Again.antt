-- Of several values of one run and moment the last is enough.
use Rattle.std.proofs.Common.{arith, ◌≡◌, ◌≤◌, ◌&&◌, ◌||◌, ℕ, List, [], ◌∷◌, ◌++◌, length, Bool, true, false, not, map, filter, refl, sym, ap, ◌∙◌, subst, Option, Some, None, take, drop, if◌then◌else◌}
use Rattle.std.specs.Prelude.{◌==◌, is_some, nat_lt, zip}
use Rattle.std.specs.List.{list_all, list_any}
use Rattle.std.proofs.lemmas.Bool.Decides.{nat_tests}
use Rattle.mbdc_audit.specs.Consumption.Mark.{exchanges_in, marked_in}
use Rattle.mbdc_audit.specs.Consumption.Order.{IsInOrder}
use Rattle.mbdc_audit.specs.Consumption.Period.{consumption}
use Rattle.mbdc_audit.specs.declared.consumption.entry.Entry.{Entry}
use Rattle.mbdc_audit.specs.Amount.{ahead, amount, are_whole, counting, deciding, due, entry_of, grade, is_below, is_by, is_exchange, is_final, is_guess, is_near_pair, is_put, is_until, last_of, lies_at, passed}
use Rattle.mbdc_audit.specs.Grade.{has_number}
use Rattle.mbdc_audit.specs.House.{Run, Value}
use Rattle.mbdc_audit.specs.Kept.{are_one, does_count, know, known_source, lasting, rises_from, IsMarked, known_by}
use Rattle.mbdc_audit.specs.View.{amount_or_0}
use Rattle.mbdc_audit.specs.declared.curve.Amount as amount_type
use Rattle.mbdc_audit.specs.declared.grade.Grade.{Grade}
use Rattle.mbdc_audit.specs.declared.grade.Grade.TheVariants.{Measured, Hand, Provisional, Estimated, Unclear, Disturbed, Missing}
use Rattle.mbdc_audit.specs.declared.house.Value as value_type
use Rattle.mbdc_audit.proofs.Lasting.{any_map, counting_map, known_kept, lasting_again, one_moment}
use Rattle.mbdc_audit.proofs.Nears.{rises_is}

-- ---- a value at a moment

or_again : (x y r : Bool) → x ≡ y → (y || r) ≡ (x || (y || r))
or_again true y r e = ap (λ (z : Bool). z || r) (sym e)
or_again false y r e = refl

any_lasting : (t : ℕ) (ys : List value_type.Value)
    → list_any (λ v. v.moment == t) (lasting ys) ≡ list_any (λ v. v.moment == t) ys
any_lasting t [] = refl
any_lasting t (a ∷ []) = refl
any_lasting t (a ∷ b ∷ rest) = elim (are_one a b) as (λ (q : Bool). (q ≡ true → a.moment ≡ b.moment)
    → list_any (λ v. v.moment == t) (if q then lasting (b ∷ rest) else a ∷ lasting (b ∷ rest))
    ≡ ((a.moment == t) || list_any (λ v. v.moment == t) (b ∷ rest))) [
      | true ↦ λ m. any_lasting t (b ∷ rest)
          ∙ or_again (a.moment == t) (b.moment == t) (list_any (λ v. v.moment == t) rest) (ap (λ (n : ℕ). n == t) (m refl))
      | false ↦ λ m. ap (λ (x : Bool). (a.moment == t) || x) (any_lasting t (b ∷ rest))
    ] (one_moment a b)

-- ---- what goes on

twice : (p u w x y : Bool) → w ≡ false
    → (if p then x else (u || y)) ≡ (if p then (if p then x else (u || y)) else (u || (if p then y else (w || y))))
twice true u w x y e = refl
twice false u true x y e = absurd cc
twice false u false x y e = refl

not_below : (m : ℕ) → nat_lt m m ≡ false
not_below m = grind (arith, nat_tests)

rises_twice : (t : ℕ) (before : Option ℕ) (a b : value_type.Value) (rest : List value_type.Value) → a.moment ≡ b.moment
    → rises_from t before (b ∷ rest) ≡ rises_from t before (a ∷ b ∷ rest)
rises_twice t before a b rest e = twice (nat_lt b.moment t) (is_until b.moment before) (nat_lt b.moment b.moment)
    (rises_from t before rest) (rises_from t (Some b.moment) rest) (not_below b.moment)
    ∙ ap (λ (m : ℕ). if nat_lt m t then rises_from t before (b ∷ rest) else (is_until m before || rises_from t (Some m) (b ∷ rest))) (sym e)

rises_lasting : (t : ℕ) (before : Option ℕ) (ys : List value_type.Value)
    → rises_from t before (lasting ys) ≡ rises_from t before ys
rises_lasting t before [] = refl
rises_lasting t before (a ∷ []) = refl
rises_lasting t before (a ∷ b ∷ rest) = elim (are_one a b) as (λ (q : Bool). (q ≡ true → a.moment ≡ b.moment)
    → rises_from t before (if q then lasting (b ∷ rest) else a ∷ lasting (b ∷ rest)) ≡ rises_from t before (a ∷ b ∷ rest)) [
      | true ↦ λ m. rises_lasting t before (b ∷ rest) ∙ rises_twice t before a b rest (m refl)
      | false ↦ λ m.
          ap (λ (x : Bool). if nat_lt a.moment t then x else (is_until a.moment before || rises_from t (Some a.moment) (lasting (b ∷ rest))))
          (rises_lasting t before (b ∷ rest))
          ∙ ap (λ (x : Bool). if nat_lt a.moment t then rises_from t before (b ∷ rest) else (is_until a.moment before || x))
          (rises_lasting t (Some a.moment) (b ∷ rest))
    ] (one_moment a b)

-- ---- the mark

abbrev marked_by : List Run → ℕ → ℕ → List Value → List Value → List Value → Bool → Grade
marked_by runs from to counted first last final =
    if nat_lt 0 (length (marked_in (map (entry_of runs) counted) from to)) then Disturbed
    else if not (are_whole from to counted 0 runs && ((length (exchanges_in (map (entry_of runs) counted) from to) == due from to runs)
    && is_below (consumption (map (entry_of runs) counted) from to))) then Unclear
    else if not (is_some (consumption (map (entry_of runs) counted) from to)) then Missing
    else if list_any (λ v. is_guess v.source) (first ++ (last ++ filter (is_exchange from to) counted))
    || (not (list_all is_near_pair (zip first (drop 1 first))) || not (list_all is_near_pair (zip last (drop 1 last)))) then Estimated
    else if not final then Provisional
    else if list_any (λ v. is_put v.source) (first ++ (last ++ filter (is_exchange from to) counted)) then Hand
    else Measured

grade_same : (runs : List Run) (from to : ℕ) (vs ws : List Value) → counting vs ≡ counting ws
    → ((t : ℕ) → deciding t vs ≡ deciding t ws) → is_final runs vs to ≡ is_final runs ws to
    → grade runs vs from to ≡ grade runs ws from to
grade_same runs from to vs ws c d f =
    ap (λ (l : List Value). marked_by runs from to l (deciding from vs) (deciding to vs) (is_final runs vs to)) c
    ∙ (ap (λ (l : List Value). marked_by runs from to (counting ws) l (deciding to vs) (is_final runs vs to)) (d from)
    ∙ (ap (λ (l : List Value). marked_by runs from to (counting ws) (deciding from ws) l (is_final runs vs to)) (d to)
    ∙ ap (λ (b : Bool). marked_by runs from to (counting ws) (deciding from ws) (deciding to ws) b) f))

counted_is : (ys : List value_type.Value) → counting (map know ys) ≡ map know (lasting ys)
counted_is ys = counting_map (λ v. amount_or_0 v.found) known_source ys

counted_again : (ys : List value_type.Value) → counting (map know (lasting ys)) ≡ counting (map know ys)
counted_again ys = counted_is (lasting ys) ∙ (ap (map know) (lasting_again ys) ∙ sym (counted_is ys))

any_again : (t : ℕ) (ys : List value_type.Value) → list_any (lies_at t) (map know (lasting ys)) ≡ list_any (lies_at t) (map know ys)
any_again t ys = any_map (lies_at t) know (lasting ys) ∙ (any_lasting t ys ∙ sym (any_map (lies_at t) know ys))

decides_again : (ys : List value_type.Value) (t : ℕ) → deciding t (map know (lasting ys)) ≡ deciding t (map know ys)
decides_again ys t =
    ap (λ (l : List Value). last_of (passed t l) ++ (if list_any (lies_at t) (map know (lasting ys)) then [] else take 1 (ahead t l))) (counted_again ys)
    ∙ ap (λ (b : Bool). last_of (passed t (counting (map know ys))) ++ (if b then [] else take 1 (ahead t (counting (map know ys))))) (any_again t ys)

final_again : (runs : List Run) (ys : List value_type.Value) (to : ℕ) → is_final runs (map know (lasting ys)) to ≡ is_final runs (map know ys) to
final_again runs ys to = ap (λ (b : Bool). list_any (λ r. is_by to r.over) (last_of runs) || b)
    (sym (rises_is to None (lasting ys)) ∙ (rises_lasting to None ys ∙ rises_is to None ys))

grade_again : (runs : List Run) (from to : ℕ) (ys : List value_type.Value)
    → grade runs (counting (map know ys)) from to ≡ grade runs (map know ys) from to
grade_again runs from to ys = ap (λ (l : List Value). grade runs l from to) (counted_is ys)
    ∙ grade_same runs from to (map know (lasting ys)) (map know ys) (counted_again ys) (decides_again ys) (final_again runs ys to)

amount_again : (runs : List Run) (from to : ℕ) (ys : List value_type.Value)
    → amount runs (counting (map know ys)) from to ≡ amount runs (map know ys) from to
amount_again runs from to ys = ap (λ (l : List Value). amount runs l from to) (counted_is ys)
    ∙ ap (λ (l : List Value). consumption (map (entry_of runs) l) from to) (counted_again ys)

-- what a curve's values give is what all values give
pub marked_of : (R R' : List Run) (t : Bool) (xs : List value_type.Value) (ks : List Value) (es : List Entry) (from to : ℕ) (a : amount_type.Amount)
    → R' ≡ R → ks ≡ counting (known_by t xs) → es ≡ map (entry_of R) ks
    → (IsInOrder es → from ≤ to → a.grade ≡ grade R' ks from to)
    → (IsInOrder es → from ≤ to → a.amount ≡ (if has_number (grade R' ks from to) then amount R' ks from to else None))
    → IsInOrder (map (entry_of R) (counting (known_by t xs))) → from ≤ to → IsMarked R (known_by t xs) from to a
marked_of R R' t xs ks es from to a same values entries ga aa o p =
    let i : IsInOrder es = subst (λ (l : List Entry). IsInOrder l) (sym (entries ∙ ap (map (entry_of R)) values)) o in
    let vs : List Value = known_by t xs in
    let g : grade R' ks from to ≡ grade R vs from to =
    ap (λ (r : List Run). grade r ks from to) same
    ∙ (ap (λ (l : List Value). grade R l from to) values
    ∙ subst (λ (l : List Value). grade R (counting l) from to ≡ grade R l from to) (sym (known_kept t xs)) (grade_again R from to (filter (does_count t) xs))) in
    let n : amount R' ks from to ≡ amount R vs from to =
    ap (λ (r : List Run). amount r ks from to) same
    ∙ (ap (λ (l : List Value). amount R l from to) values
    ∙ subst (λ (l : List Value). amount R (counting l) from to ≡ amount R l from to) (sym (known_kept t xs)) (amount_again R from to (filter (does_count t) xs))) in
    record {
      grade_is = ga i p ∙ g;
      amount_is = aa i p ∙ (ap (λ (y : Grade). if has_number y then amount R' ks from to else None) g
          ∙ ap (λ (x : Option ℕ). if has_number (grade R vs from to) then x else None) n);
    }
