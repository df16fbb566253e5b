-- A user has the whole of a span, by the places as the code has them.
use Rattle.std.proofs.Common.{arith, ◌≡◌, ◌&&◌, ◌||◌, ◌-◌, ℕ, suc, List, [], ◌∷◌, ◌++◌, Bool, true, false, map, filter, length, Option, None, Some}
use Rattle.std.proofs.Common.{refl, sym, ap, ◌∙◌, if◌then◌else◌}
use Rattle.std.specs.Prelude.{nat_lt, flat_map, ◌==◌, find, option_map, slice_get}
use Rattle.std.specs.List.{list_all, list_any}
use Rattle.std.specs.Str.{bytes_eq}
use Rattle.std.proofs.lemmas.List.Elements.{filter-append}
use Rattle.std.proofs.lemmas.List.Folds.{list_all-append, list_all-map}
use Rattle.std.proofs.lemmas.Option.{slice_get-map}
use Rattle.std.proofs.lemmas.Bool.Decides.{nat_tests}
use Rattle.mbdc_audit.specs.declared.house.House as house_type
use Rattle.mbdc_audit.specs.declared.house.Place as place_type
use Rattle.mbdc_audit.specs.declared.house.Span as span_type
use Rattle.mbdc_audit.specs.declared.house.User as user_type
use Rattle.mbdc_audit.specs.declared.house.Window as window_type
use Rattle.mbdc_audit.specs.House.{Run, Span, User, at}
use Rattle.mbdc_audit.specs.Published.{Open, fills, has_whole, is_of_flat, is_part_user, opened, own, user_at}
use Rattle.mbdc_audit.specs.Sound.{begin_at, end_at, from, to}
use Rattle.mbdc_audit.specs.Totals.{has_own, is_filled, is_window_own}
use Rattle.mbdc_audit.specs.View.{house_of, part_of, place_of, run_of, span_of, user_of, window_of}
use Rattle.mbdc_audit.specs.Walk.{open_of}

-- ---- users

found_one : (n : ℕ) (u : user_type.User) (b : Bool) (x : Option User) (y : Option user_type.User) → x ≡ option_map user_of y
    → (if b then Some (user_of u) else x) ≡ option_map user_of (if b then Some u else y)
found_one n u true x y e = refl
found_one n u false x y e = e

pub user_is : (n : ℕ) (users : List user_type.User) → find (λ u. u.number == n) (map user_of users) ≡ option_map user_of (find (λ u. u.number == n) users)
user_is n [] = refl
user_is n (u ∷ users) = found_one n u (u.number == n) _ _ (user_is n users)

-- ---- whether there is one

abbrev pub has_some : List Open → Bool
has_some [] = false
has_some (o ∷ os) = true

some_is : (os : List Open) → nat_lt 0 (length os) ≡ has_some os
some_is [] = grind (arith, nat_tests)
some_is (o ∷ os) = grind (arith, nat_tests)

some_append : (xs ys : List Open) → has_some (xs ++ ys) ≡ (has_some xs || has_some ys)
some_append [] ys = refl
some_append (x ∷ xs) ys = refl

-- the windows of a place
abbrev opens : {A : Type 0} → ℕ → place_type.Place A → List (window_type.Window A) → List Open
opens span p ws = map (λ w. open_of (place_of p) w) (filter (λ w. w.span == span) (map window_of ws))

some_window : {A : Type 0} (u : User) (span : ℕ) (p : place_type.Place A) (w : window_type.Window A) (ws : List (window_type.Window A)) (b c : Bool)
    → bytes_eq u.flat p.flat.now ≡ c
    → has_some (filter (is_of_flat (Some u)) (opens span p ws)) ≡ (c && list_any (λ w. w.span == span) ws)
    → has_some (filter (is_of_flat (Some u)) (map (λ v. open_of (place_of p) v) (if b then window_of w ∷ filter (λ v. v.span == span) (map window_of ws) else filter (λ v. v.span == span) (map window_of ws))))
    ≡ (c && (b || list_any (λ v. v.span == span) ws))
some_window u span p w ws true true e more = ap (λ (d : Bool). has_some (if d then open_of (place_of p) (window_of w) ∷ filter (is_of_flat (Some u)) (opens span p ws) else filter (is_of_flat (Some u)) (opens span p ws))) e
some_window u span p w ws true false e more = ap (λ (d : Bool). has_some (if d then open_of (place_of p) (window_of w) ∷ filter (is_of_flat (Some u)) (opens span p ws) else filter (is_of_flat (Some u)) (opens span p ws))) e ∙ more
some_window u span p w ws false c e more = more

and_false : (b : Bool) → false ≡ (b && false)
and_false true = refl
and_false false = refl

some_windows : {A : Type 0} (u : User) (span : ℕ) (p : place_type.Place A) (ws : List (window_type.Window A))
    → has_some (filter (is_of_flat (Some u)) (opens span p ws)) ≡ (bytes_eq u.flat p.flat.now && list_any (λ w. w.span == span) ws)
some_windows u span p [] = and_false (bytes_eq u.flat p.flat.now)
some_windows u span p (w ∷ ws) = some_window u span p w ws (w.span == span) (bytes_eq u.flat p.flat.now) refl (some_windows u span p ws)

abbrev pub opened_in : {A : Type 0} → ℕ → ℕ → List (place_type.Place A) → List Open
opened_in span used ps = flat_map (λ q. map (λ w. open_of q w) (filter (λ w. w.span == span) q.windows)) (filter (λ q. q.used == used) (map place_of ps))

some_place : {A : Type 0} (u : User) (span used : ℕ) (p : place_type.Place A) (ps : List (place_type.Place A)) (b : Bool)
    → has_some (filter (is_of_flat (Some u)) (opened_in span used ps)) ≡ list_any (has_own u.flat used span) ps
    → has_some (filter (is_of_flat (Some u)) (flat_map (λ q. map (λ w. open_of q w) (filter (λ w. w.span == span) q.windows))
    (if b then place_of p ∷ filter (λ q. q.used == used) (map place_of ps) else filter (λ q. q.used == used) (map place_of ps))))
    ≡ ((b && (bytes_eq u.flat p.flat.now && list_any (λ w. w.span == span) p.windows.items)) || list_any (has_own u.flat used span) ps)
some_place u span used p ps true more =
    ap has_some (filter-append (is_of_flat (Some u)) (opens span p p.windows.items) (opened_in span used ps))
    ∙ (some_append (filter (is_of_flat (Some u)) (opens span p p.windows.items)) (filter (is_of_flat (Some u)) (opened_in span used ps))
    ∙ (ap (λ (d : Bool). d || has_some (filter (is_of_flat (Some u)) (opened_in span used ps))) (some_windows u span p p.windows.items)
    ∙ ap (λ (d : Bool). (bytes_eq u.flat p.flat.now && list_any (λ w. w.span == span) p.windows.items) || d) more))
some_place u span used p ps false more = more

pub some_places : {A : Type 0} (u : User) (span used : ℕ) (ps : List (place_type.Place A))
    → has_some (filter (is_of_flat (Some u)) (opened_in span used ps)) ≡ list_any (has_own u.flat used span) ps
some_places u span used [] = refl
some_places u span used (p ∷ ps) = some_place u span used p ps (p.used == used) (some_places u span used ps)

-- ---- whether all are the user's

joined : (c d g any all : Bool) → (any ≡ false → all ≡ true)
    → ((c && (d && g)) && (if any then c && (d && all) else true)) ≡ (c && (d && (g && all)))
joined false d g any all none = refl
joined true false g any all none = refl
joined true true true true all none = refl
joined true true false true all none = refl
joined true true true false all none = sym (none refl)
joined true true false false all none = refl

-- whether a place's time covers a span
abbrev covers : {A : Type 0} → Span → place_type.Place A → Bool
covers s p = (begin_at (option_map run_of (slice_get p.runs.items 0)) (at s.from) == at s.from)

abbrev reaches : {A : Type 0} → Span → place_type.Place A → Bool
reaches s p = (end_at (option_map run_of (slice_get p.runs.items (length p.runs.items - 1))) (at s.to) == at s.to)

covers_is : {A : Type 0} (s : Span) (p : place_type.Place A) → (from (place_of p) s == at s.from) ≡ covers s p
covers_is s p = ap (λ (r : Option Run). begin_at r (at s.from) == at s.from) (slice_get-map run_of p.runs.items 0)

length_of : {X Y : Type 0} (f : X → Y) (xs : List X) → length (map f xs) ≡ length xs
length_of f [] = refl
length_of f (x ∷ xs) = ap suc (length_of f xs)

reaches_is : {A : Type 0} (s : Span) (p : place_type.Place A) → (to (place_of p) s == at s.to) ≡ reaches s p
reaches_is s p = ap (λ (n : ℕ). end_at (slice_get (map run_of p.runs.items) (n - 1)) (at s.to) == at s.to) (length_of run_of p.runs.items)
    ∙ ap (λ (r : Option Run). end_at r (at s.to) == at s.to) (slice_get-map run_of p.runs.items (length p.runs.items - 1))

fills_is : {A : Type 0} (who : ℕ) (s : Span) (p : place_type.Place A) (w : window_type.Window A)
    → fills (Some s) who (open_of (place_of p) (window_of w)) ≡ (covers s p && (reaches s p && list_all (λ x. is_part_user who x.user) w.parts.items))
fills_is who s p w =
    ap (λ (b : Bool). b && ((to (place_of p) s == at s.to) && list_all (λ x. is_part_user who x.user) (map part_of w.parts.items))) (covers_is s p)
    ∙ (ap (λ (b : Bool). covers s p && (b && list_all (λ x. is_part_user who x.user) (map part_of w.parts.items))) (reaches_is s p)
    ∙ ap (λ (b : Bool). covers s p && (reaches s p && b)) (list_all-map (λ x. is_part_user who x.user) part_of w.parts.items))

-- none of the span's windows, so all that are the user's
none_own : {A : Type 0} (who span : ℕ) (w : window_type.Window A) (ws : List (window_type.Window A)) (b : Bool) (any all : Bool) → (any ≡ false → all ≡ true)
    → (b || any) ≡ false → ((if b then list_all (λ x. is_part_user who x.user) w.parts.items else true) && all) ≡ true
none_own who span w ws true any all none e = absurd cc
none_own who span w ws false any all none e = none e

no_window : {A : Type 0} (who span : ℕ) (ws : List (window_type.Window A)) → list_any (λ w. w.span == span) ws ≡ false → list_all (is_window_own who span) ws ≡ true
no_window who span [] e = refl
no_window who span (w ∷ ws) e = none_own who span w ws (w.span == span) _ _ (no_window who span ws) e

filled_window : {A : Type 0} (u : User) (who span : ℕ) (s : Span) (p : place_type.Place A) (w : window_type.Window A) (ws : List (window_type.Window A)) (b c : Bool)
    → bytes_eq u.flat p.flat.now ≡ c
    → list_all (fills (Some s) who) (filter (is_of_flat (Some u)) (opens span p ws))
    ≡ (if c && list_any (λ v. v.span == span) ws then covers s p && (reaches s p && list_all (is_window_own who span) ws) else true)
    → list_all (fills (Some s) who) (filter (is_of_flat (Some u)) (map (λ v. open_of (place_of p) v) (if b then window_of w ∷ filter (λ v. v.span == span) (map window_of ws) else filter (λ v. v.span == span) (map window_of ws))))
    ≡ (if c && (b || list_any (λ v. v.span == span) ws) then covers s p && (reaches s p
    && ((if b then list_all (λ x. is_part_user who x.user) w.parts.items else true) && list_all (is_window_own who span) ws)) else true)
filled_window u who span s p w ws true true e more =
    ap (λ (d : Bool). list_all (fills (Some s) who) (if d then open_of (place_of p) (window_of w) ∷ filter (is_of_flat (Some u)) (opens span p ws) else filter (is_of_flat (Some u)) (opens span p ws))) e
    ∙ (ap (λ (d : Bool). d && list_all (fills (Some s) who) (filter (is_of_flat (Some u)) (opens span p ws))) (fills_is who s p w)
    ∙ (ap (λ (d : Bool). (covers s p && (reaches s p && list_all (λ x. is_part_user who x.user) w.parts.items)) && d) more
    ∙ joined (covers s p) (reaches s p) (list_all (λ x. is_part_user who x.user) w.parts.items) (list_any (λ v. v.span == span) ws)
    (list_all (is_window_own who span) ws) (no_window who span ws)))
filled_window u who span s p w ws true false e more =
    ap (λ (d : Bool). list_all (fills (Some s) who) (if d then open_of (place_of p) (window_of w) ∷ filter (is_of_flat (Some u)) (opens span p ws) else filter (is_of_flat (Some u)) (opens span p ws))) e ∙ more
filled_window u who span s p w ws false c e more = more

filled_windows : {A : Type 0} (u : User) (who span : ℕ) (s : Span) (p : place_type.Place A) (ws : List (window_type.Window A))
    → list_all (fills (Some s) who) (filter (is_of_flat (Some u)) (opens span p ws))
    ≡ (if bytes_eq u.flat p.flat.now && list_any (λ v. v.span == span) ws then covers s p && (reaches s p && list_all (is_window_own who span) ws) else true)
filled_windows u who span s p [] = ap (λ (b : Bool). if b then covers s p && (reaches s p && true) else true) (and_false (bytes_eq u.flat p.flat.now))
filled_windows u who span s p (w ∷ ws) = filled_window u who span s p w ws (w.span == span) (bytes_eq u.flat p.flat.now) refl (filled_windows u who span s p ws)

filled_place : {A : Type 0} (u : User) (who span used : ℕ) (s : Span) (p : place_type.Place A) (ps : List (place_type.Place A)) (b : Bool)
    → list_all (fills (Some s) who) (filter (is_of_flat (Some u)) (opened_in span used ps)) ≡ list_all (is_filled who u.flat used span s) ps
    → list_all (fills (Some s) who) (filter (is_of_flat (Some u)) (flat_map (λ q. map (λ w. open_of q w) (filter (λ w. w.span == span) q.windows))
    (if b then place_of p ∷ filter (λ q. q.used == used) (map place_of ps) else filter (λ q. q.used == used) (map place_of ps))))
    ≡ ((if b && (bytes_eq u.flat p.flat.now && list_any (λ w. w.span == span) p.windows.items)
    then covers s p && (reaches s p && list_all (is_window_own who span) p.windows.items) else true) && list_all (is_filled who u.flat used span s) ps)
filled_place u who span used s p ps true more =
    ap (λ (l : List Open). list_all (fills (Some s) who) l) (filter-append (is_of_flat (Some u)) (opens span p p.windows.items) (opened_in span used ps))
    ∙ (list_all-append (fills (Some s) who) (filter (is_of_flat (Some u)) (opens span p p.windows.items)) (filter (is_of_flat (Some u)) (opened_in span used ps))
    ∙ (ap (λ (d : Bool). d && list_all (fills (Some s) who) (filter (is_of_flat (Some u)) (opened_in span used ps))) (filled_windows u who span s p p.windows.items)
    ∙ ap (λ (d : Bool). (if bytes_eq u.flat p.flat.now && list_any (λ v. v.span == span) p.windows.items
    then covers s p && (reaches s p && list_all (is_window_own who span) p.windows.items) else true) && d) more))
filled_place u who span used s p ps false more = more

filled_places : {A : Type 0} (u : User) (who span used : ℕ) (s : Span) (ps : List (place_type.Place A))
    → list_all (fills (Some s) who) (filter (is_of_flat (Some u)) (opened_in span used ps)) ≡ list_all (is_filled who u.flat used span s) ps
filled_places u who span used s [] = refl
filled_places u who span used s (p ∷ ps) = filled_place u who span used s p ps (p.used == used) (filled_places u who span used s ps)

-- ---- the whole

nobody : (os : List Open) → filter (is_of_flat None) os ≡ []
nobody [] = refl
nobody (o ∷ os) = nobody os

none_filled : (who : ℕ) (os : List Open) → (nat_lt 0 (length os) && list_all (fills None who) os) ≡ false
none_filled who [] = refl
none_filled who (o ∷ os) = sym (and_false (nat_lt 0 (length (o ∷ os))))

pub no_user : {A : Type 0} (h : house_type.House A) (span who used : ℕ) → find (λ u. u.number == who) h.users.items ≡ None
    → has_whole (house_of h) span who used ≡ false
no_user h span who used none =
    let e : user_at (house_of h) who ≡ None = user_is who h.users.items ∙ ap (λ (u : Option user_type.User). option_map user_of u) none in
    let f : own (house_of h) span who used ≡ [] = ap (λ (u : Option User). filter (is_of_flat u) (opened (house_of h) span used)) e ∙ nobody (opened (house_of h) span used) in
    ap (λ (os : List Open). nat_lt 0 (length os) && list_all (fills (slice_get (house_of h).spans span) who) os) f

pub no_span : {A : Type 0} (h : house_type.House A) (span who used : ℕ) → slice_get h.spans.items span ≡ None
    → has_whole (house_of h) span who used ≡ false
no_span h span who used none =
    let e : slice_get (house_of h).spans span ≡ None = slice_get-map span_of h.spans.items span ∙ ap (λ (s : Option span_type.Span). option_map span_of s) none in
    ap (λ (s : Option Span). nat_lt 0 (length (own (house_of h) span who used)) && list_all (fills s who) (own (house_of h) span who used)) e
    ∙ none_filled who (own (house_of h) span who used)

pub whole_is : {A : Type 0} (h : house_type.House A) (span who used : ℕ) (u : user_type.User) (s : span_type.Span)
    → find (λ u. u.number == who) h.users.items ≡ Some u → slice_get h.spans.items span ≡ Some s
    → has_whole (house_of h) span who used
    ≡ (list_any (has_own u.flat.now used span) h.places.items && list_all (is_filled who u.flat.now used span (span_of s)) h.places.items)
whole_is h span who used u s found there =
    let e : user_at (house_of h) who ≡ Some (user_of u) = user_is who h.users.items ∙ ap (λ (x : Option user_type.User). option_map user_of x) found in
    let f : slice_get (house_of h).spans span ≡ Some (span_of s) = slice_get-map span_of h.spans.items span ∙ ap (λ (x : Option span_type.Span). option_map span_of x) there in
    let os : List Open = filter (is_of_flat (Some (user_of u))) (opened (house_of h) span used) in
    ap (λ (x : Option User). nat_lt 0 (length (filter (is_of_flat x) (opened (house_of h) span used))) && list_all (fills (slice_get (house_of h).spans span) who) (filter (is_of_flat x) (opened (house_of h) span used))) e
    ∙ (ap (λ (x : Option Span). nat_lt 0 (length os) && list_all (fills x who) os) f
    ∙ (ap (λ (b : Bool). b && list_all (fills (Some (span_of s)) who) os) (some_is os ∙ some_places (user_of u) span used h.places.items)
    ∙ ap (λ (b : Bool). list_any (has_own u.flat.now used span) h.places.items && b) (filled_places (user_of u) who span used (span_of s) h.places.items)))
