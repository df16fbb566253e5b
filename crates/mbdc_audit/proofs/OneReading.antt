-- Evidence gives a house one amount a value.
use Rattle.std.proofs.Common.{◌≡◌, ℕ, List, [], ◌∷◌, drop, flat_map, get_or, map, Some, Result, Ok, Err, refl, sym, ap, ◌∙◌, subst}
use Rattle.std.specs.Prelude.{All, slice_get}
use Rattle.mbdc_audit.specs.Evidence.{Rests}
use Rattle.mbdc_audit.specs.File.{bare_house, bare_place, bare_value, bare_window}
use Rattle.mbdc_audit.specs.House.{House, Place, Run, Source, Use, Value, Window, current, stored, ended, anew, put, first, last}
use Rattle.mbdc_audit.specs.Settled.{AreOnly, AreSettled, IsOnly, IsReadBy}
use Rattle.mbdc_audit.specs.Sound.{IfAnew, IsEvident, IsRead}
use Rattle.mbdc_audit.specs.View.{amount_or_0, found_of, place_of, run_of, seen_value, source_of, value_of, window_of}
use Rattle.mbdc_audit.specs.Walk.{AreJudged}
use Rattle.mbdc_audit.specs.declared.house.Place as place_type
use Rattle.mbdc_audit.specs.declared.house.Value as value_type
use Rattle.mbdc_audit.specs.declared.house.Window as window_type
use Rattle.mbdc_audit.specs.declared.uses.Counted.{Counted}
use Rattle.mbdc_audit.proofs.Bodies.{all_front, all_rest}
use Rattle.mbdc_audit.proofs.Settled.{Each, Stands, they_stand}

-- ---- a value

same_ok : {E : Type 0} (f : Result ℕ E) (n m : ℕ) → f ≡ Ok n → f ≡ Ok m → n ≡ m
same_ok {E} f n m e e' = sym (ap (λ (r : Result ℕ E). amount_or_0 r) e) ∙ ap (λ (r : Result ℕ E). amount_or_0 r) e'

anew_is : {E : Type 0} (f : Result ℕ E) (n : ℕ) → ((m : ℕ) → f ≡ Ok m → m ≡ n) → n ≡ 0 → amount_or_0 f ≡ n
anew_is (Ok m) n one none = one m refl
anew_is (Err e) n one none = sym none

found_is : {E : Type 0} (s : Source) (r : Run) (q : Counted) (u : Value) (f : Result ℕ E) (F : Type 0) → Rests r q u s
    → ((m : ℕ) → f ≡ Ok m → m ≡ u.amount) → (IfAnew s F → f ≡ Ok u.amount) → amount_or_0 f ≡ u.amount
found_is anew r q u f F rests one is = anew_is f u.amount one rests
found_is {E} (current b) r q u f F rests one is = ap (λ (x : Result ℕ E). amount_or_0 x) (is tt)
found_is {E} (stored e b) r q u f F rests one is = ap (λ (x : Result ℕ E). amount_or_0 x) (is tt)
found_is {E} (ended e b) r q u f F rests one is = ap (λ (x : Result ℕ E). amount_or_0 x) (is tt)
found_is {E} (put g t) r q u f F rests one is = ap (λ (x : Result ℕ E). amount_or_0 x) (is tt)
found_is {E} (first g t) r q u f F rests one is = ap (λ (x : Result ℕ E). amount_or_0 x) (is tt)
found_is {E} (last g t) r q u f F rests one is = ap (λ (x : Result ℕ E). amount_or_0 x) (is tt)

value_is : (rs : List Run) (q : Counted) (all vs : List Value) (j v : value_type.Value) → Stands rs q all j v → (u : Value)
    → bare_value u ≡ bare_value (seen_value v) → IsEvident rs q vs u → u ≡ seen_value v
value_is rs q all vs j v st u bare is =
    let n : ℕ = u.amount in
    let same : u ≡ value_of n v = ap (λ (x : Value). record x { amount = n }) bare in
    let run : slice_get rs v.run ≡ Some is.0 = ap (λ (x : Value). slice_get rs x.run) (sym same) ∙ is.1 in
    let rests : Rests is.0 q (value_of n v) (source_of v) = subst (λ (x : Value). Rests is.0 q x x.source) same is.2 in
    let by_itself = (st.rests n).1 (is.0, run, rests) in
    let amount : amount_or_0 v.found ≡ n = found_is (source_of v) is.0 q (value_of n v) v.found _ rests
    (λ m e. same_ok j.found m n ((st.falls m).0 e).0 by_itself) (λ falls. (st.falls n).1 (by_itself, falls)) in
    same ∙ ap (λ (m : ℕ). value_of m v) (sym amount)

-- ---- lists

tail_is : {X Y : Type 0} (f : X → Y) (x : Y) (xs : List Y) (y : Y) (ys : List Y) → x ∷ xs ≡ y ∷ ys → (x ≡ y) × (xs ≡ ys)
tail_is {X} {Y} f x xs y ys e = (ap (λ (l : List Y). get_or l 0 x) e, ap (λ (l : List Y). drop 1 l) e)

values_are : (rs : List Run) (q : Counted) (all seen : List Value) (js vs : List value_type.Value) → Each (Stands rs q all) js vs → (us : List Value)
    → map bare_value us ≡ map bare_value (map seen_value vs) → All (IsEvident rs q seen) us → us ≡ map seen_value vs
values_are rs q all seen [] [] st [] bare are = refl
values_are rs q all seen [] [] st (u ∷ us) bare are = absurd cc
values_are rs q all seen [] (v ∷ vs) st us bare are = absurd st
values_are rs q all seen (j ∷ js) [] st us bare are = absurd st
values_are rs q all seen (j ∷ js) (v ∷ vs) st [] bare are = absurd cc
values_are rs q all seen (j ∷ js) (v ∷ vs) st (u ∷ us) bare are =
    let two = tail_is bare_value (bare_value u) (map bare_value us) (bare_value (seen_value v)) (map bare_value (map seen_value vs)) bare in
    ap (λ (x : Value). x ∷ us) (value_is rs q all seen j v st.0 u two.0 (all_front (IsEvident rs q seen) u us are))
    ∙ ap (λ (l : List Value). seen_value v ∷ l) (values_are rs q all seen js vs st.1 us two.1 (all_rest (IsEvident rs q seen) u us are))

same_window : (w x : Window) → bare_window w ≡ bare_window x → w.values ≡ x.values → w ≡ x
same_window w x bare values = ap (λ (y : Window). record y { values = w.values }) bare ∙ ap (λ (vs : List Value). record x { values = vs }) values

pub only : {A : Type 0} (rs : List Run) (q : Counted) (os js : List value_type.Value) (x : window_type.Window A) → AreJudged rs q os js
    → AreSettled js x.values.items → IsOnly rs q x
only rs q os js x judged settled w bare read = same_window w (window_of x) bare
    (values_are rs q (flat_map found_of js) w.values js x.values.items (they_stand rs q os js x.values.items judged settled) w.values
    (ap (λ (y : Window). y.values) bare) read.values)

windows_are : {A : Type 0} (rs : List Run) (q : Counted) (xs : List (window_type.Window A)) → All (λ x. IsOnly rs q x) xs → (ws : List Window)
    → map bare_window ws ≡ map bare_window (map window_of xs) → All (IsRead rs q) ws → ws ≡ map window_of xs
windows_are rs q [] are [] bare read = refl
windows_are rs q [] are (w ∷ ws) bare read = absurd cc
windows_are rs q (x ∷ xs) are [] bare read = absurd cc
windows_are rs q (x ∷ xs) are (w ∷ ws) bare read =
    let two = tail_is bare_window (bare_window w) (map bare_window ws) (bare_window (window_of x)) (map bare_window (map window_of xs)) bare in
    ap (λ (y : Window). y ∷ ws) (all_front (λ y. IsOnly rs q y) x xs are w two.0 (all_front (IsRead rs q) w ws read))
    ∙ ap (λ (l : List Window). window_of x ∷ l) (windows_are rs q xs (all_rest (λ y. IsOnly rs q y) x xs are) ws two.1 (all_rest (IsRead rs q) w ws read))

place_is : {A : Type 0} (us : List Use) (p : place_type.Place A) → AreOnly us p → (g : Place) → bare_place g ≡ bare_place (place_of p)
    → IsReadBy us g → g ≡ place_of p
place_is us p are g bare read =
    let u : Use = read.0 in
    let used : slice_get us p.used ≡ Some u = ap (λ (x : Place). slice_get us x.used) (sym bare) ∙ read.1 in
    let runs : g.runs ≡ map run_of p.runs.items = ap (λ (x : Place). x.runs) bare in
    let windows : g.windows ≡ map window_of p.windows.items = windows_are (map run_of p.runs.items) u.counts p.windows.items (are u used) g.windows
    (ap (λ (x : Place). x.windows) bare) (subst (λ (rs : List Run). All (IsRead rs u.counts) g.windows) runs read.2) in
    ap (λ (x : Place). record x { windows = g.windows }) bare ∙ ap (λ (ws : List Window). record (place_of p) { windows = ws }) windows

places_are : {A : Type 0} (us : List Use) (ps : List (place_type.Place A)) → All (λ p. AreOnly us p) ps → (gs : List Place)
    → map bare_place gs ≡ map bare_place (map place_of ps) → All (IsReadBy us) gs → gs ≡ map place_of ps
places_are us [] are [] bare read = refl
places_are us [] are (g ∷ gs) bare read = absurd cc
places_are us (p ∷ ps) are [] bare read = absurd cc
places_are us (p ∷ ps) are (g ∷ gs) bare read =
    let two = tail_is bare_place (bare_place g) (map bare_place gs) (bare_place (place_of p)) (map bare_place (map place_of ps)) bare in
    ap (λ (y : Place). y ∷ gs) (place_is us p (all_front (λ y. AreOnly us y) p ps are) g two.0 (all_front (IsReadBy us) g gs read))
    ∙ ap (λ (l : List Place). place_of p ∷ l) (places_are us ps (all_rest (λ y. AreOnly us y) p ps are) gs two.1 (all_rest (IsReadBy us) g gs read))

-- A HOUSE of the same lines, whose values have evidence, is this one
pub house_is : {A : Type 0} (ps : List (place_type.Place A)) (h g : House) → h.places ≡ map place_of ps → bare_house g ≡ bare_house h
    → All (λ p. AreOnly h.uses p) ps → All (IsReadBy g.uses) g.places → g ≡ h
house_is ps h g is bare are read =
    let uses : g.uses ≡ h.uses = ap (λ (x : House). x.uses) bare in
    let places : g.places ≡ h.places = places_are h.uses ps are g.places
    (ap (λ (x : House). x.places) bare ∙ ap (λ (l : List Place). map bare_place l) is)
    (subst (λ (us : List Use). All (IsReadBy us) g.places) uses read) ∙ sym is in
    ap (λ (x : House). record x { places = g.places }) bare ∙ ap (λ (l : List Place). record h { places = l }) places
