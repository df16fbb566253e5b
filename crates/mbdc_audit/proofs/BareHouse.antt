-- Lines follow of a house without amounts, too.
use Rattle.std.proofs.Common.{◌≡◌, ℕ, ◌<◌, List, [], ◌∷◌, ◌++◌, length, map, Bool, true, false, Some, refl, ap, sym, ◌∙◌}
use Rattle.std.specs.Prelude.{Any, slice_get}
use Rattle.std.proofs.lemmas.List.{length-map, map-append}
use Rattle.mbdc_audit.specs.Amount.{last_of}
use Rattle.mbdc_audit.specs.declared.line.Line.{Line}
use Rattle.mbdc_audit.specs.File.{Follows, IsSaid, IsSource, MayBeNext, Said, Steps, bare_house, bare_place, bare_value, bare_window, in_last, is_of_place, opened, with_number, with_said}
use Rattle.mbdc_audit.specs.File.{allows, asks, begins, closes, counts, declares, lives, opens, parts, reads, spans, stands, strikes, totals, uses}
use Rattle.mbdc_audit.specs.House.{House, Number, Place, Run, Source, Value, Window, current, stored, ended, anew, put, first, last}
use Rattle.mbdc_audit.specs.Sound.{IsAt}
use Rattle.mbdc_audit.proofs.Alike.{Alike, PlaceLike, Pairs, RunLike, WindowLike, may_like, said_like, same_pairs}

-- ---- it is alike

bare_windows : (ws : List Window) → Pairs WindowLike ws (map bare_window ws)
bare_windows [] = tt
bare_windows (w ∷ ws) = ((refl, sym (length-map w.values bare_value), refl), bare_windows ws)

bare_places : (ps : List Place) → Pairs PlaceLike ps (map bare_place ps)
bare_places [] = tt
bare_places (p ∷ ps) = ((refl, refl, same_pairs RunLike (λ r. (refl, refl)) p.runs, bare_windows p.windows), bare_places ps)

pub alike_bare : (h : House) → Alike h (bare_house h)
alike_bare h = record { uses = refl; allowed = refl; spans = refl; facts = refl; users = refl; places = bare_places h.places }

-- and the other way

windows_bare : (ws : List Window) → Pairs WindowLike (map bare_window ws) ws
windows_bare [] = tt
windows_bare (w ∷ ws) = ((refl, length-map w.values bare_value, refl), windows_bare ws)

places_bare : (ps : List Place) → Pairs PlaceLike (map bare_place ps) ps
places_bare [] = tt
places_bare (p ∷ ps) = ((refl, refl, same_pairs RunLike (λ r. (refl, refl)) p.runs, windows_bare p.windows), places_bare ps)

pub alike_back : (h : House) → Alike (bare_house h) h
alike_back h = record { uses = refl; allowed = refl; spans = refl; facts = refl; users = refl; places = places_bare h.places }

-- ---- a line adds the same without amounts

abbrev pub bare_said : Said → Said
bare_said (stands n p) = stands n (bare_place p)
bare_said (reads v) = reads (bare_value v)
bare_said x = x

map_in_last : {X : Type 0} (b f g : X → X) → ((x : X) → f (b x) ≡ b (g x)) → (xs : List X) → in_last f (map b xs) ≡ map b (in_last g xs)
map_in_last b f g same [] = refl
map_in_last {X} b f g same (x ∷ []) = ap (λ (y : X). y ∷ []) (same x)
map_in_last {X} b f g same (x ∷ y ∷ rest) = ap (λ (ys : List X). b x ∷ ys) (map_in_last b f g same (y ∷ rest))

with_places : (h : House) (ps qs : List Place) → ps ≡ qs → record h { places = ps } ≡ record h { places = qs }
with_places h ps qs same = ap (λ (xs : List Place). record h { places = xs }) same

with_windows : (p : Place) (ws xs : List Window) → ws ≡ xs → record p { windows = ws } ≡ record p { windows = xs }
with_windows p ws xs same = ap (λ (ys : List Window). record p { windows = ys }) same

in_bare : (h : House) (f g : Window → Window) → ((w : Window) → f (bare_window w) ≡ bare_window (g w))
    → in_last (λ p. record p { windows = in_last f p.windows }) (map bare_place h.places)
    ≡ map bare_place (in_last (λ p. record p { windows = in_last g p.windows }) h.places)
in_bare h f g same = map_in_last bare_place (λ p. record p { windows = in_last f p.windows }) (λ p. record p { windows = in_last g p.windows })
    (λ p. with_windows p (in_last f (map bare_window p.windows)) (map bare_window (in_last g p.windows))
    (map_in_last bare_window f g same p.windows)) h.places

number_bare : (b : Bool) (n : Number) (h : House) → with_number b n (bare_house h) ≡ bare_house (with_number b n h)
number_bare true n h = with_places h _ _ (in_bare h (λ w. record w { numbers = w.numbers ++ n ∷ [] }) (λ w. record w { numbers = w.numbers ++ n ∷ [] }) (λ w. refl))
number_bare false n h = refl

pub with_bare : (x : Said) (h : House) → with_said (bare_said x) (bare_house h) ≡ bare_house (with_said x h)
with_bare (begins label) h = refl
with_bare (uses u) h = refl
with_bare (allows a) h = refl
with_bare (spans n s) h = refl
with_bare (declares d) h = refl
with_bare (lives u) h = refl
with_bare (stands n p) h = with_places h _ _ (sym (map-append bare_place h.places (p ∷ [])))
with_bare (counts n r) h = with_places h _ _
    (map_in_last bare_place (λ p. record p { runs = p.runs ++ r ∷ [] }) (λ p. record p { runs = p.runs ++ r ∷ [] }) (λ p. refl) h.places)
with_bare (opens n) h = with_places h _ _
    (map_in_last bare_place (λ p. record p { windows = p.windows ++ opened n ∷ [] }) (λ p. record p { windows = p.windows ++ opened n ∷ [] })
    (λ p. with_windows p _ _ (sym (map-append bare_window p.windows (opened n ∷ [])))) h.places)
with_bare (reads v) h = with_places h _ _ (in_bare h (λ w. record w { values = w.values ++ bare_value v ∷ [] })
    (λ w. record w { values = w.values ++ v ∷ [] })
    (λ w. ap (λ (vs : List Value). record w { values = vs }) (sym (map-append bare_value w.values (v ∷ [])))))
with_bare (strikes y) h = with_places h _ _ (in_bare h (λ w. record w { struck = w.struck ++ y ∷ [] }) (λ w. record w { struck = w.struck ++ y ∷ [] }) (λ w. refl))
with_bare (parts n y) h = with_places h _ _ (in_bare h (λ w. record w { parts = w.parts ++ y ∷ [] }) (λ w. record w { parts = w.parts ++ y ∷ [] }) (λ w. refl))
with_bare (asks n) h = number_bare (is_of_place n.key.word) n h
with_bare totals h = refl
with_bare closes h = refl

source_bare : (v : Value) (s : Source) (l : Line) → IsSource v s l → IsSource (bare_value v) s l
source_bare v (current bodies) l is = is
source_bare v (stored e bodies) l is = is
source_bare v (ended e bodies) l is = is
source_bare v anew l is = is
source_bare v (put guess t) l is = is
source_bare v (first guess t) l is = is
source_bare v (last guess t) l is = is

at_bare : (r : Run) (v : Value) (s : Source) → IsAt r v s → IsAt r (bare_value v) s
at_bare r v (current bodies) is = is
at_bare r v (stored e bodies) is = is
at_bare r v (ended e bodies) is = is
at_bare r v anew is = is
at_bare r v (put guess t) is = is
at_bare r v (first guess t) is = is
at_bare r v (last guess t) is = is

any_of : {X : Type 0} (P Q : X → Type 0) (xs : List X) → ((x : X) → P x → Q x) → Any P xs → Any Q xs
any_of P Q xs f any = (any.0, any.1, any.2, any.3, f any.1 any.4)

may_bare : (h : House) (x : Said) → MayBeNext h x → MayBeNext h (bare_said x)
may_bare h (begins label) may = may
may_bare h (uses u) may = may
may_bare h (allows a) may = may
may_bare h (spans n s) may = may
may_bare h (declares d) may = may
may_bare h (lives u) may = may
may_bare h (stands n p) may = (may.0, may.1, may.2, ap (λ (ws : List Window). map bare_window ws) may.3, may.4)
may_bare h (counts n r) may = may
may_bare h (opens n) may = may
may_bare h (reads v) may = (
  any_of (λ p. Any (λ w. (length w.values < 2048) × ((r : Run) × (slice_get p.runs v.run ≡ Some r) × IsAt r v v.source)) (last_of p.windows))
      (λ p. Any (λ w. (length w.values < 2048) × ((r : Run) × (slice_get p.runs v.run ≡ Some r) × IsAt r (bare_value v) v.source)) (last_of p.windows))
      (last_of h.places)
      (λ p any. any_of (λ w. (length w.values < 2048) × ((r : Run) × (slice_get p.runs v.run ≡ Some r) × IsAt r v v.source))
      (λ w. (length w.values < 2048) × ((r : Run) × (slice_get p.runs v.run ≡ Some r) × IsAt r (bare_value v) v.source)) (last_of p.windows)
      (λ w is. (is.0, (is.1.0, is.1.1, at_bare is.1.0 v v.source is.1.2))) any) may.0,
  may.1,
)
may_bare h (strikes y) may = may
may_bare h (parts n y) may = may
may_bare h (asks n) may = may
may_bare h totals may = may
may_bare h closes may = may

says_bare : (h : House) (x : Said) (l : Line) → IsSaid h x l → IsSaid h (bare_said x) l
says_bare h (begins label) l is = is
says_bare h (uses u) l is = is
says_bare h (allows a) l is = is
says_bare h (spans n s) l is = is
says_bare h (declares d) l is = is
says_bare h (lives u) l is = is
says_bare h (stands n p) l is = is
says_bare h (counts n r) l is = is
says_bare h (opens n) l is = is
says_bare h (reads v) l is = (is.0, source_bare v v.source l is.1)
says_bare h (strikes y) l is = is
says_bare h (parts n y) l is = is
says_bare h (asks n) l is = is
says_bare h totals l is = is
says_bare h closes l is = is

pub follows_bare : (s : ℕ) (text : List ℕ) (h : House) (u : ℕ) (i : House) → Follows s text h u i
    → Follows s text (bare_house h) u (bare_house i)
follows_bare s text h u i f = record {
  short = f.short;
  line = f.line;
  is = f.is;
  follows = f.follows;
  stage_is = f.stage_is;
  adds = record {
    said = bare_said f.adds.said;
    may = may_bare (bare_house h) f.adds.said (may_like h (bare_house h) f.adds.said (alike_bare h) f.adds.may);
    says = says_bare (bare_house i) f.adds.said f.line (said_like f.adds.said i (bare_house i) f.line refl f.adds.says);
    with_it = ap bare_house f.adds.with_it ∙ sym (with_bare f.adds.said h);
  };
}

pub steps_bare : (s : ℕ) (h : House) (lines : List (List ℕ)) (t : ℕ) (g : House) → Steps s h lines t g
    → Steps s (bare_house h) lines t (bare_house g)
steps_bare s h [] t g steps = (steps.0, ap bare_house steps.1)
steps_bare s h (line ∷ lines) t g steps = (
  steps.0,
  bare_house steps.1,
  follows_bare s line h steps.0 steps.1 steps.2,
  steps_bare steps.0 steps.1 lines t g steps.3,
)
