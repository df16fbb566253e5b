-- The open place and its open window.
use Rattle.std.proofs.Common.{arith, ◌≡◌, ◌-◌, ◌<◌, ◌≤◌, ◌↔◌, ℕ, zero, suc, List, [], ◌∷◌, map, set, get_or, Option, None, Vec, sym, ap, ◌∙◌}
use Rattle.std.specs.Prelude.{Any, IsSome, is_some}
use Rattle.std.specs.Vec.{with_item}
use Rattle.std.proofs.lemmas.Bool.{false≢true}
use Rattle.mbdc_audit.specs.Amount.{last_of}
use Rattle.mbdc_audit.specs.House.{House, Place, Window}
use Rattle.mbdc_audit.specs.declared.house.Place as place_type
use Rattle.mbdc_audit.specs.declared.house.Window as window_type
use Rattle.mbdc_audit.specs.File.{InWindow, in_last}
use Rattle.mbdc_audit.specs.View.{place_of, window_of}
use Rattle.mbdc_audit.proofs.Lasts.{any_one, in_last_set, none_any, one_any}

pub into_window : (P : Place → Window → Type 0) (h : House) (p : Place) (w : Window) → last_of h.places ≡ p ∷ []
    → last_of p.windows ≡ w ∷ [] → P p w → InWindow P h
into_window P h p w is_last is_window it = any_one (λ (q : Place). Any (P q) (last_of q.windows)) (last_of h.places) p is_last
    (any_one (P p) (last_of p.windows) w is_window it)

pub from_window : (P : Place → Window → Type 0) (h : House) (p : Place) (w : Window) → last_of h.places ≡ p ∷ []
    → last_of p.windows ≡ w ∷ [] → InWindow P h → P p w
from_window P h p w is_last is_window any = one_any (P p) (last_of p.windows) w is_window
    (one_any (λ (q : Place). Any (P q) (last_of q.windows)) (last_of h.places) p is_last any)

pub no_window : (P : Place → Window → Type 0) (h : House) (p : Place) → last_of h.places ≡ p ∷ []
    → last_of p.windows ≡ [] → InWindow P h → ⊥
no_window P h p is_last none any = none_any (P p) (last_of p.windows) none
    (one_any (λ (q : Place). Any (P q) (last_of q.windows)) (last_of h.places) p is_last any)

-- what `last_mut` didn't find
pub lost_last : {X : Type 0} (len : ℕ) (r : Option X) → r ≡ None → (IsSome r ↔ (0 < len)) → len ≤ 0
lost_last zero r none there = omega arith
lost_last (suc n) r none there = absurd (false≢true (sym (ap is_some none) ∙ there.1 (omega arith)))

pub window_changed : {A B : Type 0} (f : Window → Window) (v : Vec (place_type.Place A) B) (x : place_type.Place A) (y y' : window_type.Window A)
    → 0 < v.len → x ≡ get_or v.items (v.len - 1) x → 0 < x.windows.len → y ≡ get_or x.windows.items (x.windows.len - 1) y
    → window_of y' ≡ f (window_of y)
    → map place_of (set v.items (v.len - 1) (record x { windows = with_item x.windows (x.windows.len - 1) y' }))
    ≡ in_last (λ p. record p { windows = in_last f p.windows }) (map place_of v.items)
window_changed f v x y y' some is some' is' becomes = in_last_set place_of (λ (p : Place). record p { windows = in_last f p.windows })
    v.items v.len x (record x { windows = with_item x.windows (x.windows.len - 1) y' }) v.ok.0 some is
    (ap (λ (ws : List Window). record (place_of x) { windows = ws }) (in_last_set window_of f x.windows.items x.windows.len y y' x.windows.ok.0 some' is' becomes))

-- what is so of some window of the open place
pub from_place : (P : Place → Window → Type 0) (h : House) (p : Place) → last_of h.places ≡ p ∷ [] → InWindow P h → (w : Window) × P p w
from_place P h p is_last any =
    let a = one_any (λ (q : Place). Any (P q) (last_of q.windows)) (last_of h.places) p is_last any in (a.1, a.4)
