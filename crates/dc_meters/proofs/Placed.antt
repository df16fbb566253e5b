-- Places through the changes of the meters.
use Rattle.std.proofs.Common.{◌≡◌, Bool, true, false, cond, List, Option, None, Some, refl, sym, ap, subst, ◌∙◌}
use Rattle.std.specs.Prelude.{◌&&◌, ◌||◌, not}
use Rattle.std.specs.Map.{lookup}
use Rattle.std.specs.BTreeMap.{is_at}
use Rattle.std.specs.declared.cmp.Ordering.{Ordering}
use Rattle.mbdc_io.proofs.Bools.{or_false}
use Rattle.dc_address.specs.declared.identity.Identity.{Identity}
use Rattle.dc_address.specs.Identity.{identity_cmp}
use Rattle.dc_address.proofs.Order.{same_from_tie}
use Rattle.mbdc_change.specs.State.{MeterRow}
use Rattle.dc_meters.specs.Places.{among, stands, is_own, IsNowhere, ArePlaces}

-- ---- tests that are met or not

and_true : (a : Bool) → (a && true) ≡ a
and_true true = refl
and_true false = refl

-- what came in and went out again was never there
in_and_out : (o t h : Bool) → (t ≡ true → o ≡ false) → ((o || (t && h)) && not (t && h)) ≡ o
in_and_out true true h new = absurd (let e = new refl in cc)
in_and_out true false h new = refl
in_and_out false true true new = refl
in_and_out false true false new = refl
in_and_out false false h new = refl

module _ {P : Type 0} (cmp : P → P → Ordering) (meter_of : P → Identity) (here : P → MeterRow → Bool) where
  abbrev row_at : P → List (Identity × MeterRow) → Option MeterRow
  row_at q meters = lookup (is_at (identity_cmp (meter_of q))) meters

  abbrev own : Identity → MeterRow → P → Bool
  own meter row q = is_own meter_of here meter row q

  -- the row at a place of this meter is this meter's
  same_row : (meter : Identity) (q : P) (meters : List (Identity × MeterRow)) (o : Option MeterRow) → is_at (identity_cmp meter) (meter_of q) ≡ true → lookup (is_at (identity_cmp meter)) meters ≡ o → row_at q meters ≡ o
  same_row meter q meters o e is = subst (λ (m : Identity). lookup (is_at (identity_cmp m)) meters ≡ o) (same_from_tie meter (meter_of q) e) is

  -- a meter that isn't registered has no place
  pub nowhere : (places : List P) (meters : List (Identity × MeterRow)) (meter : Identity) → ArePlaces cmp meter_of here places meters → lookup (is_at (identity_cmp meter)) meters ≡ None → IsNowhere cmp meter_of meter places
  nowhere places meters meter are absent q e = are q ∙ ap (stands here q) (same_row meter q meters None e absent)

  module _ (places new : List P) (old meters : List (Identity × MeterRow)) (meter : Identity) (are : ArePlaces cmp meter_of here places old) where
    -- a meter more
    pub placed_more : (row : MeterRow) → lookup (is_at (identity_cmp meter)) old ≡ None → ((q : P) → among cmp new q ≡ (among cmp places q || own meter row q))
        → ((k : Identity) → lookup (is_at (identity_cmp k)) meters ≡ cond (is_at (identity_cmp meter) k) (Some row) (lookup (is_at (identity_cmp k)) old)) → ArePlaces cmp meter_of here new meters
    placed_more row absent in_is map_is q = in_is q ∙ at (is_at (identity_cmp meter) (meter_of q)) refl ∙ sym (ap (stands here q) (map_is (meter_of q)))
      where
        at : (t : Bool) → is_at (identity_cmp meter) (meter_of q) ≡ t → (among cmp places q || (t && here q row)) ≡ stands here q (cond t (Some row) (row_at q old))
        at true e = ap (λ (b : Bool). b || here q row) (nowhere places old meter are absent q e)
        at false e = or_false (among cmp places q) ∙ are q

    -- a meter less
    pub placed_less : (row : MeterRow) → lookup (is_at (identity_cmp meter)) old ≡ Some row → ((q : P) → among cmp new q ≡ (among cmp places q && not (own meter row q)))
        → ((k : Identity) → lookup (is_at (identity_cmp k)) meters ≡ cond (is_at (identity_cmp meter) k) None (lookup (is_at (identity_cmp k)) old)) → ArePlaces cmp meter_of here new meters
    placed_less row found out_is map_is q = out_is q ∙ at (is_at (identity_cmp meter) (meter_of q)) refl ∙ sym (ap (stands here q) (map_is (meter_of q)))
      where
        none : (b : Bool) → (b && not b) ≡ false
        none true = refl
        none false = refl

        at : (t : Bool) → is_at (identity_cmp meter) (meter_of q) ≡ t → (among cmp places q && not (t && here q row)) ≡ stands here q (cond t None (row_at q old))
        at true e = ap (λ (b : Bool). b && not (here q row)) (are q ∙ ap (stands here q) (same_row meter q old (Some row) e found)) ∙ none (here q row)
        at false e = and_true (among cmp places q) ∙ are q

    -- a meter with another row at the same place
    pub placed_same : (row after : MeterRow) → lookup (is_at (identity_cmp meter)) old ≡ Some row → ((q : P) → here q after ≡ here q row) → ((q : P) → among cmp new q ≡ among cmp places q)
        → ((k : Identity) → lookup (is_at (identity_cmp k)) meters ≡ cond (is_at (identity_cmp meter) k) (Some after) (lookup (is_at (identity_cmp k)) old)) → ArePlaces cmp meter_of here new meters
    placed_same row after found alike same map_is q = same q ∙ are q ∙ at (is_at (identity_cmp meter) (meter_of q)) refl ∙ sym (ap (stands here q) (map_is (meter_of q)))
      where
        at : (t : Bool) → is_at (identity_cmp meter) (meter_of q) ≡ t → stands here q (row_at q old) ≡ stands here q (cond t (Some after) (row_at q old))
        at true e = ap (stands here q) (same_row meter q old (Some row) e found) ∙ sym (alike q)
        at false e = refl

    -- a meter with another row at another place
    pub placed_moved : (between : List P) (row after : MeterRow) → lookup (is_at (identity_cmp meter)) old ≡ Some row → ((q : P) → here q row ≡ true → here q after ≡ true → ⊥)
        → ((q : P) → among cmp between q ≡ (among cmp places q || own meter after q)) → ((q : P) → among cmp new q ≡ (among cmp between q && not (own meter row q)))
        → ((k : Identity) → lookup (is_at (identity_cmp k)) meters ≡ cond (is_at (identity_cmp meter) k) (Some after) (lookup (is_at (identity_cmp k)) old)) → ArePlaces cmp meter_of here new meters
    placed_moved between row after found apart in_is out_is map_is q =
        out_is q ∙ ap (λ (b : Bool). b && not (own meter row q)) (in_is q) ∙ at (is_at (identity_cmp meter) (meter_of q)) refl ∙ sym (ap (stands here q) (map_is (meter_of q)))
      where
        other : (h a : Bool) → (h ≡ true → a ≡ true → ⊥) → ((h || a) && not h) ≡ a
        other true true away = absurd (away refl refl)
        other true false away = refl
        other false true away = refl
        other false false away = refl

        at : (t : Bool) → is_at (identity_cmp meter) (meter_of q) ≡ t → ((among cmp places q || (t && here q after)) && not (t && here q row)) ≡ stands here q (cond t (Some after) (row_at q old))
        at true e = ap (λ (b : Bool). (b || here q after) && not (here q row)) (are q ∙ ap (stands here q) (same_row meter q old (Some row) e found)) ∙ other (here q row) (here q after) (apart q)
        at false e = and_true (among cmp places q || false) ∙ or_false (among cmp places q) ∙ are q

  -- a meter that came in and went out again
  pub placed_back : (places between back : List P) (meter : Identity) (row : MeterRow) → IsNowhere cmp meter_of meter places → ((q : P) → among cmp between q ≡ (among cmp places q || own meter row q))
      → ((q : P) → among cmp back q ≡ (among cmp between q && not (own meter row q))) → (q : P) → among cmp back q ≡ among cmp places q
  placed_back places between back meter row away in_is out_is q =
      out_is q ∙ ap (λ (b : Bool). b && not (own meter row q)) (in_is q) ∙ in_and_out (among cmp places q) (is_at (identity_cmp meter) (meter_of q)) (here q row) (away q)
