-- What is left of a window once its values were read.
use Rattle.std.proofs.Common.{◌≡◌, ◌↔◌, ℕ, List, [], ◌∷◌, length, flat_map, get_or, map, true, Ok, refl, ap, ◌∙◌, subst}
use Rattle.std.specs.Prelude.{All, nat_lt}
use Rattle.mbdc_audit.specs.Amount.{known, of_run}
use Rattle.mbdc_audit.specs.House.{Number, Part, Run, Struck, Value, Window}
use Rattle.mbdc_audit.specs.Settled.{AreSettled, IsSettled, IsTold}
use Rattle.mbdc_audit.specs.View.{amount_or_0, found_of, known_in, seen_value, struck_of, value_of}
use Rattle.mbdc_audit.specs.Walk.{AreFound, AreJudged, IsJudged, is_found, is_read}
use Rattle.mbdc_audit.specs.File.{bare_value}
use Rattle.mbdc_audit.specs.declared.house.Struck as struck_type
use Rattle.mbdc_audit.specs.declared.house.Value as value_type
use Rattle.mbdc_audit.specs.declared.uses.Counted.{Counted}
use Rattle.mbdc_audit.proofs.Repeated.{IsKnown, again_is, has_body, known_all}
use Rattle.mbdc_audit.proofs.Evident.{told_good}
use Rattle.mbdc_audit.proofs.Settled.{Each, IsGood, Stands, all_with, each_with, found_small, they_stand, to_each}

each_both : {X : Type 0} (R Q : X → X → Type 0) (xs ys : List X) → Each R xs ys → Each Q xs ys → Each (λ x y. R x y × Q x y) xs ys
each_both R Q [] [] r q = tt
each_both R Q [] (y ∷ ys) r q = absurd r
each_both R Q (x ∷ xs) [] r q = absurd r
each_both R Q (x ∷ xs) (y ∷ ys) r q = ((r.0, q.0), each_both R Q xs ys r.1 q.1)

-- ---- what is known

module _ (rs : List Run) (q : Counted) (os js vs : List value_type.Value) (judged : AreJudged rs q os js) (settled : AreSettled js vs)
    (struck : List Struck) (told : All (IsTold rs vs struck) vs) where
  goods : Each IsGood js vs
  goods = told_good rs q os js vs judged settled struck told

  found_in : (v : value_type.Value) → IsTold rs vs struck v → v.found ≡ Ok (amount_or_0 v.found)
  found_in v t = found_small (of_run (λ (r : Run). r.size) rs v.run) v t.0

  abbrev Both : value_type.Value → value_type.Value → Type 0
  Both j v = (Stands rs q (flat_map found_of js) j v × IsSettled js j v) × IsGood j v

  known_is : (j v : value_type.Value) → Both j v → IsTold rs vs struck v → IsKnown (map seen_value vs) v
  known_is j v h t =
      let rest = (h.0.0.rests (amount_or_0 v.found)).0 h.1.found in (
        found_in v t,
        again_is js vs goods j v h.1 (subst (λ (y : value_type.Value). is_read y.word ≡ true → nat_lt 0 (length y.bodies.now) ≡ true)
            h.1.same (has_body rs q v (amount_or_0 v.found) rest)) h.0.1,
      )

  pub told_known : AreFound vs × (known_in vs ≡ known (map seen_value vs))
  told_known =
      let both = each_both (λ j v. Stands rs q (flat_map found_of js) j v × IsSettled js j v) IsGood js vs
      (each_both (Stands rs q (flat_map found_of js)) (IsSettled js) js vs (they_stand rs q os js vs judged settled)
      (to_each (IsSettled js) js vs settled.0 settled.1)) goods in (
        λ k d lt. ap is_found (found_in (get_or vs k d) (told k d lt)),
        known_all (map seen_value vs) vs (all_with (λ j v. IsKnown (map seen_value vs) v) (IsKnown (map seen_value vs)) (λ j v h. h) js vs
            (each_with Both (λ j v. IsKnown (map seen_value vs) v) (IsTold rs vs struck) known_is js vs both told)),
      )

-- ---- what stays

bare_each : (rs : List Run) (q : Counted) (all os js vs : List value_type.Value) → Each (IsJudged rs q) os js → Each (IsSettled all) js vs
    → map bare_value (map seen_value vs) ≡ map bare_value (map seen_value os)
bare_each rs q all [] [] [] a b = refl
bare_each rs q all [] [] (v ∷ vs) a b = absurd b
bare_each rs q all [] (j ∷ js) vs a b = absurd a
bare_each rs q all (o ∷ os) [] vs a b = absurd a
bare_each rs q all (o ∷ os) (j ∷ js) [] a b = absurd b
bare_each rs q all (o ∷ os) (j ∷ js) (v ∷ vs) a b =
    ap (λ (x : Value). x ∷ map bare_value (map seen_value vs))
    (ap (λ (y : value_type.Value). value_of 0 y) b.0.0 ∙ ap (λ (y : value_type.Value). value_of 0 y) a.0.0)
    ∙ ap (λ (l : List Value). value_of 0 o ∷ l) (bare_each rs q all os js vs a.1 b.1)

pub bare_values : (rs : List Run) (q : Counted) (os js vs : List value_type.Value) → AreJudged rs q os js → AreSettled js vs
    → map bare_value (map seen_value vs) ≡ map bare_value (map seen_value os)
bare_values rs q os js vs a b = bare_each rs q js os js vs (to_each (IsJudged rs q) os js a.0 a.1) (to_each (IsSettled js) js vs b.0 b.1)

pub bare_same : (span : ℕ) (vs ws : List Value) (struck : List Struck) (ps qs : List Part) (numbers : List Number) → vs ≡ ws → ps ≡ qs
    → ◌≡◌ {A = Window} (record { span = span; values = vs; struck = struck; parts = ps; numbers = numbers })
    (record { span = span; values = ws; struck = struck; parts = qs; numbers = numbers })
bare_same span vs ws struck ps qs numbers e e' =
    ap (λ (l : List Value). record { span = span; values = l; struck = struck; parts = ps; numbers = numbers }) e
    ∙ ap (λ (l : List Part). record { span = span; values = ws; struck = struck; parts = l; numbers = numbers }) e'

-- what was told of slices was told of what is in them
pub at_slices : (rs : List Run) (A B : Type 0) (s vs : List value_type.Value) (t ts : List struck_type.Struck) → s ≡ vs → t ≡ ts
    → A ↔ (B × All (IsTold rs s (map struck_of t)) s) → A ↔ (B × All (IsTold rs vs (map struck_of ts)) vs)
at_slices rs A B s vs t ts e e' h = subst (λ (l : List struck_type.Struck). A ↔ (B × All (IsTold rs vs (map struck_of l)) vs)) e'
    (subst (λ (l : List value_type.Value). A ↔ (B × All (IsTold rs l (map struck_of t)) l)) e h)
