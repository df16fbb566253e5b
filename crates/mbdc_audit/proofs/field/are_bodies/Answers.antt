use Rattle.std.proofs.Common.{◌≡◌, ◌<◌, ℕ, ◌∷◌, ◌∙◌, List, Option, Bor, arith, ap, subst, sym, length, option_map, refl}
use Rattle.std.specs.Prelude.{All}
use Rattle.std.proofs.lemmas.Bool.{false≢true}
use Rattle.mbdc_audit.specs.Field.{left_fields}
use Rattle.mbdc_audit.specs.Line.{IsBody}
use Rattle.mbdc_audit.proofs.Bodies.{all_cons, all_front, all_rest}
use Rattle.mbdc_audit.proofs.field.are_bodies.Goals as goal

abbrev lefts : Option (Bor (List ℕ)) → List (List ℕ)
lefts r = left_fields (option_map (λ s. s.now) r)

pub bodies-init : goal.bodies-init
bodies-init c = (
  λ all. subst (λ (fs : List (List ℕ)). All IsBody fs) c.first_field.ensures all,
  λ all. subst (λ (fs : List (List ℕ)). All IsBody fs) (sym c.first_field.ensures) all,
)

pub returns-in_default : goal.returns-in_default
returns-in_default c =
    let inv = c.bodies.invariant in (
      λ yes. inv.1 (all_cons IsBody c.bodies.body.now (lefts c.bodies.rest) (c.is_body.ensures.0 c.bodies-test.true)
          (subst (λ (r : Option (Bor (List ℕ))). All IsBody (lefts r)) (sym c.in_default.is) (λ k d lt. absurd (omega arith)))),
      λ all. refl,
    )

pub bodies-smaller : goal.bodies-smaller
bodies-smaller c =
    let fewer : length (lefts c.first_field-in-bodies.result.1) < length (lefts c.bodies.rest) =
    subst (λ (r : Option (Bor (List ℕ))). length (lefts c.first_field-in-bodies.result.1) < length (lefts r)) (sym c.in-Some.is)
    (let e = ap length c.first_field-in-bodies.ensures in omega arith) in
    fewer

pub bodies-preserved : goal.bodies-preserved
bodies-preserved c =
    let inv = c.bodies.invariant in
    let next : lefts c.bodies.rest ≡ c.first_field-in-bodies.result.0.now ∷ lefts c.first_field-in-bodies.result.1 =
    ap lefts c.in-Some.is ∙ c.first_field-in-bodies.ensures in (
      λ all. subst (λ (fs : List (List ℕ)). All IsBody fs) next (all_rest IsBody c.bodies.body.now (lefts c.bodies.rest) (inv.0 all)),
      λ all. inv.1 (all_cons IsBody c.bodies.body.now (lefts c.bodies.rest) (c.is_body.ensures.0 c.bodies-test.true)
          (subst (λ (fs : List (List ℕ)). All IsBody fs) (sym next) all)),
    )

pub returns : goal.returns
returns c =
    let inv = c.bodies.invariant in (
      λ no. absurd (false≢true no),
      λ all. absurd (false≢true (sym c.bodies-test.false ∙ c.is_body.ensures.1
          (all_front IsBody c.bodies.body.now (lefts c.bodies.rest) (inv.0 all)))),
    )
