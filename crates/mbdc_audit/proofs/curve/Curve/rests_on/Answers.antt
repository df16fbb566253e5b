use Rattle.std.proofs.Common.{rules, tests, ◌≡◌, ◌||◌, Bool, true, false, sym, ◌∙◌}
use Rattle.std.proofs.lemmas.Iterator.{YieldsList-from_slice}
use Rattle.std.proofs.lemmas.Iterator.Search.{any_from_yields_List}
use Rattle.mbdc_audit.specs.Kept.{is_so_between}
use Rattle.mbdc_audit.proofs.Nears.{rests}
use Rattle.mbdc_audit.proofs.curve.Curve.rests_on.Goals as goal
use Rattle.mbdc_audit.proofs.curve.Curve.rests_on.Goals.{then-rests_at, else-rests_at}

third : (a b d r : Bool) → a ≡ false → b ≡ false → (a || (b || d)) ≡ r → d ≡ r
third true b d r e e' h = absurd cc
third false true d r e e' h = absurd cc
third false false d r e e' h = h

never : (b : Bool) → b ≡ true → b ≡ false → ⊥
never b e e' = cc

pub returns-else-rests_at-2 : goal.returns-else-rests_at-2
returns-else-rests_at-2 g c =
    let v = c.args.self.now in
    elim c.if-rests_at.branch [
      | then-rests_at w ↦ absurd (never _ (w.value-is ∙ w.if-rests_at.true) c.if-rests_at-2.false)
      | else-rests_at w ↦ third _ _ _ _ w.if-rests_at.false (sym w.value-is ∙ c.if-rests_at-2.false)
          (rests c.args.is_guess c.args.from c.args.to v.values.items _ _ _ v.found v.counted c.rests_at.ensures
          w.rests_at-else-rests_at.ensures (any_from_yields_List (is_so_between c.args.from c.args.to c.args.is_guess) _ _ c.any.result
          c.any.ensures.ran (YieldsList-from_slice v.values.items cc) (λ x b q k. search (rules, tests))))
    ]
