use Rattle.std.proofs.Common.{inl, inr, ⊎_elim, arith, subst, sym}
use Rattle.mbdc.specs.Commands.{Refuses}
use Rattle.mbdc.proofs.bench.over_bus.Goals as goal

pub returns-else-matches : goal.returns-else-matches
returns-else-matches g c = ⊎_elim (λ is. inl (subst Refuses (sym is) (omega (arith)))) (λ runs. inr (record { line = _; is_joined = c.in-Ok.ensures; runs = runs }))
    c.run_over-ending.ensures
