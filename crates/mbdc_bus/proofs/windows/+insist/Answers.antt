use Rattle.std.proofs.Common.{◌≡◌, ◌≢◌, ◌⊎◌, inl, inr, ◌<◌, ℕ, List, [], subst, rules, arith}
use Rattle.std.proofs.lemmas.Grind.{common_steps}
use Rattle.mbdc_bus.specs.Windows.{hears, repeats}
use Rattle.mbdc_bus.proofs.windows.+insist.Goals as goal
use Rattle.mbdc_bus.proofs.windows.+insist.Goals.{then-most-eq1-via-then-most-eq1, then-most-eq1-via-else-most-eq1+then-not-is_empty}

some_byte : (answer : List ℕ) → (answer ≡ [] → ⊥) → answer ≢ []
some_byte answer not = not

pub returns-then-most-eq1-clause-asked : goal.returns-then-most-eq1-clause-asked
returns-then-most-eq1-clause-asked g t c =
    let enough : (c.ask_all-answer.result ≢ []) ⊎ (c.args.most ≡ 1) = elim c.then-most-eq1.branch [
      | then-most-eq1-via-then-most-eq1 w ↦ inr (search rules)
      | then-most-eq1-via-else-most-eq1+then-not-is_empty w ↦ inl (search rules)
    ] in
    hears c.ask_all-answer.result enough c.ask_all-answer.ensures.asked

pub returns-clause-asked : goal.returns-clause-asked
returns-clause-asked g t c =
    let none : c.ask_all-answer.result ≡ [] = search rules in
    let some : 1 < c.args.most = grind (arith, common_steps) in
    repeats some (subst (λ (bytes : List ℕ). g.B.Bus.asks_all c.args.bus.now c.args.request.now bytes c.ask_all-answer.new.self) none c.ask_all-answer.ensures.asked) c.insist.ensures.asked
