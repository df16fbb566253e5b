-- Two registers within budgets are the same where their states and budgets are.
use Rattle.std.proofs.Common.{◌≡◌, ◌∙◌, ℕ, ap}
use Rattle.mbdc_change.specs.State.{State, Held}

pub same_held : (a b : Held) → a.state ≡ b.state → a.budget ≡ b.budget → a ≡ b
same_held a b states budgets =
    let within : ℕ → Held = λ n. record { state = a.state; budget = n } in
    let of : State → Held = λ s. record { state = s; budget = b.budget } in
    ap within budgets ∙ ap of states
