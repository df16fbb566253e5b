-- A list of changes, applied in order.
use Rattle.std.specs.Prelude.{ℕ, List, [], ◌∷◌}
use Rattle.mbdc_change.specs.declared.change.Change.{Change}
use Rattle.mbdc_change.specs.State.{State}
use Rattle.mbdc_change.specs.Apply.{applied}
use Rattle.mbdc_change.specs.Accepts.{Accepts}

-- the state after the changes
abbrev pub after : State → List Change → State
after s [] = s
after s (change ∷ changes) = after (applied change s) changes

-- each is accepted in the state after those before it
abbrev pub AcceptsAll : ℕ → State → List Change → Type 0
AcceptsAll budget s [] = Unit {0}
AcceptsAll budget s (change ∷ changes) =
    Accepts budget change s × AcceptsAll budget (applied change s) changes
