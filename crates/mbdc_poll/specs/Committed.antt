-- Where a readout ends, what was accepted is committed (this product).
use Rattle.std.specs.Prelude.{ℕ, Bool, None, List, ◌∷◌, ◌++◌}
use Rattle.dc_core.specs.Event.{asks, asked}
use Rattle.dc_core.specs.Transcript.{Turn}
use Rattle.mbdc_poll.specs.Keeping.{InRounds, IsSettled, some_wait, store_behind}

-- In rounds, once a line has no request any more, all is committed, unless a commit answered a fault.
abbrev pub IsCommittedWhereNoneIsAsked : {T : Type 0} → (T → ℕ → T → Type 0)
    → (T → Bool → T → Type 0) → Type 0
IsCommittedWhereNoneIsAsked {T} told passes = (first last : T) (front back : List Turn) (line : ℕ)
    → InRounds told passes first (front ++ (asks line, asked None) ∷ back) last
    → IsSettled (store_behind some_wait front)
