-- Each answer of a poll finds room among the pending changes (this product).
use Rattle.std.specs.Prelude.{◌≡◌, ◌≢◌, ℕ, ◌<◌, Bool, List, [], ◌∷◌, ◌++◌, length, Result, Err}
use Rattle.dc_core.specs.Waiting.{most_waiting}
use Rattle.dc_core.specs.Core.{Core}
use Rattle.dc_core.specs.Event.{hears, heard}
use Rattle.dc_core.specs.Transcript.{Turn, leads, IsChain}
use Rattle.dc_core.specs.declared.fault.HearFault.{HearFault}
use Rattle.dc_core.specs.declared.fault.HearFault.TheVariants.{PendingFull}
use Rattle.dc_core.specs.declared.line_heard.LineHeard.{LineHeard}
use Rattle.mbdc_poll.specs.Keeping.{InRounds}

-- In rounds of a concentrator with nothing pending, each answer is received with fewer changes
-- pending than the maximum. So none is refused because too many are.
abbrev pub AnswersFindRoom : {T : Type 0} → (T → ℕ → T → Type 0) → (T → Bool → T → Type 0) → Type 0
AnswersFindRoom {T} told passes = (budget : ℕ) (core : Core) (first last : T)
    (front back : List Turn) (line moment : ℕ) (bytes : List ℕ)
    (answer : Result LineHeard HearFault)
    → core.pending ≡ []
    → IsChain budget core (front ++ (hears line moment bytes, heard answer) ∷ back)
    → InRounds told passes first (front ++ (hears line moment bytes, heard answer) ∷ back) last
    → (length (leads core front).pending < most_waiting) × (answer ≢ Err PendingFull)
