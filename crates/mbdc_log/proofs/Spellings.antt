-- What the language of what is kept says of the bytes that are written.
use Rattle.std.proofs.Common.{◌<◌, ◌^◌, ◌≡◌, ◌≤◌, ℕ, List, arith}
use Rattle.mbdc_io.specs.declared.kept.kept.Language.{Ghosts as Language}
use Rattle.mbdc_log.specs.Halves.{budget_of}

module _ {K : Type 0} (lang : Language K) where
  pub empty_spelled : (budget : ℕ) → 15616 ≤ budget → lang.SpellsState budget lang.empty_bytes lang.empty
  empty_spelled budget room = lang.wider 15616 budget lang.empty_bytes lang.empty room lang.empty_spelled

  pub one_state : (half_len : ℕ) → half_len ≤ 65536 → (payload : List ℕ) (s t : lang.State) → lang.SpellsState (budget_of half_len) payload s → lang.SpellsState (budget_of half_len) payload t → s ≡ t
  one_state half_len most payload s t a b =
      let small : budget_of half_len < 2 ^ 32 = omega (arith, most) in
      lang.one_state (budget_of half_len) payload s t small a b
