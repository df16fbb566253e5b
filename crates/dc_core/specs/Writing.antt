-- When the pending changes can't be written (this product).
use Rattle.std.specs.Prelude.{◌≡◌, ◌⊎◌, ◌≤◌, ◌+◌, ◌-◌, ◌^◌, ℕ}
use Rattle.mbdc_log.specs.Store.{Opened, Fits}

-- This many bytes can't be written: the store has no next sequence, or the bytes don't fit in its half and it has no
-- next generation.
abbrev pub IsWornFor : {D : Type 0} → ℕ → Opened D → ℕ → Type 0
IsWornFor sectors store len =
    (2 ^ 64 - 1 ≤ store.last + 1) ⊎ (¬ (Fits sectors store len)
    × (store.root.generation ≡ 2 ^ 64 - 1))
