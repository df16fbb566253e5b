-- The number of syncs in a history of a file (this product).
use Rattle.std.specs.Prelude.{◌≡◌, ◌+◌, ◌-◌, ◌^◌, ℕ, min, List, [], ◌∷◌}
use Rattle.dc_sectors.specs.FileCalls.{Call, Measured, Got, Put, Synced}

-- number of syncs among these calls
abbrev pub syncs_in : List Call → ℕ
syncs_in [] = 0
syncs_in (Measured n ∷ earlier) = syncs_in earlier
syncs_in (Got at n came ∷ earlier) = syncs_in earlier
syncs_in (Put at bytes taken ∷ earlier) = syncs_in earlier
syncs_in (Synced done ∷ earlier) = syncs_in earlier + 1

-- the same as a number of 32 bits
abbrev pub counted : List Call → ℕ
counted calls = min (syncs_in calls) (2 ^ 32 - 1)
