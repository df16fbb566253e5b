-- Where a chain ends whatever follows.
use Rattle.std.proofs.Common.{◌≡◌, ℕ, ◌<◌, ◌≤◌, List, [], ◌∷◌, Ok, Err, arith}
use Rattle.std.proofs.lemmas.Bool.Decides.{nat_tests}
use Rattle.dc_records.specs.declared.fault.BodyFault.{BodyFault}
use Rattle.dc_records.specs.Reading.{chain_len}

pub chain_ends : (many : BodyFault) (room last : ℕ) (bytes : List ℕ) → last < 128 → chain_len many room last bytes ≡ Ok 0
chain_ends many room last [] h = grind (arith, nat_tests)
chain_ends many room last (b ∷ bytes) h = grind (arith, nat_tests)

pub chain_full : (many : BodyFault) (room last : ℕ) (bytes : List ℕ) → 128 ≤ last → room ≡ 0 → chain_len many room last bytes ≡ Err many
chain_full many room last [] h z = grind (arith, nat_tests)
chain_full many room last (b ∷ bytes) h z = grind (arith, nat_tests)
