-- What has room goes in whole.
use Rattle.std.proofs.Common.{◌≡◌, ◌<◌, ◌≤◌, ◌+◌, ◌-◌, ◌^◌, min, ℕ, List, [], ◌∷◌, ◌++◌, length, ap, arith, ◌∙◌, sym, append_assoc, length-append}
use Rattle.std.proofs.lemmas.List.{append-nil}
use Rattle.mbdc_io.specs.Chain.{IsRun, IsBroken, joined}
use Rattle.dc_core.specs.Waiting.{waiting_room}
use Rattle.mbdc_io.specs.Bytes.{Filled}

-- what a put into the room does, and one that fails
abbrev puts : Filled → List ℕ → Filled → Type 0
puts old bytes new = (length old.bytes + length bytes ≤ waiting_room) × (new ≡ record old { bytes = old.bytes ++ bytes })

abbrev breaks : Filled → List ℕ → Filled → Type 0
breaks old bytes new = (waiting_room < length old.bytes + length bytes) × (new ≡ record old { failures = min (old.failures + 1) (2 ^ 64 - 1) })

run_bytes : (old new : Filled) (pieces : List (List ℕ)) → IsRun puts old pieces new → new.bytes ≡ old.bytes ++ joined pieces
run_bytes old new [] same = ap (λ (f : Filled). f.bytes) same ∙ sym (append-nil old.bytes)
run_bytes old new (piece ∷ pieces) run =
    run_bytes run.0 new pieces run.2 ∙ ap (λ (f : Filled). f.bytes ++ joined pieces) run.1.1 ∙ append_assoc old.bytes piece (joined pieces)

pub no_break : (old new : Filled) (bytes : List ℕ) → length old.bytes + length bytes ≤ waiting_room → IsBroken puts breaks old new bytes → ⊥
no_break old new bytes fits broken =
    let middle = run_bytes old broken.between broken.chain.pieces broken.chain.run in
    let over = broken.broken.0 in
    omega (
      arith,
      over,
      fits,
      ap length middle,
      length-append old.bytes (joined broken.chain.pieces),
      ap length broken.chain.parts,
      ap length broken.parts,
      length-append broken.front (broken.piece ++ broken.rest),
      length-append broken.piece broken.rest,
    )
