-- What the puts of an encoder do to a group's sink, all together.
use Rattle.std.proofs.Common.{◌≡◌, ℕ, List, ◌∙◌}
use Rattle.mbdc_io.specs.Chain.{IsChain, IsBroken}
use Rattle.dc_sectors.specs.declared.device.Disk.{Ghosts}
use Rattle.dc_pages.specs.Streaming.{GoesInto, BreaksOff}
use Rattle.dc_pages.proofs.Chained.{run_keeps, chain_goes_into, chain_breaks_off}
use Rattle.dc_pages.specs.declared.streaming.GroupSink.{GroupSink}

module _ {D : Type 0} (g : Ghosts D) where
  abbrev puts : GroupSink D → List ℕ → GroupSink D → Type 0
  puts old bytes new = GoesInto g old.disk.now new.disk.now old.writer new.writer bytes × (new.disk.ghost_name ≡ old.disk.ghost_name)

  abbrev breaks : GroupSink D → List ℕ → GroupSink D → Type 0
  breaks old bytes new = BreaksOff g old.disk.now new.disk.now old.writer bytes × (new.disk.ghost_name ≡ old.disk.ghost_name)

  pub same_reference : (old new : GroupSink D) (bytes : List ℕ) → IsChain puts old new bytes → new.disk.ghost_name ≡ old.disk.ghost_name
  same_reference old new bytes chain = run_keeps (λ (s : GroupSink D). s.disk.ghost_name) puts (λ was is piece put. put.1) old new chain.pieces chain.run

  pub went_into : (old new : GroupSink D) (bytes : List ℕ) → IsChain puts old new bytes
      → GoesInto g old.disk.now new.disk.now old.writer new.writer bytes
  went_into old new bytes chain =
      chain_goes_into g (λ (s : GroupSink D). s.disk.now) (λ (s : GroupSink D). s.writer) puts breaks (λ was is piece put. put.0) (λ was is piece put. put.0) old new bytes chain

  pub broken_reference : (old new : GroupSink D) (bytes : List ℕ) → IsBroken puts breaks old new bytes → new.disk.ghost_name ≡ old.disk.ghost_name
  broken_reference old new bytes broken = broken.broken.1 ∙ same_reference old broken.between broken.front broken.chain

  pub broke_off : (old new : GroupSink D) (bytes : List ℕ) → IsBroken puts breaks old new bytes
      → BreaksOff g old.disk.now new.disk.now old.writer bytes
  broke_off old new bytes broken =
      chain_breaks_off g (λ (s : GroupSink D). s.disk.now) (λ (s : GroupSink D). s.writer) puts breaks (λ was is piece put. put.0) (λ was is piece put. put.0) old new bytes broken
