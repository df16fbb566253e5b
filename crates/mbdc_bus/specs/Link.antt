-- A link of the block protocol as a bus in two halves (this product): blocks mark an answer's end,
-- so none is late.
use Rattle.std.specs.Prelude.{◌≡◌, ℕ, true, false, List, [], Option, Some, None}
use Rattle.mbdc_bus.specs.Asking.{Asks}
use Rattle.mbdc_io.specs.declared.stream.Sink.{Ghosts as SinkGhosts}
use Rattle.mbdc_io.specs.declared.stream.Source.{Ghosts as SourceGhosts}
use Rattle.mbdc_bus.specs.declared.blocks.block_link.BlockLink.{BlockLink}

-- the request is kept for the exchange, and a lost link is untouched
pub record LinkSends {R W : Type 0} (reader : SourceGhosts R) (writer : SinkGhosts W)
    (old : BlockLink R W reader writer) (request : List ℕ)
    (new : BlockLink R W reader writer) : Type 0 where
  pub untouched : old.gateway.lost ≡ true → new ≡ old
  pub gateway : new.gateway ≡ old.gateway
  pub kept : old.gateway.lost ≡ false → new.request ≡ Some request

-- the exchange with the gateway for the request that is kept, or silence if no request is kept
abbrev pub Exchanged : {R W : Type 0} (reader : SourceGhosts R) (writer : SinkGhosts W)
    → Option (List ℕ)
    → BlockLink R W reader writer → List ℕ → BlockLink R W reader writer → Type 0
Exchanged reader writer None old answer new = (answer ≡ []) × (new ≡ old)
Exchanged reader writer (Some request) old answer new =
    Asks reader writer old.gateway request answer new.gateway × (new.request ≡ None)

pub record LinkGives {R W : Type 0} (reader : SourceGhosts R) (writer : SinkGhosts W)
    (old : BlockLink R W reader writer) (answer : List ℕ)
    (new : BlockLink R W reader writer) : Type 0 where
  pub untouched : old.gateway.lost ≡ true → new ≡ old
  pub silence : new.gateway.lost ≡ true → answer ≡ []
  pub exchanged : old.gateway.lost ≡ false → Exchanged reader writer old.request old answer new
