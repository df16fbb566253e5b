-- What goes over the gateway of a script (this product).
use Rattle.std.specs.Prelude.{◌≡◌, ℕ, Bool, true, false, Option, None, Some, List}
use Rattle.dc_sectors.specs.declared.device.Disk.{Ghosts}
use Rattle.mbdc_bus.specs.Asking.{Asks}
use Rattle.mbdc_bus.specs.Bus.{AreExchanged, Exchange}
use Rattle.mbdc_bus.specs.declared.blocks.gateway.Gateway.{Gateway}
use Rattle.mbdc_io.specs.declared.stream.Sink.{Ghosts as SinkGhosts}
use Rattle.mbdc_io.specs.declared.stream.Source.{Ghosts as SourceGhosts}
use Rattle.dc_poller.specs.Link.{link_of}
use Rattle.dc_poller.specs.Run.{Run}
use Rattle.dc_poller.specs.Script.{LineCut, LineRan}
use Rattle.dc_poller.specs.ScriptLine.{LineSeen}
use Rattle.dc_poller.specs.Starved.{LineStarved}

-- The bus is left like that by these exchanges, which are all that happens to it. A lost bus isn't touched.
pub record IsLeftBy {B : Type 0} (lost : B → Bool) (asks : B → List ℕ → List ℕ → B → Type 0)
    (old : B) (new : Option B) (exchanges : List Exchange) : Type 0 where
  pub bus : B
  pub bus_is : new ≡ Some bus
  pub exchanged : AreExchanged asks old exchanges bus
  pub untouched : lost old ≡ true → bus ≡ old

-- THE GATEWAY GOES FROM HERE TO THERE BY THESE EXCHANGES, one after the other, and nothing else goes over its bus. Where
-- there is none, none comes.
abbrev pub AreCarried : {B : Type 0} → (B → Bool) → (B → List ℕ → List ℕ → B → Type 0) → Option B
    → Option B → List Exchange → Type 0
AreCarried lost asks None new exchanges = new ≡ None
AreCarried lost asks (Some bus) new exchanges = IsLeftBy lost asks bus new exchanges

-- ---- one line of a script

-- It is done over this gateway, and this was written.
abbrev pub RanOver : {D B : Type 0} → Ghosts D → Run D → ℕ → LineSeen → (B → Bool)
    → (B → List ℕ → List ℕ → B → Type 0) → Option B → Option B → (List ℕ → Type 0) → Type 0
RanOver g run moment asked lost asks old new wrote =
    LineRan g run moment asked (link_of lost old) (link_of lost new) wrote
    (AreCarried lost asks old new)

-- A write failed on it.
abbrev pub CutOver : {D B : Type 0} → Ghosts D → Run D → ℕ → LineSeen → (B → Bool)
    → (B → List ℕ → List ℕ → B → Type 0) → Option B → Option B → Type 0
CutOver g run moment asked lost asks old new =
    LineCut g run moment asked (link_of lost old) (AreCarried lost asks old new)

-- Memory ran out in it.
abbrev pub StarvedOver : {D B : Type 0} → Ghosts D → Run D → LineSeen → (B → Bool)
    → (B → List ℕ → List ℕ → B → Type 0) → Option B → Option B → (List ℕ → Type 0) → Type 0
StarvedOver g run asked lost asks old new wrote =
    LineStarved g run asked (link_of lost old) wrote (AreCarried lost asks old new)

-- ---- over a reader and a writer of blocks

-- the gateway of these ends
abbrev pub gateway_over : {R W : Type 0} → Option (R × W) → Option (Gateway R W)
gateway_over None = None
gateway_over (Some ends) = Some (record { reader = ends.0; writer = ends.1; lost = false })

-- what goes over it, up to where it is left like that
abbrev pub AreOverGateway : {R W : Type 0} → SourceGhosts R → SinkGhosts W → Option (R × W)
    → Option (Gateway R W) → List Exchange → Type 0
AreOverGateway reader writer ends left =
    AreCarried (λ gateway. gateway.lost) (Asks reader writer) (gateway_over ends) left

-- This holds of what goes over it, however it is left: its ends don't come back.
abbrev pub OverGateway : {R W : Type 0} → SourceGhosts R → SinkGhosts W → Option (R × W)
    → ((List Exchange → Type 0) → Type 0) → Type 0
OverGateway {R} {W} reader writer ends said =
    (left : Option (Gateway R W)) × said (AreOverGateway reader writer ends left)
