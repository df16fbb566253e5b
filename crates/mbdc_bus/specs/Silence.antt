-- What a gateway answers where it is lost (this product).
use Rattle.std.specs.Prelude.{◌≡◌, ℕ, Bool, true, false, List, []}
use Rattle.std.proofs.Common.{subst}
use Rattle.mbdc_bus.specs.Asking.{Asks}
use Rattle.mbdc_bus.specs.declared.blocks.gateway.Gateway.{Gateway}
use Rattle.mbdc_io.specs.declared.stream.Sink.{Ghosts as SinkGhosts}
use Rattle.mbdc_io.specs.declared.stream.Source.{Ghosts as SourceGhosts}

-- the answer to a request by which a gateway is lost is silence
pub gateway_is_silent : {R W : Type 0} (reader : SourceGhosts R) (writer : SinkGhosts W)
    (old new : Gateway R W) (request answer : List ℕ) → Asks reader writer old request answer new
    → new.lost ≡ true → answer ≡ []
gateway_is_silent reader writer old new request answer asked is_lost = asked.silence is_lost
