use Rattle.mbdc_installer.specs.Command.{by_address, by_identity, by_number, shared, unfound, unidentified}
use Rattle.mbdc_installer.proofs.Results.{each_ok}
use Rattle.mbdc_installer.proofs.bench.reading.read_named.Goals as goal

pub returns-in-Identity-clause-read : goal.returns-in-Identity-clause-read
returns-in-Identity-clause-read g c =
    rw c.in-Identity.is (each_ok c.read.result (λ readout is. by_identity c.in-Identity.meter is) c.read.ensures.read)

pub returns-in-Ok-clause-read : goal.returns-in-Ok-clause-read
returns-in-Ok-clause-read g c =
    rw c.in-Address.is (each_ok c.read-in-Ok.result (λ readout is. by_address c.in-Address.address c.new.result c.in-Ok.meter c.new.ensures c.in-Ok.ensures is) c.read-in-Ok.ensures.read)

pub returns-in_ok-put-in-Err-clause-read : goal.returns-in_ok-put-in-Err-clause-read
returns-in_ok-put-in-Err-clause-read g c =
    rw c.in-Address.is (unidentified c.in-Address.address c.in-Err.misses c.in-Err.ensures c.in_ok-put-in-Err.ensures.bytes)

pub returns-in-One-clause-read : goal.returns-in-One-clause-read
returns-in-One-clause-read g c =
    rw c.in-Number.is (each_ok c.read-in-One.result (λ readout is. by_number c.in-Number.digits c.in-One.meter c.in-One.ensures is) c.read-in-One.ensures.read)

pub returns-in_ok-put_unfound-in-Shared-clause-read : goal.returns-in_ok-put_unfound-in-Shared-clause-read
returns-in_ok-put_unfound-in-Shared-clause-read g c =
    rw c.in-Number.is (shared c.in-Number.digits c.in-Shared.misses c.in-Shared.ensures c.in_ok-put_unfound-in-Shared.ensures.0)

pub returns-in_ok-put_unfound-in-Nobody-clause-read : goal.returns-in_ok-put_unfound-in-Nobody-clause-read
returns-in_ok-put_unfound-in-Nobody-clause-read g c =
    rw c.in-Number.is (unfound c.in-Number.digits c.in-Nobody.misses c.in-Nobody.ensures c.in_ok-put_unfound-in-Nobody.ensures.0)
