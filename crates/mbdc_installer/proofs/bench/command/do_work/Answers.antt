use Rattle.std.proofs.Common.{◌≡◌}
use Rattle.mbdc_installer.specs.Command.{addresses, asks_each, reads, scans}
use Rattle.mbdc_installer.specs.declared.bench.command.Work.TheVariants.{Search, Read, Address}
use Rattle.mbdc_installer.specs.declared.bench.command.Scan.TheVariants.{Wildcards, Primary}
use Rattle.mbdc_installer.proofs.bench.command.do_work.Goals as goal

pub returns-in-Ok-clause-done : goal.returns-in-Ok-clause-done
returns-in-Ok-clause-done g c =
    let is : c.args.work ≡ Search (Wildcards c.in-Wildcards.budget) = cc (c.in-Search.is, c.in-Wildcards.is) in
    rw is (scans c.in-Wildcards.budget c.in-Ok.count c.in-Ok.ensures.scanned)

pub returns-in-Ok-scan_primary-clause-done : goal.returns-in-Ok-scan_primary-clause-done
returns-in-Ok-scan_primary-clause-done g c =
    let is : c.args.work ≡ Search Primary = cc (c.in-Search.is, c.in-Primary.is) in
    let asked = c.in-Ok-scan_primary.ensures.asked in
    rw is (asks_each asked.0 c.in-Ok-scan_primary.late asked.1 asked.2)

pub returns-in-Ok-read_named-clause-done : goal.returns-in-Ok-read_named-clause-done
returns-in-Ok-read_named-clause-done g c =
    let is : c.args.work ≡ Read c.in-Read.meter = cc c.in-Read.is in
    rw is (reads c.in-Read.meter c.in-Ok-read_named.ensures.read)

pub returns-in-Ok-put_addressing-clause-done : goal.returns-in-Ok-put_addressing-clause-done
returns-in-Ok-put_addressing-clause-done g c =
    let is : c.args.work ≡ Address c.in-Address.target c.in-Address.to = cc c.in-Address.is in
    rw is (addresses c.in-Address.target c.in-Address.to c.set_address-outcome.ensures c.in-Ok-put_addressing.ensures.0)
