use Rattle.mbdc_installer.specs.Command.{asks_each, scans}
use Rattle.mbdc_installer.proofs.bench.listing.list_over.Goals as goal
use Rattle.mbdc_installer.proofs.bench.listing.list_over.Goals.{in-Wildcards+in-Ok+in_ok-put_search-in-Wildcards, in-Primary+in_ok-ask_each-in-Primary}

pub returns : goal.returns
returns g c =
    elim c.match-scan.branch [
      | in-Wildcards+in-Ok+in_ok-put_search-in-Wildcards w ↦ rw w.bus-is (rw w.done-is (rw w.in-Wildcards.is (scans w.in-Wildcards.budget w.in_ok-put_search-in-Wildcards.field-0 (record {
        search = w.in-Ok.search;
        look = record {
          asked = w.in-Ok.ensures.asked;
          ended = w.in-Ok.ensures.ended;
          within = w.in-Ok.ensures.within;
          walk = w.in-Ok.ensures.walk;
          same_meters = w.search_windows.ensures.meters;
        };
        text = tt;
        counted = w.in_ok-put_search-in-Wildcards.ensures;
      }))))
      | in-Primary+in_ok-ask_each-in-Primary w ↦
          let asked = w.in_ok-ask_each-in-Primary.ensures in
          rw w.bus-is (rw w.done-is (rw w.in-Primary.is (asks_each asked.0 w.in_ok-ask_each-in-Primary.field-0 asked.1 tt)))
    ]
