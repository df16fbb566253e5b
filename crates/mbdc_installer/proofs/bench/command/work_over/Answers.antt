use Rattle.std.proofs.Common.{◌≡◌, rules}
use Rattle.mbdc_installer.specs.declared.bench.command.Work.TheVariants.{Search}
use Rattle.mbdc_installer.proofs.Texts.{does_unseen}
use Rattle.mbdc_installer.proofs.bench.command.work_over.Goals as goal
use Rattle.mbdc_installer.proofs.bench.command.work_over.Goals.{in-Search-Csv, in_default}

pub returns-clause-done : goal.returns-clause-done
returns-clause-done g c = record {
  outcome = c.match-work.outcome;
  does = elim c.match-work.branch [
    | in-Search-Csv w ↦
        let is : c.args.work ≡ Search w.in-Search-Csv.scan = search rules in
        rw w.bus-is (rw w.outcome-is (rw is w.list_over-outcome.ensures))
    | in_default w ↦ rw w.bus-is (rw w.outcome-is (does_unseen g.B.Bus g.B.Noting.others g.W.Sink c.args.work c.args.bus.now w.do_and_finish-outcome.new.bus
        c.args.out.now w.do_and_finish-outcome.new.out w.do_and_finish-outcome.result w.do_and_finish-outcome.ensures))
  ];
  ends = c.conclude.ensures;
}
