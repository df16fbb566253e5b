use Rattle.std.proofs.Common.{rules}
use Rattle.dc_poller.proofs.Halts.{halted_ok, halted_write, halted_never}
use Rattle.dc_poller.proofs.script.run_line.Goals as goal

pub returns-in-Search-clause-ran : goal.returns-in-Search-clause-ran
returns-in-Search-clause-ran g c origin state before chain at =
    rw c.in-Search.is (c.search_line.ensures.ran c.args.moment.seconds origin state before chain at)

pub returns-in-Search-clause-cut : goal.returns-in-Search-clause-cut
returns-in-Search-clause-cut g c origin state before chain at =
    rw c.in-Search.is (c.search_line.ensures.cut c.args.moment.seconds origin state before chain at)

pub returns-in-Search-clause-starved : goal.returns-in-Search-clause-starved
returns-in-Search-clause-starved g c origin state before chain at = rw c.in-Search.is (c.search_line.ensures.starved origin state before chain at)

pub returns-in_default : goal.returns-in_default
returns-in_default g c = record {
  ran = λ origin state before chain at. halted_ok c.run_plain.result c.written.result _ c.written.ensures (c.run_plain.ensures.ran origin state before chain at);
  cut = λ origin state before chain at. halted_write c.run_plain.result c.written.result _ c.written.ensures (c.run_plain.ensures.cut origin state before chain at);
  starved = λ origin state before chain at. halted_never c.run_plain.result c.written.result _ c.written.ensures;
  through = halted_never c.run_plain.result c.written.result _ c.written.ensures;
  had = search rules;
  counted = search rules;
  budget = search rules;
}
