use Rattle.std.proofs.Common.{[], ℕ, List, refl, sym, subst, ⊎_elim}
use Rattle.mbdc_io.specs.Stream.{Puts}
use Rattle.mbdc_io.proofs.Pieces.{puts-none}
use Rattle.dc_core.specs.Event.{starts, asks, hears, commits, offices}
use Rattle.dc_poller.specs.Link.{Link, link_of}
use Rattle.dc_poller.specs.Script.{Does}
use Rattle.dc_poller.specs.ScriptLine.{IsPlain, seen}
use Rattle.dc_poller.specs.declared.script_line.ScriptLine.{ScriptLine}
use Rattle.dc_poller.proofs.LineRuns.{event_ran, event_cut}
use Rattle.dc_poller.proofs.Traffics.{carries_none}
use Rattle.dc_core.proofs.Wents.{went_none}
use Rattle.dc_poller.proofs.script.run_plain.Goals as goal

-- the line is no event, and writes this
abbrev IsIdle : ℕ → Link → List ℕ → ScriptLine → Type 0
IsIdle moment link text asked = Does moment (seen asked) link link [] [] text

pub run_event-requires-in-Hear : goal.run_event-requires-in-Hear
run_event-requires-in-Hear g c = c.args.moment.fits

pub returns-in-Nothing-clause-ran : goal.returns-in-Nothing-clause-ran
returns-in-Nothing-clause-ran g c origin state before chain at =
    let w = g.W.Sink.written c.args.out.now in
    let idle : IsIdle c.args.moment.seconds (link_of g.B.Bus.lost c.args.gateway.now) [] c.args.asked.now =
    ⊎_elim (λ is. subst (IsIdle c.args.moment.seconds (link_of g.B.Bus.lost c.args.gateway.now) []) (sym is) (record { no_turns = refl; text_is = refl }, refl, refl))
    (⊎_elim (λ is. subst (IsIdle c.args.moment.seconds (link_of g.B.Bus.lost c.args.gateway.now) []) (sym is.1) (record { no_turns = refl; text_is = refl }, refl, refl))
    (λ is. absurd (subst (λ (asked : ScriptLine). IsPlain (seen asked)) is.1 c.requires))) c.in-Nothing.is in
    record {
      turns = [];
      exchanges = [];
      line = [];
      does = idle;
      went = went_none g.D.Disk origin c.args.concentrator.now.house.budget state before c.args.concentrator.now chain at (λ h image left. g.met.D.Disk.only_now c.args.concentrator.now.store.disk image left);
      text = puts-none w;
      over = carries_none g.B.Bus.lost g.B.Bus.asks c.args.gateway.now;
    }

pub returns-in-Start-clause-ran : goal.returns-in-Start-clause-ran
returns-in-Start-clause-ran g c origin state before chain at =
    rw c.in-Start.is (event_ran g.D.Disk origin c.args.concentrator.now.house.budget state before (starts c.in-Start.line c.in-Start.meter) c.args.moment.seconds _ (link_of g.B.Bus.lost c.args.gateway.now) (Puts (g.W.Sink.written c.args.out.now) (g.W.Sink.written c.run_event.new.out)) _ c.args.concentrator.now c.run_event.new.concentrator c.run_event.result
    (c.run_event.ensures.went origin state before chain at) (λ turns text one. (one, refl, refl)) (carries_none g.B.Bus.lost g.B.Bus.asks c.args.gateway.now))

pub returns-in-Start-clause-cut : goal.returns-in-Start-clause-cut
returns-in-Start-clause-cut g c origin state before chain at =
    rw c.in-Start.is (event_cut g.D.Disk origin c.args.concentrator.now.house.budget state before (starts c.in-Start.line c.in-Start.meter) c.args.moment.seconds _ (link_of g.B.Bus.lost c.args.gateway.now) _ _ c.args.concentrator.now c.run_event.new.concentrator c.run_event.result
    (c.run_event.ensures.went origin state before chain at) (λ turns is. (is, refl)) (carries_none g.B.Bus.lost g.B.Bus.asks c.args.gateway.now))

pub returns-in-Ask-clause-ran : goal.returns-in-Ask-clause-ran
returns-in-Ask-clause-ran g c origin state before chain at =
    rw c.in-Ask.is (event_ran g.D.Disk origin c.args.concentrator.now.house.budget state before (asks c.in-Ask.line) c.args.moment.seconds _ (link_of g.B.Bus.lost c.args.gateway.now) (Puts (g.W.Sink.written c.args.out.now) (g.W.Sink.written c.run_event-in-Ask.new.out)) _ c.args.concentrator.now c.run_event-in-Ask.new.concentrator c.run_event-in-Ask.result
    (c.run_event-in-Ask.ensures.went origin state before chain at) (λ turns text one. (one, refl, refl)) (carries_none g.B.Bus.lost g.B.Bus.asks c.args.gateway.now))

pub returns-in-Ask-clause-cut : goal.returns-in-Ask-clause-cut
returns-in-Ask-clause-cut g c origin state before chain at =
    rw c.in-Ask.is (event_cut g.D.Disk origin c.args.concentrator.now.house.budget state before (asks c.in-Ask.line) c.args.moment.seconds _ (link_of g.B.Bus.lost c.args.gateway.now) _ _ c.args.concentrator.now c.run_event-in-Ask.new.concentrator c.run_event-in-Ask.result
    (c.run_event-in-Ask.ensures.went origin state before chain at) (λ turns is. (is, refl)) (carries_none g.B.Bus.lost g.B.Bus.asks c.args.gateway.now))

pub returns-in-Hear-clause-ran : goal.returns-in-Hear-clause-ran
returns-in-Hear-clause-ran g c origin state before chain at =
    rw c.in-Hear.is (event_ran g.D.Disk origin c.args.concentrator.now.house.budget state before (hears c.in-Hear.line c.args.moment.seconds c.in-Hear.answer.now) c.args.moment.seconds _ (link_of g.B.Bus.lost c.args.gateway.now) (Puts (g.W.Sink.written c.args.out.now) (g.W.Sink.written c.run_event-in-Hear.new.out)) _ c.args.concentrator.now c.run_event-in-Hear.new.concentrator c.run_event-in-Hear.result
    (c.run_event-in-Hear.ensures.went origin state before chain at) (λ turns text one. (one, refl, refl)) (carries_none g.B.Bus.lost g.B.Bus.asks c.args.gateway.now))

pub returns-in-Hear-clause-cut : goal.returns-in-Hear-clause-cut
returns-in-Hear-clause-cut g c origin state before chain at =
    rw c.in-Hear.is (event_cut g.D.Disk origin c.args.concentrator.now.house.budget state before (hears c.in-Hear.line c.args.moment.seconds c.in-Hear.answer.now) c.args.moment.seconds _ (link_of g.B.Bus.lost c.args.gateway.now) _ _ c.args.concentrator.now c.run_event-in-Hear.new.concentrator c.run_event-in-Hear.result
    (c.run_event-in-Hear.ensures.went origin state before chain at) (λ turns is. (is, refl)) (carries_none g.B.Bus.lost g.B.Bus.asks c.args.gateway.now))

pub returns-in-Commit-clause-ran : goal.returns-in-Commit-clause-ran
returns-in-Commit-clause-ran g c origin state before chain at =
    rw c.in-Commit.is (event_ran g.D.Disk origin c.args.concentrator.now.house.budget state before commits c.args.moment.seconds _ (link_of g.B.Bus.lost c.args.gateway.now) (Puts (g.W.Sink.written c.args.out.now) (g.W.Sink.written c.run_event-in-Commit.new.out)) _ c.args.concentrator.now c.run_event-in-Commit.new.concentrator c.run_event-in-Commit.result
    (c.run_event-in-Commit.ensures.went origin state before chain at) (λ turns text one. (one, refl, refl)) (carries_none g.B.Bus.lost g.B.Bus.asks c.args.gateway.now))

pub returns-in-Commit-clause-cut : goal.returns-in-Commit-clause-cut
returns-in-Commit-clause-cut g c origin state before chain at =
    rw c.in-Commit.is (event_cut g.D.Disk origin c.args.concentrator.now.house.budget state before commits c.args.moment.seconds _ (link_of g.B.Bus.lost c.args.gateway.now) _ _ c.args.concentrator.now c.run_event-in-Commit.new.concentrator c.run_event-in-Commit.result
    (c.run_event-in-Commit.ensures.went origin state before chain at) (λ turns is. (is, refl)) (carries_none g.B.Bus.lost g.B.Bus.asks c.args.gateway.now))

pub returns-in-Office-clause-ran : goal.returns-in-Office-clause-ran
returns-in-Office-clause-ran g c origin state before chain at =
    rw c.in-Office.is (event_ran g.D.Disk origin c.args.concentrator.now.house.budget state before (offices c.in-Office.text.now) c.args.moment.seconds _ (link_of g.B.Bus.lost c.args.gateway.now) (Puts (g.W.Sink.written c.args.out.now) (g.W.Sink.written c.run_event-in-Office.new.out)) _ c.args.concentrator.now c.run_event-in-Office.new.concentrator c.run_event-in-Office.result
    (c.run_event-in-Office.ensures.went origin state before chain at) (λ turns text one. (one, refl, refl)) (carries_none g.B.Bus.lost g.B.Bus.asks c.args.gateway.now))

pub returns-in-Office-clause-cut : goal.returns-in-Office-clause-cut
returns-in-Office-clause-cut g c origin state before chain at =
    rw c.in-Office.is (event_cut g.D.Disk origin c.args.concentrator.now.house.budget state before (offices c.in-Office.text.now) c.args.moment.seconds _ (link_of g.B.Bus.lost c.args.gateway.now) _ _ c.args.concentrator.now c.run_event-in-Office.new.concentrator c.run_event-in-Office.result
    (c.run_event-in-Office.ensures.went origin state before chain at) (λ turns is. (is, refl)) (carries_none g.B.Bus.lost g.B.Bus.asks c.args.gateway.now))

pub returns-in-Poll-clause-ran : goal.returns-in-Poll-clause-ran
returns-in-Poll-clause-ran g c origin state before chain at = rw c.in-Poll.is (c.poll_line.ensures.ran origin state before chain at)

pub returns-in-Poll-clause-cut : goal.returns-in-Poll-clause-cut
returns-in-Poll-clause-cut g c origin state before chain at = rw c.in-Poll.is (c.poll_line.ensures.cut origin state before chain at)
