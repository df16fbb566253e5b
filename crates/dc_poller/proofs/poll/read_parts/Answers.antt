use Rattle.std.proofs.Common.{ℕ, refl, ap, subst, ◌∙◌, Bool}
use Rattle.std.proofs.lemmas.Result.{err_from_is_err_and}
use Rattle.mbdc_io.proofs.Pieces.{puts-both, puts-none}
use Rattle.dc_poller.specs.Link.{link_by}
use Rattle.dc_poller.specs.Way.{goes_on}
use Rattle.dc_core.proofs.Wents.{went_none}
use Rattle.mbdc_io.specs.Failures.{HasRisen}
use Rattle.dc_poller.proofs.Traffics.{untouched_both}
use Rattle.dc_poller.proofs.Ways.{way_none, way_then, exchanged_after, fails_after}
use Rattle.dc_poller.proofs.poll.read_parts.Goals as goal

pub rounds-init : goal.rounds-init
rounds-init g c =
    record {
      budget = refl;
      well = refl;
      untouched = λ is. refl;
      so_far = λ meter origin state before chain at. way_none g.D.Disk origin c.args.concentrator.now.house.budget state before c.args.line c.args.moment.seconds meter _ _ _ c.args.concentrator.now (went_none g.D.Disk origin c.args.concentrator.now.house.budget state before c.args.concentrator.now chain at (λ h image left. g.met.D.Disk.only_now c.args.concentrator.now.store.disk image left)) (refl, refl) (puts-none (g.W.Sink.written c.args.out.now));
    }

pub rounds-preserved : goal.rounds-preserved
rounds-preserved g c =
    record {
      budget = c.ask_and_hear.ensures.budget ∙ c.rounds.invariant.budget;
      well = c.in_ok-more.ensures.counted.0 ∙ c.rounds.invariant.well;
      untouched = untouched_both g.B.Bus.lost c.args.bus.now c.rounds.bus c.ask_and_hear.new.bus c.rounds.invariant.untouched c.ask_and_hear.ensures.untouched;
      so_far = λ meter origin state before chain at.
          let w = g.W.Sink.written in
          let first = c.args.concentrator.now in
          let old = c.rounds.concentrator in
          let new = c.ask_and_hear.new.concentrator in
          let one = c.rounds.invariant.so_far meter origin state before chain at in
          way_then g.D.Disk origin first.house.budget state before c.args.line c.args.moment.seconds meter _ _ _ _ _ _ _ _ first old new
          one one.ends_so.0 c.rounds.invariant.budget (λ behind ch a. c.in_ok-more.ensures.went meter origin state behind ch a)
          (λ more last e. (
            e.0 ∙ ap (λ (b : Bool). record { due = goes_on b; link = link_by (g.B.Bus.lost c.ask_and_hear.new.bus) }) c.if-not-more.false,
            exchanged_after g.B.Bus.asks c.args.bus.now c.rounds.bus c.ask_and_hear.new.bus one.happened more one.ends_so.1 e.2,
          ))
          (λ text more p q. puts-both (w c.args.out.now) (w c.rounds.out) (w c.ask_and_hear.new.out) text more p q);
    }

pub returns-then-not-more-clause-went : goal.returns-then-not-more-clause-went
returns-then-not-more-clause-went g c meter origin state before chain at =
    let w = g.W.Sink.written in
    let first = c.args.concentrator.now in
    let old = c.rounds.concentrator in
    let new = c.ask_and_hear.new.concentrator in
    let one = c.rounds.invariant.so_far meter origin state before chain at in
    way_then g.D.Disk origin first.house.budget state before c.args.line c.args.moment.seconds meter _ _ _ _ _ _ _ _ first old new
    one one.ends_so.0 c.rounds.invariant.budget (λ behind ch a. c.in_ok-more.ensures.went meter origin state behind ch a)
    (λ more last e. (
      e.0 ∙ ap (λ (b : Bool). record { due = goes_on b; link = link_by (g.B.Bus.lost c.ask_and_hear.new.bus) }) c.if-not-more.true,
      tt,
      exchanged_after g.B.Bus.asks c.args.bus.now c.rounds.bus c.ask_and_hear.new.bus one.happened more one.ends_so.1 e.2,
    ))
    (λ text more p q. puts-both (w c.args.out.now) (w c.rounds.out) (w c.ask_and_hear.new.out) text more p q)

pub returns-then-not-more-clause-counted : goal.returns-then-not-more-clause-counted
returns-then-not-more-clause-counted g c =
    (c.in_ok-more.ensures.counted.0 ∙ c.rounds.invariant.well, tt)

pub returns-then-not-more-clause-budget : goal.returns-then-not-more-clause-budget
returns-then-not-more-clause-budget g c =
    c.ask_and_hear.ensures.budget ∙ c.rounds.invariant.budget

pub returns-then-not-more-clause-untouched : goal.returns-then-not-more-clause-untouched
returns-then-not-more-clause-untouched g c =
    untouched_both g.B.Bus.lost c.args.bus.now c.rounds.bus c.ask_and_hear.new.bus c.rounds.invariant.untouched c.ask_and_hear.ensures.untouched

pub returns-in_err-more-clause-went : goal.returns-in_err-more-clause-went
returns-in_err-more-clause-went g c meter origin state before chain at =
    let p = err_from_is_err_and c.from_residual.result c.from_residual.ensures.1 in
    rw p.1 (let w = g.W.Sink.written in
    let first = c.args.concentrator.now in
    let old = c.rounds.concentrator in
    let new = c.ask_and_hear.new.concentrator in
    let one = c.rounds.invariant.so_far meter origin state before chain at in
    way_then g.D.Disk origin first.house.budget state before c.args.line c.args.moment.seconds meter _ _ _ _ _ _ _ _ first old new
    one one.ends_so.0 c.rounds.invariant.budget (λ behind ch a. c.in_err-more.ensures.went meter origin state behind ch a)
    (λ more last e. (
      tt,
      fails_after g.W.Sink c.args.out.now c.rounds.out c.ask_and_hear.new.out one.happened more one.text c.rounds.invariant.well e.1,
      exchanged_after g.B.Bus.asks c.args.bus.now c.rounds.bus c.ask_and_hear.new.bus one.happened more one.ends_so.1 e.2,
    ))
    (λ text more p q. tt))

pub returns-in_err-more-clause-counted : goal.returns-in_err-more-clause-counted
returns-in_err-more-clause-counted g c =
    let p = err_from_is_err_and c.from_residual.result c.from_residual.ensures.1 in
    rw p.1 (tt, subst (λ (n : ℕ). HasRisen n (g.W.Sink.put_failures c.ask_and_hear.new.out)) c.rounds.invariant.well c.in_err-more.ensures.counted.1)

pub returns-in_err-more-clause-budget : goal.returns-in_err-more-clause-budget
returns-in_err-more-clause-budget g c =
    c.ask_and_hear.ensures.budget ∙ c.rounds.invariant.budget

pub returns-in_err-more-clause-untouched : goal.returns-in_err-more-clause-untouched
returns-in_err-more-clause-untouched g c =
    untouched_both g.B.Bus.lost c.args.bus.now c.rounds.bus c.ask_and_hear.new.bus c.rounds.invariant.untouched c.ask_and_hear.ensures.untouched
