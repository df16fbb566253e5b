use Rattle.std.proofs.Common.{Bool, ◌≡◌, ◌+◌, ◌++◌, ◌∷◌, [], ℕ, List, inl, inr, append-nil, eqb-true, refl, sym, subst, ◌∙◌, arith, codes}
use Rattle.mbdc_io.specs.Stream.{Puts}
use Rattle.mbdc_io.proofs.Pieces.{puts-both, puts-none}
use Rattle.mbdc_io.specs.Words.{number_word}
use Rattle.mbdc_change.specs.State.{State}
use Rattle.dc_core.specs.Core.{opened}
use Rattle.dc_core.specs.Images.{IsAt}
use Rattle.dc_core.specs.Transcript.{Turn, leads, IsChain}
use Rattle.mbdc_io.specs.Lines.{lines_of}
use Rattle.dc_poller.specs.Run.{run_of}
use Rattle.dc_poller.specs.Link.{HasBus, link_of}
use Rattle.dc_poller.specs.Script.{AskFor, LineRan, LineCut, ScriptCut, deeds_turns, deeds_text}
use Rattle.dc_poller.specs.ScriptLine.{seen}
use Rattle.dc_poller.specs.Starved.{LineStarved, ScriptStarved}
use Rattle.dc_poller.proofs.Halts.{on_write, on_no_memory}
use Rattle.mbdc_decode.proofs.Inputs.{no_line}
use Rattle.dc_poller.specs.Traffic.{AreCarried}
use Rattle.dc_poller.proofs.LineRuns.{SoFar, one_more, cut_here, lines_none}
use Rattle.dc_poller.proofs.Starvings.{starved_here}
use Rattle.dc_poller.proofs.Traffics.{carried_both, carries_none}
use Rattle.dc_core.proofs.Wents.{went_none, went_chain, went_at}
use Rattle.dc_poller.proofs.script.run_lines.Given.{Over}
use Rattle.dc_poller.proofs.script.run_lines.Goals.{After-first_line}
use Rattle.dc_poller.proofs.script.run_lines.Goals as goal

-- ---- THE LINES BEFORE THIS ONE

-- the loop's own, with these lines to come
abbrev SoFarWith : (g : Over) → g.row.D.Denot → After-first_line g → List (List ℕ) → Type 0
SoFarWith g origin c rest = SoFar g.D.Disk origin c.args.concentrator.now.house.budget (link_of g.B.Bus.lost c.args.gateway.now) (link_of g.B.Bus.lost c.lines.gateway) (lines_of c.args.input.now) rest
    c.lines.moment.0 c.lines.count (Puts (g.W.Sink.written c.args.out.now) (g.W.Sink.written c.lines.out)) (AreCarried g.B.Bus.lost g.B.Bus.asks c.args.gateway.now c.lines.gateway) c.args.concentrator.now c.lines.concentrator

here : (g : Over) (origin : g.row.D.Denot) (c : After-first_line g) → SoFarWith g origin c (c.first_line.result.0.now ∷ lines_of c.first_line.result.1.now)
here g origin c = subst (SoFarWith g origin c) c.first_line.ensures.lines (c.lines.invariant.so_far origin)

-- any run before the script, after which the concentrator is as it came
abbrev IsChainBefore : (g : Over) → After-first_line g → State → List Turn → Type 0
IsChainBefore g c state before = IsChain c.args.concentrator.now.house.budget (opened state) before

abbrev IsAtBefore : (g : Over) → g.row.D.Denot → After-first_line g → State → List Turn → Type 0
IsAtBefore g origin c state before = IsAt g.D.Disk origin c.args.concentrator.now (leads (opened state) before)

abbrev turns_here : (g : Over) (c : After-first_line g) (origin : g.row.D.Denot) (state : State) (before : List Turn) → IsChainBefore g c state before → IsAtBefore g origin c state before → List Turn
turns_here g c origin state before chain at = deeds_turns ((here g origin c).ran state before chain at).lines.deeds

chain_here : (g : Over) (c : After-first_line g) (origin : g.row.D.Denot) (state : State) (before : List Turn) (chain : IsChainBefore g c state before) (at : IsAtBefore g origin c state before)
    → IsChain c.args.concentrator.now.house.budget (opened state) (before ++ turns_here g c origin state before chain at)
chain_here g c origin state before chain at =
    went_chain g.D.Disk origin c.args.concentrator.now.house.budget state before (turns_here g c origin state before chain at) c.args.concentrator.now c.lines.concentrator ((here g origin c).ran state before chain at).lines.went

at_here : (g : Over) (c : After-first_line g) (origin : g.row.D.Denot) (state : State) (before : List Turn) (chain : IsChainBefore g c state before) (at : IsAtBefore g origin c state before)
    → IsAt g.D.Disk origin c.lines.concentrator (leads (opened state) (before ++ turns_here g c origin state before chain at))
at_here g c origin state before chain at =
    went_at g.D.Disk origin c.args.concentrator.now.house.budget state before (turns_here g c origin state before chain at) c.args.concentrator.now c.lines.concentrator ((here g origin c).ran state before chain at).lines.went

pub lines-init : goal.lines-init
lines-init g c = record {
  bytes = c.requires;
  counted = omega arith;
  budget = refl;
  well = refl;
  moment = omega arith;
  had = λ is. is;
  so_far = λ origin. record {
    done = [];
    are_read = refl;
    moment_is = refl;
    count_is = refl;
    ran = λ state before chain at. lines_none g.D.Disk origin c.args.concentrator.now.house.budget state before (link_of g.B.Bus.lost c.args.gateway.now) (Puts (g.W.Sink.written c.args.out.now) (g.W.Sink.written c.args.out.now)) (AreCarried g.B.Bus.lost g.B.Bus.asks c.args.gateway.now c.args.gateway.now) c.args.concentrator.now
        (went_none g.D.Disk origin c.args.concentrator.now.house.budget state before c.args.concentrator.now chain at (λ h image left. g.met.D.Disk.only_now c.args.concentrator.now.store.disk image left))
        (puts-none (g.W.Sink.written c.args.out.now)) (carries_none g.B.Bus.lost g.B.Bus.asks c.args.gateway.now);
  };
}

pub lines-preserved : goal.lines-preserved
lines-preserved g c =
    let asked = seen c.in-Some.asked in
    let w = g.W.Sink.written in
    let counted = c.lines.invariant.counted in
    let shorter = c.first_line.ensures.shorter in
    let b_is = c.lines.invariant.budget in
    let first = c.args.concentrator.now in
    let old = c.lines.concentrator in
    let new = c.run_line.new.concentrator in
    let piece : List ℕ → Type 0 = Puts (w c.lines.out) (w c.run_line.new.out) in
    record {
      bytes = omega arith;
      counted = omega (arith, counted, shorter);
      budget = c.run_line.ensures.budget ∙ b_is;
      well = c.in_default-run_line.ensures.counted ∙ c.lines.invariant.well;
      moment = c.moment_behind-moment.result.fits;
      had = λ is. c.lines.invariant.had (c.run_line.ensures.had is);
      so_far = λ origin. subst (λ (m : ℕ). SoFar g.D.Disk origin first.house.budget (link_of g.B.Bus.lost c.args.gateway.now) (link_of g.B.Bus.lost c.run_line.new.gateway) (lines_of c.args.input.now) (lines_of c.first_line.result.1.now) m (c.lines.count + 1) (Puts (w c.args.out.now) (w c.run_line.new.out)) (AreCarried g.B.Bus.lost g.B.Bus.asks c.args.gateway.now c.run_line.new.gateway) first new)
          (sym c.moment_behind-moment.ensures)
          (one_more g.D.Disk origin first.house.budget (link_of g.B.Bus.lost c.args.gateway.now) (link_of g.B.Bus.lost c.lines.gateway) (link_of g.B.Bus.lost c.run_line.new.gateway) (lines_of c.args.input.now) c.first_line.result.0.now (lines_of c.first_line.result.1.now) asked c.lines.moment.0 c.lines.count
          (Puts (w c.args.out.now) (w c.lines.out)) piece (Puts (w c.args.out.now) (w c.run_line.new.out)) (AreCarried g.B.Bus.lost g.B.Bus.asks c.args.gateway.now c.lines.gateway) (AreCarried g.B.Bus.lost g.B.Bus.asks c.args.gateway.now c.run_line.new.gateway) (AreCarried g.B.Bus.lost g.B.Bus.asks c.lines.gateway c.run_line.new.gateway) first old new (here g origin (goal.at.lines-preserved g c).After-first_line) c.in-Some.ensures.found
          (λ state before chain at. subst (λ (b : ℕ). LineRan g.D.Disk (run_of origin b state before old new) c.lines.moment.0 asked (link_of g.B.Bus.lost c.lines.gateway) (link_of g.B.Bus.lost c.run_line.new.gateway) piece (AreCarried g.B.Bus.lost g.B.Bus.asks c.lines.gateway c.run_line.new.gateway)) b_is
          (c.in_default-run_line.ensures.ran origin state before (subst (λ (b : ℕ). IsChain b (opened state) before) (sym b_is) chain) at))
          (λ text more wrote put. puts-both (w c.args.out.now) (w c.lines.out) (w c.run_line.new.out) text more wrote put)
          (λ exchanges more so one. carried_both g.B.Bus.lost g.B.Bus.asks c.args.gateway.now c.lines.gateway c.run_line.new.gateway exchanges more so one));
    }

pub returns-in-Err-run_line-clause-cut : goal.returns-in-Err-run_line-clause-cut
returns-in-Err-run_line-clause-cut g c origin state before chain at =
    let from = (goal.at.returns-in-Err-run_line-clause-cut g c).After-first_line in
    let asked = seen c.in-Some.asked in
    let b_is = c.lines.invariant.budget in
    let first = c.args.concentrator.now in
    let old = c.lines.concentrator in
    let new = c.run_line.new.concentrator in
    let turns = turns_here g from origin state before chain at in
    on_write (Unit {0}) Bool c.in-Err-run_line.halt (LineCut g.D.Disk (run_of origin old.house.budget state (before ++ turns) old new) c.lines.moment.0 asked (link_of g.B.Bus.lost c.lines.gateway) (AreCarried g.B.Bus.lost g.B.Bus.asks c.lines.gateway c.run_line.new.gateway))
    (ScriptCut g.D.Disk (run_of origin first.house.budget state before first new) (link_of g.B.Bus.lost c.args.gateway.now) (lines_of c.args.input.now) (AreCarried g.B.Bus.lost g.B.Bus.asks c.args.gateway.now c.run_line.new.gateway))
    (λ here_cut.
    let cut = subst (λ (b : ℕ). LineCut g.D.Disk (run_of origin b state (before ++ turns) old new) c.lines.moment.0 asked (link_of g.B.Bus.lost c.lines.gateway) (AreCarried g.B.Bus.lost g.B.Bus.asks c.lines.gateway c.run_line.new.gateway)) b_is here_cut in
    cut_here g.D.Disk origin first.house.budget (link_of g.B.Bus.lost c.args.gateway.now) (link_of g.B.Bus.lost c.lines.gateway) (lines_of c.args.input.now) c.first_line.result.0.now (lines_of c.first_line.result.1.now) c.lines.moment.0 c.lines.count (Puts (g.W.Sink.written c.args.out.now) (g.W.Sink.written c.lines.out)) (AreCarried g.B.Bus.lost g.B.Bus.asks c.args.gateway.now c.lines.gateway) (AreCarried g.B.Bus.lost g.B.Bus.asks c.args.gateway.now c.run_line.new.gateway) cut.turns cut.exchanges first old new (here g origin from) state before chain at
    (inl (asked, c.in-Some.ensures.found, cut.does))
    (λ exchanges so. carried_both g.B.Bus.lost g.B.Bus.asks c.args.gateway.now c.lines.gateway c.run_line.new.gateway exchanges cut.exchanges so cut.over) cut.went)
    (c.in-Err-run_line.ensures.cut origin state (before ++ turns) (subst (λ (b : ℕ). IsChain b (opened state) (before ++ turns)) (sym b_is) (chain_here g from origin state before chain at)) (at_here g from origin state before chain at))

pub returns-in-Err-run_line-clause-starved : goal.returns-in-Err-run_line-clause-starved
returns-in-Err-run_line-clause-starved g c origin state before chain at =
    let from = (goal.at.returns-in-Err-run_line-clause-starved g c).After-first_line in
    let asked = seen c.in-Some.asked in
    let w = g.W.Sink.written in
    let b_is = c.lines.invariant.budget in
    let first = c.args.concentrator.now in
    let old = c.lines.concentrator in
    let new = c.run_line.new.concentrator in
    let turns = turns_here g from origin state before chain at in
    let piece : List ℕ → Type 0 = Puts (w c.lines.out) (w c.run_line.new.out) in
    on_no_memory (Unit {0}) Bool c.in-Err-run_line.halt (LineStarved g.D.Disk (run_of origin old.house.budget state (before ++ turns) old new) asked (link_of g.B.Bus.lost c.lines.gateway) piece (AreCarried g.B.Bus.lost g.B.Bus.asks c.lines.gateway c.run_line.new.gateway))
    (ScriptStarved g.D.Disk (run_of origin first.house.budget state before first new) (link_of g.B.Bus.lost c.args.gateway.now) (lines_of c.args.input.now) (Puts (w c.args.out.now) (w c.run_line.new.out)) (AreCarried g.B.Bus.lost g.B.Bus.asks c.args.gateway.now c.run_line.new.gateway))
    (λ starved. starved_here g.D.Disk origin first.house.budget (link_of g.B.Bus.lost c.args.gateway.now) (link_of g.B.Bus.lost c.lines.gateway) (lines_of c.args.input.now) c.first_line.result.0.now (lines_of c.first_line.result.1.now) asked c.lines.moment.0 c.lines.count
    (Puts (w c.args.out.now) (w c.lines.out)) piece (Puts (w c.args.out.now) (w c.run_line.new.out)) (AreCarried g.B.Bus.lost g.B.Bus.asks c.args.gateway.now c.lines.gateway) (AreCarried g.B.Bus.lost g.B.Bus.asks c.args.gateway.now c.run_line.new.gateway) (AreCarried g.B.Bus.lost g.B.Bus.asks c.lines.gateway c.run_line.new.gateway) first old new (here g origin from) c.in-Some.ensures.found b_is
    (λ text more wrote put. puts-both (w c.args.out.now) (w c.lines.out) (w c.run_line.new.out) text more wrote put)
    (λ exchanges more so one. carried_both g.B.Bus.lost g.B.Bus.asks c.args.gateway.now c.lines.gateway c.run_line.new.gateway exchanges more so one) state before chain at starved)
    (c.in-Err-run_line.ensures.starved origin state (before ++ turns) (subst (λ (b : ℕ). IsChain b (opened state) (before ++ turns)) (sym b_is) (chain_here g from origin state before chain at)) (at_here g from origin state before chain at))

pub returns-in-Err-run_line-clause-through : goal.returns-in-Err-run_line-clause-through
returns-in-Err-run_line-clause-through g c =
    on_no_memory (Unit {0}) Bool c.in-Err-run_line.halt (HasBus (link_of g.B.Bus.lost c.lines.gateway)) (HasBus (link_of g.B.Bus.lost c.args.gateway.now)) c.lines.invariant.had c.in-Err-run_line.ensures.through

pub returns-in-Ok-clause-ran : goal.returns-in-Ok-clause-ran
returns-in-Ok-clause-ran g c origin state before chain at =
    let so_far = c.lines.invariant.so_far origin in
    let ran = (so_far.ran state before chain at).lines in
    let w = g.W.Sink.written in
    record {
      asked = so_far.done;
      rest = c.first_line.result.0.now ∷ lines_of c.first_line.result.1.now;
      are_read = subst (AskFor (lines_of c.args.input.now) so_far.done) c.first_line.ensures.lines so_far.are_read;
      ends = (refl, c.in_default.ensures.only);
      done = record {
        deeds = ran.deeds;
        done = ran.done;
        went = ran.went;
        carried = ran.carried;
        text = puts-both (w c.args.out.now) (w c.lines.out) (w c.put_syntax.new.out) (deeds_text ran.deeds) _ ran.text
            (subst (λ (n : ℕ). Puts (w c.lines.out) (w c.put_syntax.new.out) (codes "LINE" ++ number_word (n + 1) ++ codes " SYNTAX\n")) so_far.count_is c.in-Ok.ensures.0);
      };
    }

pub returns-in-Err-clause-cut : goal.returns-in-Err-clause-cut
returns-in-Err-clause-cut g c origin state before chain at =
    let from = (goal.at.returns-in-Err-clause-cut g c).After-first_line in
    let first = c.args.concentrator.now in
    let old = c.lines.concentrator in
    cut_here g.D.Disk origin first.house.budget (link_of g.B.Bus.lost c.args.gateway.now) (link_of g.B.Bus.lost c.lines.gateway) (lines_of c.args.input.now) c.first_line.result.0.now (lines_of c.first_line.result.1.now) c.lines.moment.0 c.lines.count (Puts (g.W.Sink.written c.args.out.now) (g.W.Sink.written c.lines.out)) (AreCarried g.B.Bus.lost g.B.Bus.asks c.args.gateway.now c.lines.gateway) (AreCarried g.B.Bus.lost g.B.Bus.asks c.args.gateway.now c.lines.gateway) [] [] first old old (here g origin from) state before chain at
    (inr (c.in_default.ensures.only, refl, refl))
    (λ exchanges so. subst (AreCarried g.B.Bus.lost g.B.Bus.asks c.args.gateway.now c.lines.gateway) (sym (append-nil exchanges)) so)
    (went_none g.D.Disk origin first.house.budget state (before ++ turns_here g from origin state before chain at) old (chain_here g from origin state before chain at) (at_here g from origin state before chain at)
    (λ h image left. g.met.D.Disk.only_now old.store.disk image left))

pub returns-clause-ran : goal.returns-clause-ran
returns-clause-ran g c origin state before chain at =
    let so_far = c.lines.invariant.so_far origin in
    let ran = (so_far.ran state before chain at).lines in
    let none : lines_of c.lines.rest.now ≡ [] = no_line c.lines.rest.now (eqb-true _ _ (sym c.lines-test.ensures)) in
    record {
      asked = so_far.done;
      rest = [];
      are_read = subst (AskFor (lines_of c.args.input.now) so_far.done) none so_far.are_read;
      ends = refl;
      done = record {
        deeds = ran.deeds;
        done = ran.done;
        went = ran.went;
        carried = ran.carried;
        text = subst (Puts (g.W.Sink.written c.args.out.now) (g.W.Sink.written c.lines.out)) (sym (append-nil (deeds_text ran.deeds))) ran.text;
      };
    }

pub invariant_of-moment : goal.invariant_of-moment
invariant_of-moment g c = record { fits = c.lines.invariant.moment }
