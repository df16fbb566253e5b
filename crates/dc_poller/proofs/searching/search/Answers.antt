use Rattle.std.proofs.Common.{◌≡◌, List, ℕ, [], ◌∷◌, Some, None, Err, refl, ap, sym, subst, ◌∙◌}
use Rattle.mbdc_io.specs.Stream.{Puts}
use Rattle.dc_core.specs.Event.{Answer, commits, committed}
use Rattle.mbdc_bus.specs.Bus.{AreExchanged, Exchange}
use Rattle.dc_poller.specs.Link.{link_by}
use Rattle.dc_poller.specs.Search.{Comes}
use Rattle.dc_poller.proofs.Searches.{commit_and_look, busy_halts, refused_halts, talked_comes}
use Rattle.dc_poller.proofs.searching.search.Goals as goal

pub returns-in-Some-clause-went : goal.returns-in-Some-clause-went
returns-in-Some-clause-went g c origin state before chain at =
    let link = link_by (g.B.Bus.lost c.args.bus.now) in
    let meters = g.B.Bus.meters c.args.bus.now in
    let talked : List Exchange → Type 0 = λ exchanges. AreExchanged g.B.Bus.asks c.args.bus.now exchanges c.args.bus.now in
    let wrote : List ℕ → Type 0 = Puts (g.W.Sink.written c.args.out.now) (g.W.Sink.written c.put_started.new.out) in
    commit_and_look g.D.Disk origin c.args.concentrator.now.house.budget state before c.quiet_commit.result c.in-Ok.field-0 (Some c.in-Some.field-0)
    (Comes meters c.args.budget link link talked wrote c.written.result) c.args.concentrator.now c.quiet_commit.new.concentrator
    (c.quiet_commit.ensures.went origin state before chain at) c.in-Ok.is c.quiet_commit.ensures.budget
    (λ behind ch a. rw (sym c.in-Some.is) (c.quiet_ask.ensures.went origin state behind ch a))
    (busy_halts meters c.args.budget talked wrote link c.put_started.result c.written.result c.in-Ok.field-0 c.in-Some.field-0 refl c.written.ensures c.put_started.ensures.0)

pub returns-in-None-clause-went : goal.returns-in-None-clause-went
returns-in-None-clause-went g c origin state before chain at =
    let link = link_by (g.B.Bus.lost c.args.bus.now) in
    let left = link_by (g.B.Bus.lost c.search_bus.new.bus) in
    let meters = g.B.Bus.meters c.args.bus.now in
    let talked : List Exchange → Type 0 = λ exchanges. AreExchanged g.B.Bus.asks c.args.bus.now exchanges c.search_bus.new.bus in
    let wrote : List ℕ → Type 0 = Puts (g.W.Sink.written c.args.out.now) (g.W.Sink.written c.search_bus.new.out) in
    commit_and_look g.D.Disk origin c.args.concentrator.now.house.budget state before c.quiet_commit.result c.in-Ok.field-0 None
    (Comes meters c.args.budget link left talked wrote c.search_bus.result) c.args.concentrator.now c.quiet_commit.new.concentrator
    (c.quiet_commit.ensures.went origin state before chain at) c.in-Ok.is c.quiet_commit.ensures.budget
    (λ behind ch a. rw (sym c.in-None.is) (c.quiet_ask.ensures.went origin state behind ch a))
    (talked_comes meters c.args.budget talked wrote link left c.search_bus.result c.in-Ok.field-0 c.search_bus.ensures.talked)

pub returns-in-Err-clause-went : goal.returns-in-Err-clause-went
returns-in-Err-clause-went g c origin state before chain at =
    let link = link_by (g.B.Bus.lost c.args.bus.now) in
    let meters = g.B.Bus.meters c.args.bus.now in
    let talked : List Exchange → Type 0 = λ exchanges. AreExchanged g.B.Bus.asks c.args.bus.now exchanges c.args.bus.now in
    let wrote : List ℕ → Type 0 = Puts (g.W.Sink.written c.args.out.now) (g.W.Sink.written c.put_committed.new.out) in
    let one = c.quiet_commit.ensures.went origin state before chain at in
    let is : one.answer ≡ committed (Err c.in-Err.fault) = one.is_such ∙ ap committed c.in-Err.is in
    record {
      turns = (commits, one.answer) ∷ [];
      are_such = subst (λ (a : Answer). Comes meters c.args.budget link link talked wrote c.written-in-Err.result ((commits, a) ∷ [])) (sym is)
          (refused_halts meters c.args.budget talked wrote link c.put_committed.result c.written-in-Err.result c.in-Err.fault refl c.written-in-Err.ensures c.put_committed.ensures.0);
      went = one.went;
    }
