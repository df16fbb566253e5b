use Rattle.std.proofs.lemmas.List.Elements.{All-nil, All-cons}
use Rattle.std.proofs.Common.{◌≡◌, ◌+◌, ◌∷◌, [], ℕ, List, take, map, append-nil, subst, arith}
use Rattle.mbdc_io.specs.Stream.{Puts}
use Rattle.dc_core.specs.Run.{event_of, IsInTime, Ran}
use Rattle.dc_core.specs.Text.{answer_text}
use Rattle.dc_core.proofs.Wents.{event_went}
use Rattle.dc_poller.proofs.script.run_event.Goals as goal

pub run-requires : goal.run-requires
run-requires g c = All-cons IsInTime c.args.event.now [] c.requires (All-nil IsInTime)

pub returns-in-Ok-clause-went : goal.returns-in-Ok-clause-went
returns-in-Ok-clause-went g c origin state before chain at =
    let w = g.W.Sink.written in
    let wrote : List ℕ → Type 0 = Puts (w c.args.out.now) (w c.run.new.out) in
    event_went g.D.Disk origin c.args.concentrator.now.house.budget state before (event_of c.args.event.now) _ wrote c.args.concentrator.now c.run.new.self
    (c.in-Ok.ensures.ran origin state before chain at) (λ answer put. subst wrote (append-nil (answer_text answer)) put)

pub returns-in-Err-clause-went : goal.returns-in-Err-clause-went
returns-in-Err-clause-went g c origin state before chain at =
    let ended = c.in-Err.ensures.ended origin state before chain at in
    let below = ended.1 in
    let first : ended.0 ≡ 0 = omega (arith, below) in
    let ran = subst (λ (last : ℕ). Ran g.D.Disk origin c.args.concentrator.now.house.budget state before (map event_of (take (last + 1) (c.args.event.now ∷ []))) (λ text. Unit {0}) c.args.concentrator.now c.run.new.self)
    first ended.2 in
    event_went g.D.Disk origin c.args.concentrator.now.house.budget state before (event_of c.args.event.now) _ (λ text. Unit {0}) c.args.concentrator.now c.run.new.self
    ran (λ answer wrote. tt)
