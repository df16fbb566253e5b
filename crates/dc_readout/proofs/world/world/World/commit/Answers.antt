use Rattle.std.proofs.Common.{◌≡◌, ◌+◌, ◌<◌, ℕ, List, [], length, Option, Some, None, arith, sym, ◌∙◌, ap, subst}
use Rattle.std.specs.Prelude.{slice_get, slice_set, unwrap_or}
use Rattle.std.proofs.lemmas.Bool.{false≢true}
use Rattle.dc_readout.specs.declared.stage.Stage.TheVariants.{Pending}
use Rattle.dc_readout.specs.Summary.{IsPending}
use Rattle.dc_readout.specs.World.{World, Running, committed, joined, more_after}
use Rattle.dc_readout.specs.InStep.{IsNextBody, IsRegularWorld}
use Rattle.dc_readout.proofs.Asked.{open_within, pending_when, waits_at}
use Rattle.dc_readout.proofs.Committing.{last_held, more_open, more_follow, none_follow, parts_joined, world_of}
use Rattle.dc_readout.proofs.Lists.{there, set_again}
use Rattle.dc_readout.proofs.world.world.World.commit.Given.{Over}
use Rattle.dc_readout.proofs.world.world.World.commit.Goals as goal
use Rattle.dc_readout.proofs.world.world.World.commit.Goals.{In-Some-waiting, After-is_over, in-Some+in-Some-self-4, in-Some+in-None-2, in-None-2}

-- the session that runs, and the world before the commit
abbrev session_of : (g : Over) → In-Some-waiting g → Running
session_of g c = record { meter = c.running.inside.meter; session = c.running.inside.session; waiting = c.running.inside.waiting }

abbrev world_before : (g : Over) → In-Some-waiting g → World
world_before g c = record { positions = c.self.inside.positions.items; running = c.self.inside.running; parts_open = c.self.inside.open_parts.items; held = c.self.inside.held.items }

-- A BODY WAITS: the session that runs has a meter of this world, and is pending with it.
record IsWaiting (g : Over) (c : In-Some-waiting g) : Type 0 where
  runs : (world_before g c).running ≡ Some (session_of g c)
  within : c.running.inside.meter < length c.self.inside.open_parts.items
  pending : IsPending c.running.inside.session.stage
  stage : c.running.inside.session.stage ≡ Pending (more_after c.in-Some-waiting.body)

is_waiting : (g : Over) (c : In-Some-waiting g) → IsWaiting g c
is_waiting g c =
    let r = session_of g c in
    let runs : (world_before g c).running ≡ Some r = sym c.take.ensures.value ∙ c.in-Some.is ∙ ap Some (sym c.running.view_is) in
    let is : IsRegularWorld c.args.scripts.now (world_before g c) = subst (IsRegularWorld c.args.scripts.now) (sym c.self.view_is) c.requires in
    let next = subst (λ o. IsNextBody r.session.stage r.session.settled o (is.agrees r runs).meter.bodies) c.in-Some-waiting.is (is.agrees r runs).waits in
    record {
      runs = runs;
      within = open_within c.args.scripts.now (world_before g c) r is runs;
      pending = pending_when r.session.stage r.session.settled c.in-Some-waiting.body (is.agrees r runs).meter.bodies next;
      stage = waits_at r.session.stage r.session.settled c.in-Some-waiting.body (is.agrees r runs).meter.bodies next;
    }

-- THE BODY HAS JOINED the meter's parts, which were taken out of those that are open.
record IsJoined (g : Over) (c : After-is_over g) : Type 0 where
  are : c.in_ok-parts.parts ≡ joined (c.running.inside.session.settled + 1) c.in-Some-waiting.body (unwrap_or (slice_get c.self.inside.open_parts.items c.running.inside.meter) [])
  emptied : c.replace-before.new.dest ≡ []

is_joined : (g : Over) (c : After-is_over g) → c.running.inside.meter < length c.self.inside.open_parts.items → IsJoined g c
is_joined g c within =
    let before : slice_get c.self.inside.open_parts.items c.running.inside.meter ≡ Some c.replace-before.result
    = there c.self.inside.open_parts.items c.running.inside.meter c.index_mut.result.now within c.index_mut.ensures.value ∙ ap Some (sym c.replace-before.ensures.value) in
    record {
      are = c.in_ok-parts.ensures ∙ parts_joined c.has_settled.result c.running.inside.session.settled c.in-Some-waiting.body c.replace-before.result (slice_get c.self.inside.open_parts.items c.running.inside.meter) c.has_settled.ensures.0 c.has_settled.ensures.1 before;
      emptied = c.replace-before.ensures.after ∙ c.new.ensures;
    }

pub index_mut-requires : goal.index_mut-requires
index_mut-requires g c =
    let is = is_waiting g (goal.at.index_mut-requires g c).In-Some-waiting in
    let within = is.within in
    omega (arith, within, c.self.inside.open_parts.ok.0)

pub settle-requires : goal.settle-requires
settle-requires g c = (is_waiting g (goal.at.settle-requires g c).In-Some-waiting).pending

pub index_mut-requires-else-is_over : goal.index_mut-requires-else-is_over
index_mut-requires-else-is_over g c =
    let is = is_waiting g (goal.at.index_mut-requires-else-is_over g c).In-Some-waiting in
    let within = is.within in
    omega (arith, within, c.self.inside.open_parts.ok.0)

pub returns-in_ok-push : goal.returns-in_ok-push
returns-in_ok-push g c =
    let at = goal.at.returns-in_ok-push g c in
    let is = is_waiting g at.In-Some-waiting in
    let joins = is_joined g at.After-is_over is.within in
    let w = world_before g at.In-Some-waiting in
    let opened = slice_set c.self.inside.open_parts.items c.running.inside.meter c.replace-before.new.dest in
    let ended = sym (ap (λ s. s.stage) c.settle.ensures.exact) ∙ c.is_over.ensures.0 c.if-is_over.true in
    let last = none_follow c.running.inside.session.stage (more_after c.in-Some-waiting.body) is.stage ended in
    let done = last_held w (session_of g at.In-Some-waiting) c.in-Some-waiting.body c.in_ok-parts.parts is.runs c.in-Some-waiting.is joins.are c.take.new.self opened c.push.new.self.items last
    c.take.ensures.after (ap (slice_set c.self.inside.open_parts.items c.running.inside.meter) joins.emptied) c.in_ok-push.ensures.items in
    subst (λ (x : World). world_of w.positions c.take.new.self opened c.push.new.self.items ≡ committed x.running x) c.self.view_is done

pub returns-else-is_over : goal.returns-else-is_over
returns-else-is_over g c =
    let at = goal.at.returns-else-is_over g c in
    let is = is_waiting g at.In-Some-waiting in
    let joins = is_joined g at.After-is_over is.within in
    let w = world_before g at.In-Some-waiting in
    let goes = more_follow c.running.inside.session.stage (more_after c.in-Some-waiting.body) is.stage (λ e. false≢true (sym c.if-is_over.false ∙ c.is_over.ensures.1 (ap (λ s. s.stage) c.settle.ensures.exact ∙ e))) in
    let opened : List (List (List ℕ)) = slice_set (slice_set c.self.inside.open_parts.items c.running.inside.meter c.replace-before.new.dest) c.running.inside.meter c.in_ok-parts.parts in
    let next : Option Running = Some (record { meter = c.running.inside.meter; session = c.settle.new.self; waiting = None }) in
    let done = more_open w (session_of g at.In-Some-waiting) c.in-Some-waiting.body c.in_ok-parts.parts is.runs c.in-Some-waiting.is joins.are next opened goes
    (ap (λ s. Some (record { meter = c.running.inside.meter; session = s; waiting = None })) c.settle.ensures.exact) (set_again c.self.inside.open_parts.items c.running.inside.meter c.replace-before.new.dest c.in_ok-parts.parts) in
    let rest = subst (λ (x : World). world_of w.positions next opened w.held ≡ committed x.running x) c.self.view_is done in
    elim c.match-self-3.branch [
      | in-Some+in-Some-self-4 v ↦ v.self-is ∙ rest
      | in-Some+in-None-2 v ↦ v.self-is ∙ rest
      | in-None-2 v ↦ v.self-is ∙ rest
    ]
