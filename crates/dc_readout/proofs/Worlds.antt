-- Every world is regular: so what is held is whole, and a meter goes on only from what is committed.
use Rattle.std.proofs.Common.{◌≡◌, ℕ, ◌+◌, ◌<◌, length, get_or, ◌⊎◌, inl, inr, Bool, true, false, List, [], ◌∷◌, ◌++◌, take, add-one, Option, Some, None, cond, ◌==◌, arith, refl, sym, ◌∙◌, ap, subst}
use Rattle.std.specs.Prelude.{slice_get}
use Rattle.std.specs.List.{AllByRecursion}
use Rattle.dc_linkframe.specs.Control.{selected}
use Rattle.dc_linkframe.specs.Frame.{FrameSeen}
use Rattle.dc_address.specs.declared.identity.Identity.{Identity}
use Rattle.dc_address.specs.Mask.{mask_at, mask_of, mask_wire, matches}
use Rattle.dc_readout.specs.declared.stage.Stage.{Stage}
use Rattle.dc_readout.specs.declared.stage.Stage.TheVariants.{Resets, Selects, Requests, Pending, Ended}
use Rattle.dc_readout.specs.Summary.{link_address, reset_of, selection_of, request_of, asked_at, asked_by}
use Rattle.dc_readout.proofs.Requests.{selection_is_long}
use Rattle.dc_readout.specs.Meter.{Meter, Position, hears_at, moved_by, at_selection, gone_on, begun_anew, is_own}
use Rattle.dc_readout.specs.declared.world.event.Outcome.{Outcome}
use Rattle.dc_readout.specs.declared.world.event.WorldEvent.{WorldEvent}
use Rattle.dc_readout.specs.declared.world.event.WorldEvent.TheVariants.{Start, Exchange, Commit, Stop}
use Rattle.dc_readout.specs.World.{World, Running, exchanged, exchanged_by, world_step, world_from, world_after, new_world, AreRegular, IsWhole, GoesOnFromCommitted}
use Rattle.dc_readout.specs.InStep.{bit_after, HasGoneOn, HasNotGoneOn, IsInStep, IsAlone, IsRegularWorld}
use Rattle.dc_readout.proofs.Lists.{there_or}
use Rattle.dc_readout.proofs.Moves.{moved_by-request, repeats}
use Rattle.dc_readout.proofs.Exchanges.{hears_only, alone_at}
use Rattle.dc_readout.proofs.Events.{exchange_keeps, new_is_regular, stop_keeps, start_keeps}
use Rattle.dc_readout.proofs.Commits.{commit_keeps, take_one_more}

-- ---- every world

frame_keeps : (meters : List Meter) (regular : AreRegular meters) (w : World) (r : Running) (outcome : Outcome) (asks : Option FrameSeen)
    → IsRegularWorld meters w → w.running ≡ Some r → asked_by r.session ≡ asks → IsRegularWorld meters (exchanged_by meters outcome asks r w)
frame_keeps meters regular w r outcome None is runs e = is
frame_keeps meters regular w r outcome (Some frame) is runs e = exchange_keeps meters regular w r outcome frame is runs e

running_keeps : (meters : List Meter) (regular : AreRegular meters) (w : World) (running : Option Running) (outcome : Outcome)
    → IsRegularWorld meters w → w.running ≡ running → IsRegularWorld meters (exchanged meters outcome running w)
running_keeps meters regular w None outcome is runs = is
running_keeps meters regular w (Some r) outcome is runs = frame_keeps meters regular w r outcome (asked_by r.session) is runs refl

pub step_keeps : (meters : List Meter) (regular : AreRegular meters) (w : World) (event : WorldEvent) → IsRegularWorld meters w → IsRegularWorld meters (world_step meters w event)
step_keeps meters regular w (Start place) is = start_keeps meters w place (slice_get meters place) w.running refl refl is
step_keeps meters regular w (Exchange outcome) is = running_keeps meters regular w w.running outcome is refl
step_keeps meters regular w Commit is = commit_keeps meters w w.running is refl
step_keeps meters regular w Stop is = stop_keeps meters w is

from_keeps : (meters : List Meter) (regular : AreRegular meters) (w : World) (events : List WorldEvent) → IsRegularWorld meters w → IsRegularWorld meters (world_from meters w events)
from_keeps meters regular w [] is = is
from_keeps meters regular w (event ∷ events) is =
    from_keeps meters regular (world_step meters w event) events (step_keeps meters regular w event is)

pub every_world_is_regular : (meters : List Meter) (regular : AreRegular meters) (events : List WorldEvent) → IsRegularWorld meters (world_after meters events)
every_world_is_regular meters regular events = from_keeps meters regular (new_world meters) events (new_is_regular meters)

-- what is held is whole
pub held_is_whole : (meters : List Meter) (regular : AreRegular meters) (events : List WorldEvent) → AllByRecursion (IsWhole meters) (world_after meters events).held
held_is_whole meters regular events = (every_world_is_regular meters regular events).whole

-- ---- going on

no_more : (k : ℕ) → k ≡ k + 1 → ⊥
no_more k e = omega (arith, e)

not_zero : (k : ℕ) → 0 ≡ k + 1 → ⊥
not_zero k e = omega (arith, e)

pub cond_place : (b : Bool) (q p : Position) → (cond b q p).place ≡ p.place + 1 → (b ≡ true) × (q.place ≡ p.place + 1)
cond_place true q p e = (refl, e)
cond_place false q p e = absurd (no_more p.place e)

-- a command never makes a meter go on
pub reset_stays : (address : Option ℕ) (m : Meter) (p : Position) → (moved_by (reset_of address) m p).place ≡ p.place + 1 → ⊥
unfolding moved_by
reset_stays address m p e = go (is_own m.address (link_address address)) (link_address address == selected) e
  where
    go : (own group : Bool) → (cond own (begun_anew p) (cond group (record p { selected = false }) p)).place ≡ p.place + 1 → ⊥
    go true group e = not_zero p.place e
    go false true e = no_more p.place e
    go false false e = no_more p.place e

pub selection_stays : (identity : Identity) (m : Meter) (p : Position) → (moved_by (selection_of identity) m p).place ≡ p.place + 1 → ⊥
unfolding moved_by
selection_stays identity m p e =
    go (matches (mask_at (mask_wire (mask_of identity))) m.identity) (ap (λ f. (moved_by f m p).place) (sym (selection_is_long identity)) ∙ e)
  where
    go : (b : Bool) → (at_selection b p).place ≡ p.place + 1 → ⊥
    go true e = not_zero p.place e
    go false e = no_more p.place e

pub not_gone_on : (n : ℕ) (p : Position) → (gone_on (Some (bit_after n)) p).place ≡ p.place + 1 → HasNotGoneOn n p ⊎ HasGoneOn n p → HasNotGoneOn n p
not_gone_on n p e (inl not_yet) = not_yet
not_gone_on n p e (inr gone) = absurd (no_more p.place (sym (ap (λ q. q.place) (repeats n p gone)) ∙ e))

-- a meter goes on by a request, and it is the one of the session
record GoesOn (stage : Stage) (n i j : ℕ) (p : Position) : Type 0 where
  own : j ≡ i
  asks : stage ≡ Requests
  moves : (gone_on (Some (bit_after n)) p).place ≡ p.place + 1

goes : (meters : List Meter) (regular : AreRegular meters) (stage : Stage) (identity : Identity) (address : Option ℕ) (n i j : ℕ) (frame : FrameSeen) (one other : Meter) (p : Position) (positions : List Position)
    → slice_get meters i ≡ Some one → one.address ≡ address → IsAlone stage address i positions
    → asked_at stage identity address n ≡ Some frame → slice_get meters j ≡ Some other → slice_get positions j ≡ Some p
    → (moved_by frame other p).place ≡ p.place + 1 → GoesOn stage n i j p
goes meters regular Resets identity address n i j frame one other p positions at whom alone asks at' stands e =
    let same : reset_of address ≡ frame = cc in
    absurd (reset_stays address other p (ap (λ f. (moved_by f other p).place) same ∙ e))
goes meters regular Selects identity address n i j frame one other p positions at whom alone asks at' stands e =
    let same : selection_of identity ≡ frame = cc in
    absurd (selection_stays identity other p (ap (λ f. (moved_by f other p).place) same ∙ e))
goes meters regular Requests identity address n i j frame one other p positions at whom alone asks at' stands e =
    let same : request_of address n ≡ frame = cc in
    let moves : (moved_by (request_of address n) other p).place ≡ p.place + 1 = ap (λ f. (moved_by f other p).place) same ∙ e in
    let x = cond_place (hears_at other.address (link_address address) p) (gone_on (Some (bit_after n)) p) p
    (ap (λ q. q.place) (sym (moved_by-request n (link_address address) other p)) ∙ moves) in
    record { own = hears_only meters regular address i j one other p at whom at' (alone_at address i positions alone j p stands) x.0; asks = refl; moves = x.1 }
goes meters regular (Pending more) identity address n i j frame one other p positions at whom alone asks at' stands e = absurd cc
goes meters regular Ended identity address n i j frame one other p positions at whom alone asks at' stands e = absurd cc

pub regular_goes_on : (meters : List Meter) (regular : AreRegular meters) (w : World) → IsRegularWorld meters w → GoesOnFromCommitted meters w
regular_goes_on meters regular w is r frame j other p runs asks at' stands e some =
    let a = is.agrees r runs in
    let g = goes meters regular r.session.stage r.session.meter r.session.address r.session.settled r.meter j frame a.meter other p w.positions
    a.stands.0 (sym a.whom.1) a.alone asks at' stands e in
    let at : slice_get meters r.meter ≡ Some other = ap (slice_get meters) (sym g.own) ∙ at' in
    let there : slice_get w.positions r.meter ≡ Some p = ap (slice_get w.positions) (sym g.own) ∙ stands in
    let b = a.stands.0 in
    let c = a.stands.1 in
    let same : a.meter ≡ other = cc in
    let position : a.position ≡ p = cc in
    let step : HasNotGoneOn r.session.settled p ⊎ HasGoneOn r.session.settled p =
    subst (λ q. IsInStep Requests r.session.settled q) position (subst (λ s. IsInStep s r.session.settled a.position) g.asks a.step) in
    let not_yet = not_gone_on r.session.settled p g.moves step in
    ap (slice_get w.parts_open) g.own ∙ a.kept (omega (arith, some, not_yet.0))
    ∙ ap (λ k. Some (take k a.meter.bodies)) (sym not_yet.0) ∙ ap (λ m. Some (take p.place m.bodies)) same

pub every_meter_goes_on_from_committed : (meters : List Meter) (regular : AreRegular meters) (events : List WorldEvent) → GoesOnFromCommitted meters (world_after meters events)
every_meter_goes_on_from_committed meters regular events =
    regular_goes_on meters regular (world_after meters events) (every_world_is_regular meters regular events)

-- ---- for a loop over the events

pub world_from-append : (meters : List Meter) (w : World) (xs : List WorldEvent) (event : WorldEvent) → world_from meters w (xs ++ event ∷ []) ≡ world_step meters (world_from meters w xs) event
world_from-append meters w [] event = refl
world_from-append meters w (x ∷ xs) event = world_from-append meters (world_step meters w x) xs event

pub world_after-next : (meters : List Meter) (events : List WorldEvent) (i : ℕ) (event : WorldEvent) → slice_get events i ≡ Some event
    → world_after meters (take (i + 1) events) ≡ world_step meters (world_after meters (take i events)) event
world_after-next meters events i event at =
    ap (world_after meters) (ap (λ k. take k events) (add-one i) ∙ take_one_more i events event at) ∙ world_from-append meters (new_world meters) (take i events) event

pub step_on : (meters : List Meter) (events : List WorldEvent) (i : ℕ) (d : WorldEvent) (w after : World) → i < length events → w ≡ world_after meters (take i events)
    → after ≡ world_step meters w (get_or events i d) → after ≡ world_after meters (take (i + 1) events)
step_on meters events i d w after within so_far steps =
    steps ∙ ap (λ x. world_step meters x (get_or events i d)) so_far ∙ sym (world_after-next meters events i (get_or events i d) (there_or events i d within))
