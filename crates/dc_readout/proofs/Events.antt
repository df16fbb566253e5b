-- What each event keeps of a world.
use Rattle.std.proofs.Common.{◌≡◌, ℕ, zero, suc, Bool, true, false, List, [], ◌∷◌, length, Option, Some, None, cond, arith, refl, sym, ◌∙◌, ap, subst}
use Rattle.std.specs.Prelude.{slice_get, nat_lt}
use Rattle.std.proofs.lemmas.List.{length-map}
use Rattle.dc_linkframe.specs.Frame.{FrameSeen}
use Rattle.dc_linkframe.specs.Reading.{frame_of}
use Rattle.dc_address.specs.declared.identity.Identity.{Identity}
use Rattle.dc_records.specs.Body.{continues}
use Rattle.dc_records.specs.Telegram.{Parsed}
use Rattle.dc_readout.specs.declared.stage.Stage.{Stage}
use Rattle.dc_readout.specs.declared.stage.Stage.TheVariants.{Resets, Selects, Requests, Pending, Ended}
use Rattle.dc_readout.specs.Answer.{Meaning, acknowledged, answered, missed, broken}
use Rattle.dc_readout.specs.Summary.{Verdict, again, ready, new, failed, begun, request_of, asked_at, asked_by, meaning_at, verdict_of_meaning, verdict_by, after_command, heard_by}
use Rattle.dc_readout.specs.Meter.{Meter, Position}
use Rattle.dc_readout.specs.declared.world.event.Outcome.{Outcome}
use Rattle.dc_readout.specs.declared.world.event.Outcome.TheVariants.{RequestLost, ReplyLost, ReplyUnreadable, AsSent}
use Rattle.dc_readout.specs.World.{World, Running, positions_after, heard_in, running_after, exchanged_as, new_world, started_by, AreRegular}
use Rattle.dc_readout.proofs.Table.{answered_when}
use Rattle.dc_readout.specs.InStep.{IsInStep, IsAlone, IsNextBody, Agrees, IsRegularWorld}
use Rattle.dc_readout.proofs.Moves.{length-moved}
use Rattle.dc_readout.proofs.Exchanges.{After, stays, command_done, next_body}

-- ---- an exchange

pub ready_is : (tries n : ℕ) (o : Meaning) → verdict_of_meaning tries n o ≡ ready → o ≡ acknowledged
ready_is tries n acknowledged e = refl
ready_is tries n (answered t) e = absurd cc
ready_is tries n (missed why) e = absurd (go (nat_lt tries 2) e)
  where
    go : (b : Bool) → cond b again (failed why) ≡ ready → ⊥
    go true e = cc
    go false e = cc
ready_is tries n (broken why) e = absurd cc

pub new_is : (tries n part : ℕ) (t : Parsed) (o : Meaning) → verdict_of_meaning tries n o ≡ new part t → o ≡ answered t
new_is tries n part t acknowledged e = absurd cc
new_is tries n part t (answered found) e = let same : found ≡ t = cc in ap answered same
new_is tries n part t (missed why) e = absurd (go (nat_lt tries 2) e)
  where
    go : (b : Bool) → cond b again (failed why) ≡ new part t → ⊥
    go true e = cc
    go false e = cc
new_is tries n part t (broken why) e = absurd cc

-- no body is uncommitted where something is requested
pub waits_none : (stage : Stage) (identity : Identity) (address : Option ℕ) (n : ℕ) (frame : FrameSeen) (waiting : Option (List ℕ)) (bodies : List (List ℕ))
    → asked_at stage identity address n ≡ Some frame → IsNextBody stage n waiting bodies → waiting ≡ None
waits_none Resets identity address n frame waiting bodies asks waits = waits
waits_none Selects identity address n frame waiting bodies asks waits = waits
waits_none Requests identity address n frame waiting bodies asks waits = waits
waits_none (Pending more) identity address n frame waiting bodies asks waits = absurd cc
waits_none Ended identity address n frame waiting bodies asks waits = waits

pub waits_after : (stage : Stage) (identity : Identity) (address : Option ℕ) (n : ℕ) (frame : FrameSeen) (waiting : Option (List ℕ)) (bodies : List (List ℕ))
    → asked_at stage identity address n ≡ Some frame → waiting ≡ None → IsNextBody (after_command stage address) n waiting bodies
waits_after Resets identity None n frame waiting bodies asks none = none
waits_after Resets identity (Some a) n frame waiting bodies asks none = none
waits_after Selects identity address n frame waiting bodies asks none = none
waits_after Requests identity address n frame waiting bodies asks none = none
waits_after (Pending more) identity address n frame waiting bodies asks none = none
waits_after Ended identity address n frame waiting bodies asks none = none

abbrev Heard : Outcome → FrameSeen → List Meter → World → Option FrameSeen
Heard outcome frame meters w = frame_of (heard_in outcome frame meters w.positions)

taken_next : (stage : Stage) (identity : Identity) (meters : List Meter) (regular : AreRegular meters) (outcome : Outcome) (address : Option ℕ) (n i : ℕ) (frame : FrameSeen) (one : Meter) (p : Position) (positions : List Position) (t : Parsed)
    → stage ≡ Requests → asked_at stage identity address n ≡ Some frame
    → slice_get meters i ≡ Some one → one.address ≡ address → slice_get positions i ≡ Some p
    → IsInStep stage n p → IsAlone stage address i positions
    → meaning_at stage identity address n (frame_of (heard_in outcome frame meters positions)) ≡ answered t
    → After meters (Pending (continues t.ending)) address n i (positions_after outcome frame meters positions)
    × IsNextBody (Pending (continues t.ending)) n (Some t.body) one.bodies
taken_next Resets identity meters regular outcome address n i frame one p positions t is asks at whom stands step alone e = absurd cc
taken_next Selects identity meters regular outcome address n i frame one p positions t is asks at whom stands step alone e = absurd cc
taken_next Requests identity meters regular outcome address n i frame one p positions t is asks at whom stands step alone e =
    let same : request_of address n ≡ frame = cc in
    let heard = ap (λ f. meaning_at Requests identity address n (frame_of (heard_in outcome f meters positions))) same ∙ e in
    let next = next_body meters regular outcome identity address n i one p positions t at whom stands step alone heard in
    (subst (λ f. After meters (Pending (continues t.ending)) address n i (positions_after outcome f meters positions)) same next.0, next.1)
taken_next (Pending more) identity meters regular outcome address n i frame one p positions t is asks at whom stands step alone e = absurd cc
taken_next Ended identity meters regular outcome address n i frame one p positions t is asks at whom stands step alone e = absurd cc

module _ (meters : List Meter) (regular : AreRegular meters) (w : World) (r : Running) (outcome : Outcome) (frame : FrameSeen) (a : Agrees meters w r) (asks : asked_by r.session ≡ Some frame) (others : Option Running) where
  abbrev heard_world : World
  heard_world = record w { positions = positions_after outcome frame meters w.positions; running = others }

  heard_agrees : (v : Verdict) → verdict_by r.session (heard_in outcome frame meters w.positions) ≡ v → (r' : Running) → running_after v r ≡ Some r' → Agrees meters heard_world r'
  heard_agrees again e r' is =
      let same : record r { session = heard_by r.session again } ≡ r' = cc in
      let x = stays outcome meters r.session.stage r.session.meter r.session.address r.session.settled r.meter frame a.meter a.position w.positions asks a.stands.0 (sym a.whom.1) a.stands.1 a.step a.alone in
      subst (Agrees meters heard_world) same (record {
        meter = a.meter;
        position = x.position;
        stands = (a.stands.0, x.stands);
        whom = a.whom;
        step = x.step;
        came = a.came;
        follow = a.follow;
        kept = a.kept;
        waits = a.waits;
        alone = x.alone;
      })
  heard_agrees ready e r' is =
      let same : record r { session = heard_by r.session ready } ≡ r' = cc in
      let o = ready_is r.session.tries r.session.settled _ e in
      let x = command_done meters regular outcome r.session.stage r.session.meter r.session.address r.session.settled r.meter frame a.meter a.position w.positions a.whom.0 asks a.stands.0 (sym a.whom.1) a.stands.1 a.step a.alone o in
      let none = waits_none r.session.stage r.session.meter r.session.address r.session.settled frame r.waiting a.meter.bodies asks a.waits in
      subst (Agrees meters heard_world) same (record {
        meter = a.meter;
        position = x.position;
        stands = (a.stands.0, x.stands);
        whom = a.whom;
        step = x.step;
        came = a.came;
        follow = a.follow;
        kept = a.kept;
        waits = waits_after r.session.stage r.session.meter r.session.address r.session.settled frame r.waiting a.meter.bodies asks none;
        alone = x.alone;
      })
  heard_agrees (new part t) e r' is =
      let same : record r { session = heard_by r.session (new part t); waiting = Some t.body } ≡ r' = cc in
      let o = new_is r.session.tries r.session.settled part t _ e in
      let stage = answered_when r.session.stage r.session.meter r.session.address r.session.settled _ t o in
      let x = taken_next r.session.stage r.session.meter meters regular outcome r.session.address r.session.settled r.meter frame a.meter a.position w.positions t stage asks a.stands.0 (sym a.whom.1) a.stands.1 a.step a.alone o in
      subst (Agrees meters heard_world) same (record {
        meter = a.meter;
        position = x.0.position;
        stands = (a.stands.0, x.0.stands);
        whom = a.whom;
        step = x.0.step;
        came = a.came;
        follow = a.follow;
        kept = a.kept;
        waits = x.1;
        alone = x.0.alone;
      })
  heard_agrees (failed why) e r' is = absurd cc

pub length-after : (outcome : Outcome) (frame : FrameSeen) (meters : List Meter) (positions : List Position) → length positions ≡ length meters → length (positions_after outcome frame meters positions) ≡ length meters
length-after RequestLost frame meters positions e = e
length-after ReplyLost frame meters positions e = length-moved frame meters positions e
length-after ReplyUnreadable frame meters positions e = length-moved frame meters positions e
length-after AsSent frame meters positions e = length-moved frame meters positions e

pub exchange_keeps : (meters : List Meter) (regular : AreRegular meters) (w : World) (r : Running) (outcome : Outcome) (frame : FrameSeen)
    → IsRegularWorld meters w → w.running ≡ Some r → asked_by r.session ≡ Some frame → IsRegularWorld meters (exchanged_as meters outcome frame r w)
exchange_keeps meters regular w r outcome frame is runs asks =
    record {
      counted = (length-after outcome frame meters w.positions is.counted.0, is.counted.1);
      whole = is.whole;
      agrees = λ r' runs'. heard_agrees meters regular w r outcome frame (is.agrees r runs) asks
          (running_after (verdict_by r.session (heard_in outcome frame meters w.positions)) r)
          (verdict_by r.session (heard_in outcome frame meters w.positions)) refl r' runs';
    }

-- ---- a start, a stop and the first world

pub new_is_regular : (meters : List Meter) → IsRegularWorld meters (new_world meters)
new_is_regular meters = record {
  counted = (length-map meters _, length-map meters _);
  whole = tt;
  agrees = λ r e. absurd cc;
}

pub stop_keeps : (meters : List Meter) (w : World) → IsRegularWorld meters w → IsRegularWorld meters (record w { running = None })
stop_keeps meters w is = record { counted = is.counted; whole = is.whole; agrees = λ r e. absurd cc }

pub at_place : {X Y : Type 0} (xs : List X) (ys : List Y) (i : ℕ) (x : X) → length ys ≡ length xs → slice_get xs i ≡ Some x → (y : Y) × (slice_get ys i ≡ Some y)
at_place [] ys i x same at = absurd cc
at_place (first ∷ xs) [] i x same at = absurd (omega arith)
at_place (first ∷ xs) (y ∷ ys) zero x same at = (y, refl)
at_place (first ∷ xs) (y ∷ ys) (suc i) x same at = at_place xs ys i x (omega arith) at

pub start_keeps : (meters : List Meter) (w : World) (place : ℕ) (found : Option Meter) (running : Option Running) → slice_get meters place ≡ found → w.running ≡ running
    → IsRegularWorld meters w → IsRegularWorld meters (started_by place found running w)
start_keeps meters w place None running at runs is = is
start_keeps meters w place (Some one) (Some r) at runs is = is
start_keeps meters w place (Some one) None at runs is =
    let there = at_place meters w.positions place one is.counted.0 at in
    let first : Running = record { meter = place; session = begun one.identity one.address; waiting = None } in
    record {
      counted = is.counted;
      whole = is.whole;
      agrees = λ r e.
          let same : first ≡ r = cc in
          subst (Agrees meters (started_by place (Some one) None w)) same (record {
            meter = one;
            position = there.0;
            stands = (at, there.1);
            whom = (refl, refl);
            step = refl;
            came = omega arith;
            follow = tt;
            kept = λ some. absurd (omega arith);
            waits = refl;
            alone = tt;
          });
    }
