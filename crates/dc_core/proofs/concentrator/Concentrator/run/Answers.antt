use Rattle.std.proofs.Common.{refl, arith, length, Result, Ok, ◌<◌, ◌≡◌, ℕ, List, [], ◌∷◌, ◌++◌, map, take, get_or, ap, sym, ◌+◌, subst, ◌∙◌}
use Rattle.std.proofs.lemmas.List.{map-append, take_more}
use Rattle.std.proofs.lemmas.List.Elements.{All-get_or}
use Rattle.std.proofs.Math.Seq.{take-length}
use Rattle.mbdc_io.specs.Failures.{HasRisen}
use Rattle.mbdc_io.specs.declared.stream.IoFault.{IoFault}
use Rattle.mbdc_io.specs.Stream.{Puts}
use Rattle.mbdc_io.specs.Written.{Wrote}
use Rattle.mbdc_io.proofs.Pieces.{puts-both, puts-none}
use Rattle.dc_core.specs.declared.event.Event as declared
use Rattle.dc_core.specs.Core.{opened}
use Rattle.dc_core.specs.Event.{Event}
use Rattle.dc_core.specs.Transcript.{leads}
use Rattle.dc_core.specs.Text.{answer_text}
use Rattle.dc_core.specs.Run.{event_of, IsInTime, Turned, Ran, FailedInLast}
use Rattle.dc_core.proofs.Going.{ran_none, ran_more}
use Rattle.dc_core.proofs.concentrator.Concentrator.run.Goals as goal

-- the events up to one more
next_events : (events : List declared.Event) (i : ℕ) (event : declared.Event) → i < length events → event ≡ get_or events i event → map event_of (take (i + 1) events) ≡ map event_of (take i events) ++ event_of event ∷ []
next_events events i event within is =
    ap (map event_of) (take_more events i event within) ∙ map-append event_of (take i events) (get_or events i event ∷ []) ∙ ap (λ (x : declared.Event). map event_of (take i events) ++ event_of x ∷ []) (sym is)

pub loop-event-init : goal.loop-event-init
loop-event-init g c = record {
  ran = λ origin state before chain at. ran_none g.D.Disk origin c.args.self.now.house.budget state before (Puts (g.W.Sink.written c.args.out.now) (g.W.Sink.written c.args.out.now)) c.args.self.now chain at
      (λ h image left. g.met.D.Disk.only_now c.args.self.now.store.disk image left) (puts-none (g.W.Sink.written c.args.out.now));
  budget = refl;
  well = refl;
}

pub loop-event-preserved : goal.loop-event-preserved
loop-event-preserved g c = record {
  ran = λ origin state before chain at.
      let done : Result (Unit {0}) IoFault = Ok tt in
      let events = c.args.events.now in
      let i = c.loop-event.event-index in
      let event = c.event-item.result in
      let new = c.turn.new.self in
      let ran = c.loop-event.invariant.ran origin state before chain at in
      let core = leads (opened state) (before ++ ran.turns) in
      let piece : List ℕ → Type 0 = Wrote g.W.Sink done c.loop-event.out c.turn.new.out in
      let turned = subst (λ (b : ℕ). Turned g.D.Disk origin b core (event_of event) piece c.loop-event.self new) c.loop-event.invariant.budget (c.in-Ok.ensures.turned origin core ran.at) in
      let more = ran_more g.D.Disk origin c.args.self.now.house.budget state before (map event_of (take i events)) (event_of event)
      (Puts (g.W.Sink.written c.args.out.now) (g.W.Sink.written c.loop-event.out)) piece (Puts (g.W.Sink.written c.args.out.now) (g.W.Sink.written c.turn.new.out)) c.args.self.now c.loop-event.self new ran turned c.in-Ok.ensures.count
      (λ text piece_text front piece. puts-both (g.W.Sink.written c.args.out.now) (g.W.Sink.written c.loop-event.out) (g.W.Sink.written c.turn.new.out) text piece_text front piece.0) in
      let all = subst (λ (es : List Event). Ran g.D.Disk origin c.args.self.now.house.budget state before es (Puts (g.W.Sink.written c.args.out.now) (g.W.Sink.written c.turn.new.out)) c.args.self.now new)
      (sym (next_events events i event c.loop-event-test.true c.event-item.is)) more in
      all;
  budget = c.in-Ok.ensures.budget ∙ c.loop-event.invariant.budget;
  well = c.in-Ok.ensures.well ∙ c.loop-event.invariant.well;
}

pub returns-in-Err-clause-ended : goal.returns-in-Err-clause-ended
unfolding ran_more
returns-in-Err-clause-ended g c origin state before chain at =
    let events = c.args.events.now in
    let i = c.loop-event.event-index in
    let event = c.event-item.result in
    let new = c.turn.new.self in
    let ran = c.loop-event.invariant.ran origin state before chain at in
    let core = leads (opened state) (before ++ ran.turns) in
    let written = g.W.Sink.written in
    let old_out = c.args.out.now in
    let mid_out = c.loop-event.out in
    let new_out = c.turn.new.out in
    let piece : List ℕ → Type 0 = Wrote g.W.Sink c.turn.result mid_out new_out in
    let turned = subst (λ (b : ℕ). Turned g.D.Disk origin b core (event_of event) piece c.loop-event.self new) c.loop-event.invariant.budget (c.turn.ensures.turned origin core ran.at) in
    let RanOf : List Event → Type 0 = λ es. Ran g.D.Disk origin c.args.self.now.house.budget state before es (λ text. Unit {0}) c.args.self.now new in
    let more = ran_more g.D.Disk origin c.args.self.now.house.budget state before (map event_of (take i events)) (event_of event)
    (Puts (written old_out) (written mid_out)) piece (λ text. Unit {0}) c.args.self.now c.loop-event.self new ran turned c.turn.ensures.count
    (λ text piece_text front piece. tt) in
    let Whole : List Event → Type 0 = λ es. (all : RanOf es) × FailedInLast g.W.Sink all.turns old_out new_out in
    let both : Whole (map event_of (take i events) ++ event_of event ∷ []) = (
      more,
      record {
        done = ran.turns;
        last = (event_of event, turned.answer);
        turns_are = refl;
        mid = mid_out;
        put = ran.text;
        none_failed = c.loop-event.invariant.well;
        failed = subst (λ (r : Result (Unit {0}) IoFault). Wrote g.W.Sink r mid_out new_out (answer_text turned.answer)) c.in-Err.is turned.text;
      },
    ) in
    let all = subst Whole (sym (next_events events i event c.loop-event-test.true c.event-item.is)) both in
    (i, c.loop-event-test.true, all.0, all.1)

pub returns-in-Err-clause-fault : goal.returns-in-Err-clause-fault
returns-in-Err-clause-fault g c = subst (λ (n : ℕ). HasRisen n (g.W.Sink.put_failures c.turn.new.out)) c.loop-event.invariant.well c.in-Err.ensures.fault

pub returns-clause-ran : goal.returns-clause-ran
returns-clause-ran g c origin state before chain at =
    let events = c.args.events.now in
    let past = c.loop-event-test.false in
    let within = c.loop-event.auto.event-index-end in
    let i : c.loop-event.event-index ≡ length events = omega (arith, past, within) in
    let e : take c.loop-event.event-index events ≡ events = ap (λ (n : ℕ). take n events) i ∙ take-length events in
    subst (λ (es : List declared.Event). Ran g.D.Disk origin c.args.self.now.house.budget state before (map event_of es)
    (Puts (g.W.Sink.written c.args.out.now) (g.W.Sink.written c.loop-event.out)) c.args.self.now c.loop-event.self) e
    (c.loop-event.invariant.ran origin state before chain at)

pub turn-requires : goal.turn-requires
turn-requires g c =
    subst IsInTime (sym c.event-item.is) (All-get_or IsInTime c.args.events.now c.loop-event.event-index c.event-item.result c.loop-event-test.true c.requires)
