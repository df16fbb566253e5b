-- A run of a line in time: the acknowledgement of the reset is overdue, so that two come, the telegram breaks off and
-- comes late, and its repeat has other values.
use Rattle.std.proofs.Common.{◌≡◌, ℕ, true, false, List, [], ◌∷◌, drop, Option, Some, None, arith, refl, inr}
use Rattle.std.specs.List.{All}
use Rattle.std.proofs.lemmas.List.Elements.{All-cons, All-nil}
use Rattle.dc_linkframe.specs.Control.{request_to, reset_to}
use Rattle.dc_linkframe.specs.Frame.{FrameSeen, ack, spelling}
use Rattle.dc_linkframe.specs.Reading.{frame_of}
use Rattle.mbdc_raw.specs.Heard.{Answers, Drains, HasByte, at_silence, has_gap, is_late, is_whole, not_yet}
use Rattle.mbdc_raw.specs.Line.{GivesOne, LineSends, a_copy, gives_now, gives_one, goes_out, hold, judged, no_copy, one_answer, out_of}
use Rattle.mbdc_raw.specs.Wire.{gap, nothing, overdue, piece, silence}
use Rattle.mbdc_raw.specs.Turn.{may_go}
use Rattle.mbdc_raw.specs.declared.line.Gone.TheVariants.{Out}
use Rattle.mbdc_raw.specs.declared.line.Line.{Line}
use Rattle.mbdc_raw.specs.declared.state.Kind.TheVariants.{One}
use Rattle.mbdc_raw.specs.declared.state.State.TheVariants.{Quiet, Answered, Overdue, Busy}
use Rattle.mbdc_raw.specs.declared.wire.Wire.{Ghosts as WireGhosts}
use Rattle.mbdc_theorems.specs.Asked.{Asks, OnWay, Passes, asks, connects, no_frame, oldest, on_way, puts_one}
use Rattle.mbdc_theorems.specs.InTime.{IsMet, any_wire, telegram_with}

abbrev On : Type 0
On = OnWay (Unit {0})

abbrev Lined : Type 0
Lined = Line On

abbrev on : List (List ℕ) → On
on way = record { wire = tt; way = way }

abbrev g : Option (List ℕ) → WireGhosts On
g reply = on_way any_wire reply

-- ---- frames

abbrev reset : FrameSeen
reset = reset_to 1

abbrev request : FrameSeen
request = request_to true 1

abbrev acked : List ℕ
acked = spelling ack

abbrev sent : ℕ → List ℕ
sent access = telegram_with access

-- the first byte of a telegram
abbrev broken : List ℕ
broken = 0x68 ∷ []

none_is_none : frame_of [] ≡ None
unfolding frame_of
none_is_none = refl

broken_is_none : frame_of broken ≡ None
unfolding frame_of
broken_is_none = refl

-- ---- the line

abbrev line_0 : Lined
line_0 = record { wire = on []; lost = false; state = Busy; kind = One; hearing = record { request = []; bytes = [] }; gathered = []; held = None; last = None; copied = false; late = 0; repeats = 0 }

abbrev out_0 : Lined
out_0 = out_of (spelling reset) false (record (hold (spelling reset) false line_0) { wire = on []; state = Quiet; late = 0 }) (on (acked ∷ []))

abbrev early : Lined
early = record { wire = on (acked ∷ []); lost = false; state = Overdue; kind = One; hearing = record { request = spelling reset; bytes = [] }; gathered = []; held = None; last = None; copied = false; late = 0; repeats = 0 }

abbrev out_1 : Lined
out_1 = out_of (spelling reset) false (record (hold (spelling reset) false early) { wire = on (acked ∷ []); state = Overdue; late = 0 }) (on (acked ∷ acked ∷ []))

abbrev line_1 : Lined
line_1 = record { wire = on (acked ∷ []); lost = false; state = Answered; kind = One; hearing = record { request = spelling reset; bytes = [] }; gathered = []; held = None; last = Some acked; copied = false; late = 0; repeats = 1 }

abbrev out_2 : Lined
out_2 = out_of (spelling request) false (record (hold (spelling request) false line_1) { wire = on (acked ∷ []); state = Answered; late = 0 }) (on (acked ∷ sent 1 ∷ []))

abbrev past_copy : Lined
past_copy = record out_2 { wire = on (sent 1 ∷ []); hearing = record { request = spelling request; bytes = [] }; copied = true }

abbrev line_2 : Lined
line_2 = record { wire = on (sent 1 ∷ []); lost = false; state = Busy; kind = One; hearing = record { request = spelling request; bytes = [] }; gathered = []; held = None; last = Some acked; copied = true; late = 0; repeats = 1 }

abbrev out_3 : Lined
out_3 = out_of (spelling request) false (record (hold (spelling request) false line_2) { wire = on []; state = Quiet; late = 0 }) (on (sent 2 ∷ []))

abbrev line_3 : Lined
line_3 = record { wire = on []; lost = false; state = Answered; kind = One; hearing = record { request = spelling request; bytes = [] }; gathered = []; held = None; last = Some (sent 2); copied = false; late = 0; repeats = 0 }

kind_0 : out_0.kind ≡ One
unfolding frame_of
kind_0 = refl

kind_1 : out_1.kind ≡ One
unfolding frame_of
kind_1 = refl

kind_2 : out_2.kind ≡ One
unfolding frame_of
kind_2 = refl

kind_3 : out_3.kind ≡ One
unfolding frame_of
kind_3 = refl

judged_0 : early ≡ judged true [] (record out_0 { wire = early.wire; hearing = early.hearing })
unfolding frame_of
judged_0 = refl

judged_1 : line_1 ≡ judged false acked (record out_1 { wire = line_1.wire; hearing = line_1.hearing })
unfolding frame_of
judged_1 = refl

judged_2 : line_2 ≡ judged false broken (record past_copy { wire = line_2.wire; hearing = line_2.hearing })
unfolding frame_of
judged_2 = refl

judged_3 : line_3 ≡ judged false (sent 2) (record out_3 { wire = line_3.wire; hearing = line_3.hearing })
unfolding frame_of
judged_3 = refl

-- the reset may be repeated, and after it a telegram requested
may_1 : may_go Overdue 0 (spelling reset) (spelling reset) false ≡ true
unfolding frame_of
may_1 = refl

may_2 : may_go Answered 1 (spelling reset) (spelling request) false ≡ true
unfolding frame_of
may_2 = refl

-- ---- what the wire gives

came : (bytes : List ℕ) (gone : ℕ) (old : List (List ℕ)) → Passes (piece bytes) old (drop gone old)
came bytes gone old = record { gone = gone; in_order = refl; patience = λ e. absurd cc }

stays : (old : List (List ℕ)) → Passes nothing old old
stays old = record { gone = 0; in_order = refl; patience = λ e. absurd cc }

lasts : (old : List (List ℕ)) → Passes overdue old old
lasts old = record { gone = 0; in_order = refl; patience = λ e. absurd cc }

pauses : (old : List (List ℕ)) → Passes gap old old
pauses old = record { gone = 0; in_order = refl; patience = λ e. absurd cc }

falls_silent : Passes silence [] []
falls_silent = record { gone = 0; in_order = refl; patience = λ e. refl }

one_burst : (byte : ℕ) (bytes : List ℕ) → All HasByte ((byte ∷ bytes) ∷ [])
one_burst byte bytes = All-cons HasByte (byte ∷ bytes) [] (omega arith) (All-nil HasByte)

module _ (reply : Option (List ℕ)) where
  drains_0 : Drains (g reply).hears (on []) Busy 0 false (on []) Quiet 0
  drains_0 = record { bursts = []; each = All-nil HasByte; end = silence ∷ []; gave = (on [], (tt, falls_silent), refl); ends = at_silence; moved = refl; counted = refl }

  drains_1 : Drains (g reply).hears (on (acked ∷ [])) Overdue 0 false (on (acked ∷ [])) Overdue 0
  drains_1 = record { bursts = []; each = All-nil HasByte; end = nothing ∷ []; gave = (on (acked ∷ []), (tt, stays (acked ∷ [])), refl); ends = not_yet; moved = refl; counted = refl }

  drains_2 : Drains (g reply).hears (on (acked ∷ [])) Answered 0 false (on (acked ∷ [])) Answered 0
  drains_2 = record { bursts = []; each = All-nil HasByte; end = nothing ∷ []; gave = (on (acked ∷ []), (tt, stays (acked ∷ [])), refl); ends = not_yet; moved = refl; counted = refl }

  drains_3 : Drains (g reply).hears (on (sent 1 ∷ [])) Busy 0 false (on []) Quiet 0
  drains_3 = record {
    bursts = (0 ∷ []) ∷ [];
    each = one_burst 0 [];
    end = silence ∷ [];
    gave = (on [], (tt, came (0 ∷ []) 1 (sent 1 ∷ [])), (on [], (tt, falls_silent), refl));
    ends = at_silence;
    moved = refl;
    counted = refl;
  }

-- ---- the exchanges

module _ (reply : Option (List ℕ)) (is : reply ≡ Some acked) where
  sends_0 : LineSends (g reply) false line_0 (spelling reset) out_0
  sends_0 = record {
    loss = record { untouched = λ e. absurd cc; failed = λ a b. absurd cc };
    sent = λ runs. (false, line_0.wire, (tt, refl), Out, record { between = on []; state = Quiet; late = 0; drains = drains_0 reply; goes = goes_out (on (acked ∷ [])) refl (tt, puts_one acked is refl) refl });
  }

  one_0 : GivesOne (g reply) out_0 [] early
  one_0 = record {
    between = out_0;
    skips = no_copy refl;
    heard = record { bursts = []; each = All-nil HasByte; end = overdue ∷ []; gave = (on (acked ∷ []), (tt, lasts (acked ∷ [])), refl); heard = refl; exact = refl; ends = is_late refl; kept = refl };
    plain = refl;
    kept = judged_0;
  }

  asks_0 : Asks any_wire (spelling reset) reply line_0 [] early
  unfolding one_0
  asks_0 = record {
    out = out_0;
    sent = sends_0;
    given = gives_now (record { loss = record { untouched = λ e. absurd cc; failed = λ a b. absurd cc }; silence = λ e. absurd cc; given = λ runs. gives_one refl kind_0 (one_answer one_0) });
    no_stray = λ runs. (tt, no_frame none_is_none);
  }

  sends_1 : LineSends (g reply) false early (spelling reset) out_1
  sends_1 = record {
    loss = record { untouched = λ e. absurd cc; failed = λ a b. absurd cc };
    sent = λ runs. (false, early.wire, (tt, refl), Out, record { between = on (acked ∷ []); state = Overdue; late = 0; drains = drains_1 reply; goes = goes_out (on (acked ∷ acked ∷ [])) may_1 (tt, puts_one acked is refl) refl });
  }

  one_1 : GivesOne (g reply) out_1 acked line_1
  one_1 = record {
    between = out_1;
    skips = no_copy refl;
    heard = record { bursts = acked ∷ []; each = one_burst 0xE5 []; end = []; gave = (on (acked ∷ []), (tt, came acked 1 (acked ∷ acked ∷ [])), refl); heard = refl; exact = refl; ends = is_whole refl; kept = refl };
    plain = refl;
    kept = judged_1;
  }

  asks_1 : Asks any_wire (spelling reset) reply early acked line_1
  unfolding one_1
  asks_1 = record {
    out = out_1;
    sent = sends_1;
    given = gives_now (record { loss = record { untouched = λ e. absurd cc; failed = λ a b. absurd cc }; silence = λ e. absurd cc; given = λ runs. gives_one refl kind_1 (one_answer one_1) });
    no_stray = λ runs. (tt, oldest 0 refl);
  }

module _ (reply : Option (List ℕ)) (is : reply ≡ Some (sent 1)) where
  sends_2 : LineSends (g reply) false line_1 (spelling request) out_2
  sends_2 = record {
    loss = record { untouched = λ e. absurd cc; failed = λ a b. absurd cc };
    sent = λ runs. (false, line_1.wire, (tt, refl), Out, record { between = on (acked ∷ []); state = Answered; late = 0; drains = drains_2 reply; goes = goes_out (on (acked ∷ sent 1 ∷ [])) may_2 (tt, puts_one (sent 1) is refl) refl });
  }

  copy_2 : Answers (g reply).hears out_2.wire out_2.hearing acked past_copy.wire past_copy.hearing
  copy_2 = record { bursts = acked ∷ []; each = one_burst 0xE5 []; end = []; gave = (on (sent 1 ∷ []), (tt, came acked 1 (acked ∷ sent 1 ∷ [])), refl); heard = refl; exact = refl; ends = is_whole refl; kept = refl }

  one_2 : GivesOne (g reply) out_2 broken line_2
  one_2 = record {
    between = past_copy;
    skips = a_copy acked copy_2 refl refl;
    heard = record { bursts = broken ∷ []; each = one_burst 0x68 []; end = gap ∷ []; gave = (on (sent 1 ∷ []), (tt, came broken 0 (sent 1 ∷ [])), (on (sent 1 ∷ []), (tt, pauses (sent 1 ∷ [])), refl)); heard = refl; exact = refl; ends = has_gap refl (omega arith); kept = refl };
    plain = refl;
    kept = judged_2;
  }

  asks_2 : Asks any_wire (spelling request) reply line_1 broken line_2
  unfolding one_2
  asks_2 = record {
    out = out_2;
    sent = sends_2;
    given = gives_now (record { loss = record { untouched = λ e. absurd cc; failed = λ a b. absurd cc }; silence = λ e. absurd cc; given = λ runs. gives_one refl kind_2 (one_answer one_2) });
    no_stray = λ runs. (oldest 0 refl, no_frame broken_is_none);
  }

module _ (reply : Option (List ℕ)) (is : reply ≡ Some (sent 2)) where
  sends_3 : LineSends (g reply) false line_2 (spelling request) out_3
  sends_3 = record {
    loss = record { untouched = λ e. absurd cc; failed = λ a b. absurd cc };
    sent = λ runs. (false, line_2.wire, (tt, refl), Out, record { between = on []; state = Quiet; late = 0; drains = drains_3 reply; goes = goes_out (on (sent 2 ∷ [])) refl (tt, puts_one (sent 2) is refl) refl });
  }

  one_3 : GivesOne (g reply) out_3 (sent 2) line_3
  unfolding frame_of
  one_3 = record {
    between = out_3;
    skips = no_copy refl;
    heard = record { bursts = sent 2 ∷ []; each = one_burst 0x68 _; end = []; gave = (on [], (tt, came (sent 2) 1 (sent 2 ∷ [])), refl); heard = refl; exact = refl; ends = is_whole refl; kept = refl };
    plain = refl;
    kept = judged_3;
  }

  asks_3 : Asks any_wire (spelling request) reply line_2 (sent 2) line_3
  unfolding one_3
  asks_3 = record {
    out = out_3;
    sent = sends_3;
    given = gives_now (record { loss = record { untouched = λ e. absurd cc; failed = λ a b. absurd cc }; silence = λ e. absurd cc; given = λ runs. gives_one refl kind_3 (one_answer one_3) });
    no_stray = λ runs. (tt, oldest 0 refl);
  }

-- ---- the run

pub is_met : IsMet
is_met = record {
  first = line_0;
  early = early;
  second = line_1;
  third = line_2;
  last = line_3;
  broken = broken;
  connects = record { busy = refl; last = refl };
  waits = asks_0 (Some acked) refl;
  overdue = refl;
  resets = asks_1 (Some acked) refl;
  twice = refl;
  requests = asks_2 (Some (sent 1)) refl;
  late = refl;
  repeats = asks_3 (Some (sent 2)) refl;
  run =
      asks (asks (asks (asks (connects (record { busy = refl; last = refl })) (λ e. absurd cc) (asks_0 (Some acked) refl)) (λ e same. inr refl) (asks_1 (Some acked) refl)) (λ e. absurd cc) (asks_2 (Some (sent 1)) refl))
      (λ e. absurd cc) (asks_3 (Some (sent 2)) refl);
}
