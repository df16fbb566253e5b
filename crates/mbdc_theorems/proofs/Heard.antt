-- What the meter of a session answers to what is asked, and how that is judged.
use Rattle.std.proofs.Common.{◌≡◌, ◌⊎◌, ℕ, ◌+◌, ◌-◌, ◌≤◌, ◌<◌, Bool, true, false, not, ◌&&◌, List, Option, Some, None, Ok, cond, ◌==◌, arith, refl, sym, ◌∙◌, ap, subst, ◌≢◌, inl, inr}
use Rattle.std.specs.Prelude.{slice_get, unwrap_or, if◌then◌else◌}
use Rattle.std.proofs.lemmas.Bool.{eq-eqb, eqb-true, lt-ltb}
use Rattle.dc_linkframe.specs.Control.{variable_data, req_ud2, reset_to, selected, snd_nke}
use Rattle.dc_linkframe.specs.Frame.{FrameSeen, ack, long, short}
use Rattle.dc_linkframe.specs.Reading.{frame_of}
use Rattle.dc_linkframe.proofs.Spellings.{frame_of-spelling}
use Rattle.dc_address.specs.declared.identity.Identity.{Identity}
use Rattle.dc_address.specs.Mask.{mask_of, matches}
use Rattle.dc_address.proofs.Masks.{matches-mask_of}
use Rattle.dc_records.specs.Body.{continues}
use Rattle.dc_records.specs.Telegram.{Parsed, telegram_at}
use Rattle.dc_readout.specs.declared.stage.Stage.{Stage}
use Rattle.dc_readout.specs.declared.stage.Stage.TheVariants.{Resets, Selects, Requests, Pending, Ended}
use Rattle.dc_readout.specs.declared.why.Why.TheVariants.{NoAnswer, Stranger, TooManyParts, WrongFrame}
use Rattle.dc_readout.specs.Answer.{Meaning, acknowledged, answered, missed, broken, max_parts, is_meter, to_command, by_telegram, by_body, to_request}
use Rattle.dc_readout.specs.Summary.{Verdict, again, ready, new, failed, link_address, reset_of, selection_of, request_of, asked_at, asked_by, to_reset, meaning_at, verdict_of_meaning, verdict_by, Summary, request_bit}
use Rattle.dc_readout.specs.declared.world.event.Outcome.{Outcome}
use Rattle.dc_readout.specs.declared.world.event.Outcome.TheVariants.{RequestLost, ReplyLost, ReplyUnreadable, AsSent}
use Rattle.dc_readout.specs.Meter.{Meter, Position, is_own, hears_at, moved_by, answer_to, body_at, rsp_ud, response}
use Rattle.dc_readout.specs.World.{World, Running, heard_in, AreRegular}
use Rattle.dc_readout.specs.Reply.{bytes_of}
use Rattle.dc_readout.specs.InStep.{HasGoneOn, HasNotGoneOn, IsInStep, IsAlone, Agrees}
use Rattle.dc_readout.proofs.Asked.{body_there}
use Rattle.dc_readout.proofs.Exchanges.{alone_at, own_goes_on}
use Rattle.dc_readout.proofs.Moves.{answer_to-request, selected_kept, no_frame_of_nothing, no_frame_of_zero}
use Rattle.dc_readout.proofs.Replies.{answer_to-reset, answer_to-selection, heard_as_sent}
use Rattle.dc_readout.specs.declared.why.Why.{Why}
use Rattle.dc_readout.proofs.Requests.{selection_is_long}
use Rattle.mbdc_theorems.specs.Readout.{losses_by, IsHeard, is_answered, row_after, clear_after, has_answer, is_command}

-- ---- the meter's own telegram

is_itself : (meter : Identity) → is_meter meter meter ≡ true
is_itself meter =
    rw (eq-eqb meter.number meter.number refl, eq-eqb meter.maker meter.maker refl, eq-eqb meter.version meter.version refl, eq-eqb meter.kind meter.kind refl) refl

past_both : (own beyond : Bool) (t : Parsed) → own ≡ true → beyond ≡ false → cond (not own) (broken Stranger) (cond beyond (broken TooManyParts) (answered t)) ≡ answered t
past_both false beyond t is fits = absurd cc
past_both true true t is fits = absurd cc
past_both true false t is fits = refl

not_beyond : (part : ℕ) (more : Bool) → (part ≡ max_parts → more ≡ false) → (part == max_parts && more) ≡ false
not_beyond part more last = go (part == max_parts) refl
  where
    go : (b : Bool) → (part == max_parts) ≡ b → (b && more) ≡ false
    go true e = last (eqb-true part max_parts e)
    go false e = refl

own_telegram : (meter : Identity) (part : ℕ) (t : Parsed) → t.header.identity ≡ meter → (part ≡ max_parts → continues t.ending ≡ false) → by_telegram meter part t ≡ answered t
own_telegram meter part t own last =
    past_both (is_meter meter t.header.identity) (part == max_parts && continues t.ending) t
    (ap (is_meter meter) own ∙ is_itself meter) (not_beyond part (continues t.ending) last)

own_body : (meter : Identity) (part : ℕ) (body : List ℕ) (t : Parsed) → telegram_at body ≡ Ok t → t.header.identity ≡ meter → (part ≡ max_parts → continues t.ending ≡ false)
    → by_body meter part (telegram_at body) ≡ answered t
own_body meter part body t read own last = ap (by_body meter part) read ∙ own_telegram meter part t own last

own_reply : (meter : Identity) (address : Option ℕ) (part : ℕ) (body : List ℕ) (t : Parsed) → telegram_at body ≡ Ok t → t.header.identity ≡ meter → (part ≡ max_parts → continues t.ending ≡ false)
    → to_request meter address part (Some (long rsp_ud (unwrap_or address 0) variable_data body)) ≡ answered t
own_reply meter None part body t read own last = own_body meter part body t read own last
own_reply meter (Some a) part body t read own last = rw (eq-eqb a a refl) (own_body meter part body t read own last)

own_hears : (address : Option ℕ) (one : Meter) (p : Position) → one.address ≡ address → (address ≡ None → p.selected ≡ true) → hears_at one.address (link_address address) p ≡ true
own_hears None one p whom alone = rw (whom, alone refl) refl
own_hears (Some a) one p whom alone = rw (whom, eq-eqb a a refl) refl

-- ---- what is asked, and how the answer to it is judged

pub record Judged (meters : List Meter) (w : World) (r : Running) (outcome : Outcome) (v : Verdict) : Type 0 where
  pub frame : FrameSeen
  pub asks : asked_by r.session ≡ Some frame
  pub verdict : verdict_by r.session (heard_in outcome frame meters w.positions) ≡ v

-- what is lost is no frame
pub nothing_read : (outcome : Outcome) (frame : FrameSeen) (meters : List Meter) (positions : List Position) → 1 ≤ losses_by outcome → frame_of (heard_in outcome frame meters positions) ≡ None
nothing_read RequestLost frame meters positions lost = no_frame_of_nothing
nothing_read ReplyLost frame meters positions lost = no_frame_of_nothing
nothing_read ReplyUnreadable frame meters positions lost = no_frame_of_zero
nothing_read AsSent frame meters positions lost = absurd (omega (arith, lost))

module _ (meters : List Meter) (w : World) (r : Running) where
  abbrev read_in : Outcome → FrameSeen → Option FrameSeen
  read_in outcome frame = frame_of (heard_in outcome frame meters w.positions)

  abbrev asked_in : Stage → Option FrameSeen
  asked_in stage = asked_at stage r.session.meter r.session.address r.session.settled

  judged_by : (outcome : Outcome) (stage : Stage) → r.session.stage ≡ stage → (frame : FrameSeen) → asked_in stage ≡ Some frame → (o : Meaning)
      → meaning_at stage r.session.meter r.session.address r.session.settled (read_in outcome frame) ≡ o → Judged meters w r outcome (verdict_of_meaning r.session.tries r.session.settled o)
  judged_by outcome stage is frame asks o means = record {
    frame = frame;
    asks = ap asked_in is ∙ asks;
    verdict =
        ap (λ (s : Stage). verdict_of_meaning r.session.tries r.session.settled (meaning_at s r.session.meter r.session.address r.session.settled (read_in outcome frame))) is
        ∙ ap (verdict_of_meaning r.session.tries r.session.settled) means;
  }

  -- whatever comes of a reset of all selected meters, it is done
  pub resets_all : (outcome : Outcome) → r.session.stage ≡ Resets → r.session.address ≡ None → Judged meters w r outcome ready
  resets_all outcome is none =
      judged_by outcome Resets is (reset_of r.session.address) refl acknowledged (ap (λ (o : Option ℕ). to_reset o (read_in outcome (reset_of r.session.address))) none)

  -- what is lost is asked for once more
  repeated : (outcome : Outcome) (stage : Stage) → r.session.stage ≡ stage → (frame : FrameSeen) → asked_in stage ≡ Some frame
      → meaning_at stage r.session.meter r.session.address r.session.settled (read_in outcome frame) ≡ missed NoAnswer → r.session.tries < 2 → Judged meters w r outcome again
  repeated outcome stage is frame asks means few =
      subst (Judged meters w r outcome) (ap (λ (b : Bool). if b then again else failed NoAnswer) (lt-ltb r.session.tries 2 few)) (judged_by outcome stage is frame asks (missed NoAnswer) means)

  pub resets_again : (outcome : Outcome) (a : ℕ) → 1 ≤ losses_by outcome → r.session.stage ≡ Resets → r.session.address ≡ Some a → r.session.tries < 2 → Judged meters w r outcome again
  resets_again outcome a lost is some few =
      repeated outcome Resets is (reset_of r.session.address) refl
      (ap (λ (o : Option ℕ). to_reset o (read_in outcome (reset_of r.session.address))) some ∙ ap to_command (nothing_read outcome (reset_of r.session.address) meters w.positions lost)) few

  pub selects_again : (outcome : Outcome) → 1 ≤ losses_by outcome → r.session.stage ≡ Selects → r.session.tries < 2 → Judged meters w r outcome again
  selects_again outcome lost is few =
      repeated outcome Selects is (selection_of r.session.meter) refl (ap to_command (nothing_read outcome (selection_of r.session.meter) meters w.positions lost)) few

  pub requests_again : (outcome : Outcome) → 1 ≤ losses_by outcome → r.session.stage ≡ Requests → r.session.tries < 2 → Judged meters w r outcome again
  requests_again outcome lost is few =
      repeated outcome Requests is (request_of r.session.address r.session.settled) refl
      (ap (to_request r.session.meter r.session.address (r.session.settled + 1)) (nothing_read outcome (request_of r.session.address r.session.settled) meters w.positions lost)) few

module _ (meters : List Meter) (regular : AreRegular meters) (w : World) (r : Running) (meter : Meter) (a : Agrees meters w r) (at : slice_get meters r.meter ≡ Some meter) where
  same : a.meter ≡ meter
  same = let b = a.stands.0 in cc

  pub who : r.session.meter ≡ meter.identity
  who = a.whom.0 ∙ ap (λ (m : Meter). m.identity) same

  pub whom : r.session.address ≡ meter.address
  whom = a.whom.1 ∙ ap (λ (m : Meter). m.address) same

  abbrev moved : FrameSeen → Position
  moved frame = moved_by frame meter a.position

  heard_frame : (frame reply : FrameSeen) → asked_by r.session ≡ Some frame → answer_to frame meter (moved frame) ≡ Some reply → read_in meters w r AsSent frame ≡ Some reply
  heard_frame frame reply asks answers =
      ap frame_of (heard_as_sent meters regular w r frame meter a.position a asks at a.stands.1 ∙ ap bytes_of answers) ∙ frame_of-spelling reply

  -- a reset is acknowledged, and so is one that nobody acknowledges
  pub resets : r.session.stage ≡ Resets → Judged meters w r AsSent ready
  resets is = by r.session.address refl
    where
      by : (address : Option ℕ) → r.session.address ≡ address → Judged meters w r AsSent ready
      by None none = resets_all meters w r AsSent is none
      by (Some x) some =
          let own : is_own meter.address (link_address r.session.address) ≡ true =
          ap (λ (o : Option ℕ). is_own o (link_address r.session.address)) (sym whom ∙ some) ∙ ap (λ (o : Option ℕ). is_own (Some x) (link_address o)) some ∙ eq-eqb x x refl in
          let answers : answer_to (reset_of r.session.address) meter (moved (reset_of r.session.address)) ≡ Some ack =
          answer_to-reset (link_address r.session.address) meter (moved (reset_of r.session.address)) ∙ ap (λ (b : Bool). cond b (Some ack) None) own in
          judged_by meters w r AsSent Resets is (reset_of r.session.address) refl acknowledged
          (ap (λ (o : Option ℕ). to_reset o (read_in meters w r AsSent (reset_of r.session.address))) some ∙ ap to_command (heard_frame (reset_of r.session.address) ack (ap (asked_in meters w r) is) answers))

  -- a selection is acknowledged
  pub selects : r.session.stage ≡ Selects → Judged meters w r AsSent ready
  selects is =
      let frame : FrameSeen = selection_of r.session.meter in
      let matched : matches (mask_of r.session.meter) meter.identity ≡ true = ap (λ (i : Identity). matches (mask_of i) meter.identity) who ∙ matches-mask_of meter.identity in
      let answers : answer_to frame meter (moved frame) ≡ Some ack = answer_to-selection r.session.meter meter (moved frame) ∙ ap (λ (b : Bool). cond b (Some ack) None) matched in
      judged_by meters w r AsSent Selects is frame refl acknowledged (ap to_command (heard_frame frame ack (ap (asked_in meters w r) is) answers))

  -- a request is answered by the next telegram
  pub requests : r.session.stage ≡ Requests → (body : List ℕ) (t : Parsed) → slice_get meter.bodies r.session.settled ≡ Some body → telegram_at body ≡ Ok t → t.header.identity ≡ meter.identity
      → (r.session.settled + 1 ≡ max_parts → continues t.ending ≡ false) → Judged meters w r AsSent (new (r.session.settled + 1) t)
  requests is body t next read own last =
      let n = r.session.settled in
      let address = link_address r.session.address in
      let frame : FrameSeen = request_of r.session.address n in
      let step : HasNotGoneOn n a.position ⊎ HasGoneOn n a.position = subst (λ (s : Stage). IsInStep s n a.position) is a.step in
      let alone : IsAlone Requests r.session.address r.meter w.positions = subst (λ (s : Stage). IsAlone s r.session.address r.meter w.positions) is a.alone in
      let chosen : r.session.address ≡ None → a.position.selected ≡ true =
      λ none. alone_at r.session.address r.meter w.positions alone r.meter a.position a.stands.1 none ∙ eq-eqb r.meter r.meter refl in
      let gone : HasGoneOn n (moved frame) = own_goes_on r.session.address n meter a.position (sym whom) chosen step in
      let still : r.session.address ≡ None → (moved frame).selected ≡ true = λ none. selected_kept n address meter a.position ∙ chosen none in
      let hears : hears_at meter.address address (moved frame) ≡ true = own_hears r.session.address meter (moved frame) (sym whom) still in
      let place = gone.0 in
      let back : (moved frame).place - 1 ≡ n = omega (arith, place) in
      let there : body_at (moved frame).place meter.bodies ≡ Some body =
      body_there (moved frame).place meter.bodies body (λ none. omega (arith, none, place)) (ap (slice_get meter.bodies) back ∙ next) in
      let reply : FrameSeen = long rsp_ud (unwrap_or meter.address 0) variable_data body in
      let answers : answer_to frame meter (moved frame) ≡ Some reply =
      answer_to-request n address meter (moved frame) ∙ ap (λ (b : Bool). cond b (response meter (body_at (moved frame).place meter.bodies)) None) hears ∙ ap (response meter) there in
      let means : to_request r.session.meter r.session.address (n + 1) (Some reply) ≡ answered t =
      ap (λ (o : Option ℕ). to_request r.session.meter r.session.address (n + 1) (Some (long rsp_ud (unwrap_or o 0) variable_data body))) (sym whom)
      ∙ own_reply r.session.meter r.session.address (n + 1) body t read (own ∙ sym who) last in
      judged_by meters w r AsSent Requests is frame refl (answered t)
      (ap (to_request r.session.meter r.session.address (n + 1)) (heard_frame frame reply (ap (asked_in meters w r) is) answers) ∙ means)

-- A session judges other bytes that are no whole answer as it judges a lost one.

-- what is no whole answer to a command is no acknowledgement
command_missed : (frame : FrameSeen) (found : Option FrameSeen) → is_command (Some frame) ≡ true → clear_after frame found true ≡ false → (why : Why) × (to_command found ≡ missed why)
command_missed frame None is e = (NoAnswer, refl)
command_missed frame (Some ack) is e = absurd (let bad : true ≡ false = sym (ap (λ (b : Bool). cond (not b) false true) is) ∙ e in cc)
command_missed frame (Some (short control address)) is e = (WrongFrame, refl)
command_missed frame (Some (long control address ci body)) is e = (WrongFrame, refl)

-- nor is it a long frame to another request
request_missed : (frame : FrameSeen) (meter : Identity) (address : Option ℕ) (part : ℕ) (found : Option FrameSeen) → is_command (Some frame) ≡ false → clear_after frame found true ≡ false → (why : Why) × (to_request meter address part found ≡ missed why)
request_missed frame meter address part None is e = (NoAnswer, refl)
request_missed frame meter address part (Some ack) is e = (WrongFrame, refl)
request_missed frame meter address part (Some (short control sender)) is e = (WrongFrame, refl)
request_missed frame meter address part (Some (long control sender ci body)) is e = absurd (let bad : true ≡ false = sym (ap (λ (b : Bool). cond b false true) is) ∙ e in cc)

no_command : (bit : Bool) → (req_ud2 bit == snd_nke) ≡ false
no_command true = refl
no_command false = refl

not_selected : (a : ℕ) → a ≢ selected → not (a == selected) ≡ false → ⊥
not_selected a apart e = go (a == selected) refl e
  where
    go : (b : Bool) → (a == selected) ≡ b → not b ≡ false → ⊥
    go true is f = apart (eqb-true a selected is)
    go false is f = cc

module _ (s : Summary) (frame : FrameSeen) (asks : asked_by s ≡ Some frame) where
  abbrev asks_at : Stage → Option ℕ → Option FrameSeen
  asks_at stage address = asked_at stage s.meter address s.settled

  abbrev means : Stage → Option ℕ → Option FrameSeen → Meaning
  means stage address found = meaning_at stage s.meter address s.settled found

  missed_by : has_answer frame ≡ true → (stage : Stage) (address : Option ℕ) → asks_at stage address ≡ Some frame → (found : Option FrameSeen) → clear_after frame found true ≡ false → (why : Why) × (means stage address found ≡ missed why)
  missed_by has Resets None asks found e = absurd (let same : reset_to selected ≡ frame = cc in let bad : false ≡ true = ap has_answer same ∙ has in cc)
  missed_by has Resets (Some a) asks found e = let same : reset_to a ≡ frame = cc in command_missed frame found (ap (λ (f : FrameSeen). is_command (Some f)) (sym same)) e
  missed_by has Selects address asks found e =
      let same : selection_of s.meter ≡ frame = cc in
      command_missed frame found (ap (λ (f : FrameSeen). is_command (Some f)) (sym same ∙ selection_is_long s.meter)) e
  missed_by has Requests address asks found e =
      let same : request_of address s.settled ≡ frame = cc in
      request_missed frame s.meter address (s.settled + 1) found (ap (λ (f : FrameSeen). is_command (Some f)) (sym same) ∙ no_command (request_bit s.settled)) e
  missed_by has (Pending more) address asks found e = absurd cc
  missed_by has Ended address asks found e = absurd cc

  again_by : has_answer frame ≡ true → s.tries < 2 → (bytes : List ℕ) → clear_after frame (frame_of bytes) true ≡ false → verdict_by s bytes ≡ again
  again_by has few bytes e =
      let why = missed_by has s.stage s.address asks (frame_of bytes) e in
      ap (verdict_of_meaning s.tries s.settled) why.1 ∙ ap (λ (b : Bool). if b then again else failed why.0) (lt-ltb s.tries 2 few)

  -- a request without an answer is the reset of all selected meters
  ready_by : ((a : ℕ) → s.address ≡ Some a → a ≢ selected) → has_answer frame ≡ false → (bytes : List ℕ) → verdict_by s bytes ≡ ready
  ready_by apart none bytes = ap (verdict_of_meaning s.tries s.settled) (go s.stage s.address refl asks)
    where
      go : (stage : Stage) (address : Option ℕ) → s.address ≡ address → asks_at stage address ≡ Some frame → means stage address (frame_of bytes) ≡ acknowledged
      go Resets None is asks = refl
      go Resets (Some a) is asks = absurd (let same : reset_to a ≡ frame = cc in not_selected a (apart a is) (ap has_answer same ∙ none))
      go Selects address is asks =
          absurd (let same : selection_of s.meter ≡ frame = cc in
          let no : true ≡ false = ap has_answer (sym (selection_is_long s.meter) ∙ same) ∙ none in cc)
      go Requests address is asks =
          absurd (let same : request_of address s.settled ≡ frame = cc in
          let no : not ((req_ud2 (request_bit s.settled) == snd_nke) && (link_address address == selected)) ≡ false = ap has_answer same ∙ none in
          let yes : true ≡ not ((req_ud2 (request_bit s.settled) == snd_nke) && (link_address address == selected)) = sym (ap (λ (b : Bool). not (b && (link_address address == selected))) (no_command (request_bit s.settled))) in
          let bad : true ≡ false = yes ∙ no in
          cc)
      go (Pending more) address is asks = absurd cc
      go Ended address is asks = absurd cc

  -- where anything is lost
  lost_by : ((a : ℕ) → s.address ≡ Some a → a ≢ selected) → (outcome : Outcome) (meters : List Meter) (positions : List Position) (row : ℕ) (given : List ℕ) → s.tries ≤ row → row_after row outcome < 3 → row_after row outcome ≡ row + 1 → 1 ≤ losses_by outcome → is_answered frame given ≡ false
      → verdict_by s given ≡ verdict_by s (heard_in outcome frame meters positions)
  lost_by apart outcome meters positions row given tried few one lost e = go (has_answer frame) refl
    where
      go : (has : Bool) → has_answer frame ≡ has → verdict_by s given ≡ verdict_by s (heard_in outcome frame meters positions)
      go true has =
          let fewer : s.tries < 2 = omega (arith, tried, few, one) in
          let none : frame_of (heard_in outcome frame meters positions) ≡ None = nothing_read outcome frame meters positions lost in
          let no : clear_after frame (frame_of given) true ≡ false = sym (ap (λ (b : Bool). cond b (clear_after frame (frame_of given) true) false) has) ∙ e in
          again_by has fewer given no
          ∙ sym (again_by has fewer (heard_in outcome frame meters positions) (ap (λ (o : Option FrameSeen). clear_after frame o true) none ∙ ap (λ (b : Bool). cond b false true) has))
      go false none = ready_by apart none given ∙ sym (ready_by apart none (heard_in outcome frame meters positions))

pub same_verdict : (s : Summary) (outcome : Outcome) (frame : FrameSeen) (meters : List Meter) (positions : List Position) (row : ℕ) (given : List ℕ) → asked_by s ≡ Some frame → ((a : ℕ) → s.address ≡ Some a → a ≢ selected) → s.tries ≤ row → row_after row outcome < 3
    → IsHeard outcome frame meters positions given → verdict_by s given ≡ verdict_by s (heard_in outcome frame meters positions)
same_verdict s outcome frame meters positions row given asks apart tried few (inl is) = ap (verdict_by s) is
same_verdict s RequestLost frame meters positions row given asks apart tried few (inr e) = lost_by s frame asks apart RequestLost meters positions row given tried few refl (omega arith) e
same_verdict s ReplyLost frame meters positions row given asks apart tried few (inr e) = lost_by s frame asks apart ReplyLost meters positions row given tried few refl (omega arith) e
same_verdict s ReplyUnreadable frame meters positions row given asks apart tried few (inr e) = lost_by s frame asks apart ReplyUnreadable meters positions row given tried few refl (omega arith) e
same_verdict s AsSent frame meters positions row given asks apart tried few (inr none) = ready_by s frame asks apart none given ∙ sym (ready_by s frame asks apart none (heard_in AsSent frame meters positions))
