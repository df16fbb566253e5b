-- What an exchange on a bus line does to the meters that hear a session.
use Rattle.std.proofs.Common.{◌≡◌, ℕ, zero, suc, ◌+◌, ◌-◌, ◌⊎◌, inl, inr, Bool, true, false, ◌||◌, List, [], ◌∷◌, map, Option, Some, None, cond, ◌==◌, refl, sym, ◌∙◌, ap, subst, ◌≢◌, ◌≤◌, ⊎_elim, ◌++◌, length, eqb, arith, length-append}
use Rattle.std.specs.Prelude.{slice_get, option_map}
use Rattle.std.specs.List.{AllByRecursion}
use Rattle.std.specs.BTreeMap.{is_at}
use Rattle.std.proofs.lemmas.Bool.{eq-eqb, ne_eqb}
use Rattle.dc_linkframe.specs.Frame.{FrameSeen, ack, long}
use Rattle.dc_linkframe.specs.Control.{selected}
use Rattle.dc_linkframe.specs.Reading.{frame_of}
use Rattle.dc_address.specs.declared.identity.Identity.{Identity}
use Rattle.dc_address.specs.Mask.{mask_of, matches}
use Rattle.dc_address.proofs.Masks.{matches-mask_of}
use Rattle.dc_records.specs.Telegram.{Parsed}
use Rattle.dc_readout.specs.declared.stage.Stage.{Stage}
use Rattle.dc_readout.specs.declared.stage.Stage.TheVariants.{Resets, Selects, Requests, Pending, Ended}
use Rattle.dc_readout.specs.Answer.{acknowledged, answered, to_request}
use Rattle.dc_readout.specs.Summary.{link_address, reset_of, selection_of, request_of, asked_at, meaning_at, after_command, Summary, again, ready, new, asked_by, verdict_by, heard_by, begun}
use Rattle.dc_readout.proofs.Table.{acknowledged_when, answered_when}
use Rattle.dc_readout.specs.Meter.{Meter, Position, hears_at, is_own, moved_by, at_selection, gone_on, begun_anew, body_at}
use Rattle.dc_readout.specs.InStep.{bit_after, HasGoneOn, HasNotGoneOn}
use Rattle.mbdc_bus.specs.WorldLine.{seen_by}
use Rattle.dc_readout.specs.Standing.{Standing}
use Rattle.dc_readout.proofs.Moves.{moved_by-request, answer_to-request, selected_kept, has_gone_on}
use Rattle.dc_readout.proofs.Exchanges.{to_command_ack, moved_by-selection, telegram_long, response_body, cond_some, body_at_next}
use Rattle.dc_address.specs.Identity.{identity_cmp}
use Rattle.dc_records.specs.Body.{continues}
use Rattle.dc_readout.specs.Taken.{IsTaken}
use Rattle.dc_readout.proofs.Taken.{taken}
use Rattle.dc_readout.specs.World.{more_after, whole_readout}
use Rattle.dc_readout.proofs.Events.{ready_is, new_is}
use Rattle.dc_readout.proofs.Commits.{all_with, next_step}
use Rattle.mbdc_change.specs.State.{State, MeterRow, PartRow, row_of}
use Rattle.mbdc_change.specs.Apply.{joined, heard as told_at}
use Rattle.dc_core.specs.Lines.{settled_at, settled_on}
use Rattle.dc_core.proofs.Registered.{IsFollowed, row_of_same, row_of_other, apart}
use Rattle.mbdc_theorems.specs.House.{Sends, Bus, HaveBodies, IsRenewed, AreRenewed, IsReply, IsExchanged, not_seen, not_heard, reply_heard, quiet, SpeakForThemselves, bodies_of, AreSentBy, HasOpen, IsWholeReading, AreWhole}

-- ---- in step

abbrev pub StepsAt : Stage → ℕ → Position → Type 0
StepsAt Resets n p = Unit {0}
StepsAt Selects n p = Unit {0}
StepsAt Requests n p = HasNotGoneOn n p ⊎ HasGoneOn n p
StepsAt (Pending more) n p = HasGoneOn n p
StepsAt Ended n p = Unit {0}

-- each meter of this identity that hears requests to this address
abbrev pub AreInStep : List Standing → Stage → Identity → Option ℕ → ℕ → Type 0
AreInStep meters stage identity address n =
    (i : ℕ) (x : Standing) → slice_get meters i ≡ Some x → x.meter.identity ≡ identity
    → hears_at x.meter.address (link_address address) x.position ≡ true → StepsAt stage n x.position

pub renewed_steps : (old later : List Standing) (stage : Stage) (identity : Identity) (address : Option ℕ) (n : ℕ) → AreRenewed old later → AreInStep old stage identity address n → AreInStep later stage identity address n
renewed_steps old later stage identity address n renewed steps i x at own hears =
    let y = renewed i x at in
    let is : IsRenewed y.0 x = y.2 in
    let heard : hears_at y.0.meter.address (link_address address) y.0.position ≡ true =
    ap (λ p. hears_at y.0.meter.address (link_address address) p) (sym is.position) ∙ ap (λ a. hears_at a (link_address address) x.position) (sym is.address) ∙ hears in
    subst (StepsAt stage n) (sym is.position) (steps i y.0 y.1 (sym is.identity ∙ own) heard)

-- ---- all meters see a frame

pub seen_at : (frame : FrameSeen) (meters : List Standing) (i : ℕ) (x : Standing) → slice_get (map (seen_by frame) meters) i ≡ Some x → (y : Standing) × (slice_get meters i ≡ Some y) × (seen_by frame y ≡ x)
seen_at frame [] i x at = absurd cc
seen_at frame (y ∷ meters) zero x at = (y, refl, cc)
seen_at frame (y ∷ meters) (suc i) x at = seen_at frame meters i x at

pub seen_bodies : (sends : Sends) (frame : FrameSeen) (meters : List Standing) → HaveBodies sends meters → HaveBodies sends (map (seen_by frame) meters)
seen_bodies sends frame meters have i k x body at there =
    let y = seen_at frame meters i x at in
    let same = y.2 in
    let who : y.0.meter ≡ x.meter = ap (λ s. s.meter) same in
    subst (λ m. sends m.identity k body ≡ true) who (have i k y.0 body y.1 (ap (λ m. slice_get m.bodies k) who ∙ there))

pub exchanged_bodies : (sends : Sends) (frame : FrameSeen) (old later : Bus) → IsExchanged frame old later → HaveBodies sends old.meters → HaveBodies sends later.meters
exchanged_bodies sends frame old later (not_seen bytes none is) have = subst (λ b. HaveBodies sends b.meters) (sym is) have
exchanged_bodies sends frame old later (not_heard bytes none is) have = subst (λ b. HaveBodies sends b.meters) (sym is) (seen_bodies sends frame old.meters have)
exchanged_bodies sends frame old later (reply_heard bytes reply heard from is) have = subst (λ b. HaveBodies sends b.meters) (sym is) (seen_bodies sends frame old.meters have)

-- ---- a request

cond_place : (h : Bool) (a b p : Position) → h ≡ true → cond h a b ≡ p → a ≡ p
cond_place true a b p h e = e
cond_place false a b p h e = absurd cc

gone : (address : Option ℕ) (n : ℕ) (m : Meter) (before p : Position) → moved_by (request_of address n) m before ≡ p
    → hears_at m.address (link_address address) p ≡ true → (hears_at m.address (link_address address) before ≡ true → HasNotGoneOn n before ⊎ HasGoneOn n before) → HasGoneOn n p
gone address n m before p moved hears step =
    let same : before.selected ≡ p.selected = sym (selected_kept n (link_address address) m before) ∙ ap (λ q. q.selected) moved in
    let heard : hears_at m.address (link_address address) before ≡ true =
    ap (λ b. is_own m.address (link_address address) || cond (link_address address == selected) b false) same ∙ hears in
    let is : gone_on (Some (bit_after n)) before ≡ p =
    cond_place (hears_at m.address (link_address address) before) (gone_on (Some (bit_after n)) before) before p heard (sym (moved_by-request n (link_address address) m before) ∙ moved) in
    subst (HasGoneOn n) is (has_gone_on n before (step heard))

pub requested_steps : (meters : List Standing) (more : Bool) (identity : Identity) (address : Option ℕ) (n : ℕ)
    → AreInStep meters Requests identity address n → AreInStep (map (seen_by (request_of address n)) meters) (Pending more) identity address n
requested_steps meters more identity address n steps i x at own hears =
    let y = seen_at (request_of address n) meters i x at in
    let same = y.2 in
    let who : y.0.meter ≡ x.meter = ap (λ s. s.meter) same in
    let moved : moved_by (request_of address n) x.meter y.0.position ≡ x.position =
    ap (λ m. moved_by (request_of address n) m y.0.position) (sym who) ∙ ap (λ s. s.position) same in
    gone address n x.meter y.0.position x.position moved hears
    (λ heard. steps i y.0 y.1 (ap (λ m. m.identity) who ∙ own) (ap (λ m. hears_at m.address (link_address address) y.0.position) who ∙ heard))

-- whatever the line does with a request, its session's meters stay in step
moved_steps : (meters : List Standing) (stage : Stage) (identity : Identity) (address : Option ℕ) (n : ℕ) (frame : FrameSeen)
    → asked_at stage identity address n ≡ Some frame → AreInStep meters stage identity address n
    → AreInStep (map (seen_by frame) meters) stage identity address n
moved_steps meters Resets identity address n frame asks steps = λ i x at own hears. tt
moved_steps meters Selects identity address n frame asks steps = λ i x at own hears. tt
moved_steps meters Requests identity address n frame asks steps =
    let same : request_of address n ≡ frame = cc in
    λ i x at own hears. inr (requested_steps meters true identity address n steps i x
    (ap (λ f. slice_get (map (seen_by f) meters) i) same ∙ at) own hears)
moved_steps meters (Pending more) identity address n frame asks steps = absurd cc
moved_steps meters Ended identity address n frame asks steps = absurd cc

pub asked_steps : (old later : Bus) (stage : Stage) (identity : Identity) (address : Option ℕ) (n : ℕ) (frame : FrameSeen)
    → asked_at stage identity address n ≡ Some frame → IsExchanged frame old later → AreInStep old.meters stage identity address n → AreInStep later.meters stage identity address n
asked_steps old later stage identity address n frame asks (not_seen bytes none is) steps = subst (λ b. AreInStep b.meters stage identity address n) (sym is) steps
asked_steps old later stage identity address n frame asks (not_heard bytes none is) steps =
    subst (λ b. AreInStep b.meters stage identity address n) (sym is) (moved_steps old.meters stage identity address n frame asks steps)
asked_steps old later stage identity address n frame asks (reply_heard bytes reply heard from is) steps =
    subst (λ b. AreInStep b.meters stage identity address n) (sym is) (moved_steps old.meters stage identity address n frame asks steps)

-- ---- a frame was received

-- it is the reply of a meter that saw the request
pub record IsHeard (frame : FrameSeen) (old later : Bus) (reply : FrameSeen) : Type 0 where
  pub from : IsReply frame (map (seen_by frame) old.meters) reply
  pub meters_are : later.meters ≡ map (seen_by frame) old.meters

heard_reply : (frame : FrameSeen) (old later : Bus) (bytes : List ℕ) (reply : FrameSeen) → IsExchanged frame old later → later.answer ≡ Some bytes → frame_of bytes ≡ Some reply → IsHeard frame old later reply
heard_reply frame old later bytes reply (not_seen b none is) answer heard =
    let same : Some b ≡ Some bytes = ap (λ (x : Bus). x.answer) (sym is) ∙ answer in
    let one : b ≡ bytes = cc in
    absurd (let e = ap frame_of (sym one) in cc)
heard_reply frame old later bytes reply (not_heard b none is) answer heard =
    let same : Some b ≡ Some bytes = ap (λ (x : Bus). x.answer) (sym is) ∙ answer in
    let one : b ≡ bytes = cc in
    absurd (let e = ap frame_of (sym one) in cc)
heard_reply frame old later bytes reply (reply_heard b r got from is) answer heard =
    let same : Some b ≡ Some bytes = ap (λ (x : Bus). x.answer) (sym is) ∙ answer in
    let one : b ≡ bytes = cc in
    let replies : Some r ≡ Some reply = sym got ∙ ap frame_of one ∙ heard in
    let r_is : r ≡ reply = cc in
    record { from = subst (IsReply frame (map (seen_by frame) old.meters)) r_is from; meters_are = ap (λ (x : Bus). x.meters) is }

-- ---- a command that was acknowledged

reset_begins : (a : ℕ) (m : Meter) (before p : Position) → moved_by (reset_of (Some a)) m before ≡ p → hears_at m.address a p ≡ true → HasNotGoneOn 0 p
unfolding moved_by
reset_begins a m before p moved hears = by (is_own m.address a) (a == selected) refl refl moved
  where
    by : (own group : Bool) → is_own m.address a ≡ own → (a == selected) ≡ group → cond own (begun_anew before) (cond group (record before { selected = false }) before) ≡ p → HasNotGoneOn 0 p
    by true group o g e = subst (HasNotGoneOn 0) e (refl, refl)
    by false true o g e =
        let none : p.selected ≡ false = ap (λ q. q.selected) (sym e) in
        let deaf : hears_at m.address a p ≡ false = rw (o, g) none in
        absurd (let both = sym deaf ∙ hears in cc)
    by false false o g e =
        let deaf : hears_at m.address a p ≡ false = rw (o, g) refl in
        absurd (let both = sym deaf ∙ hears in cc)

selection_begins : (identity : Identity) (m : Meter) (before p : Position) → moved_by (selection_of identity) m before ≡ p → m.identity ≡ identity → HasNotGoneOn 0 p
selection_begins identity m before p moved own =
    let matched : matches (mask_of identity) m.identity ≡ true = ap (λ x. matches (mask_of identity) x) own ∙ matches-mask_of identity in
    let is : at_selection true before ≡ p = ap (λ b. at_selection b before) (sym matched) ∙ sym (moved_by-selection identity m before) ∙ moved in
    subst (HasNotGoneOn 0) is (refl, refl)

-- the meter's readout begins anew
module _ (meters : List Standing) (identity : Identity) where
  reset_steps : (a : ℕ) → AreInStep (map (seen_by (reset_of (Some a))) meters) Requests identity (Some a) 0
  reset_steps a i x at own hears =
      let y = seen_at (reset_of (Some a)) meters i x at in
      let same = y.2 in
      let who : y.0.meter ≡ x.meter = ap (λ s. s.meter) same in
      inl (reset_begins a y.0.meter y.0.position x.position (ap (λ s. s.position) same) (ap (λ m. hears_at m.address a x.position) who ∙ hears))

  selection_steps : (address : Option ℕ) → AreInStep (map (seen_by (selection_of identity)) meters) Requests identity address 0
  selection_steps address i x at own hears =
      let y = seen_at (selection_of identity) meters i x at in
      let same = y.2 in
      let who : y.0.meter ≡ x.meter = ap (λ s. s.meter) same in
      inl (selection_begins identity y.0.meter y.0.position x.position (ap (λ s. s.position) same) (ap (λ m. m.identity) who ∙ own))

pub ready_steps : (old later : Bus) (stage : Stage) (identity : Identity) (address : Option ℕ) (n : ℕ) (frame : FrameSeen) (bytes : List ℕ)
    → asked_at stage identity address n ≡ Some frame → IsExchanged frame old later → later.answer ≡ Some bytes → n ≡ 0
    → meaning_at stage identity address n (frame_of bytes) ≡ acknowledged
    → AreInStep later.meters (after_command stage address) identity address n
ready_steps old later Resets identity None n frame bytes asks x answer none e = λ i s at own hears. tt
ready_steps old later Resets identity (Some a) n frame bytes asks x answer none e =
    let h = heard_reply frame old later bytes ack x answer (to_command_ack (frame_of bytes) e) in
    let same : reset_of (Some a) ≡ frame = cc in
    subst (λ ms. AreInStep ms Requests identity (Some a) n) (sym h.meters_are)
    (subst (λ f. AreInStep (map (seen_by f) old.meters) Requests identity (Some a) n) same
    (subst (λ k. AreInStep (map (seen_by (reset_of (Some a))) old.meters) Requests identity (Some a) k) (sym none) (reset_steps old.meters identity a)))
ready_steps old later Selects identity address n frame bytes asks x answer none e =
    let h = heard_reply frame old later bytes ack x answer (to_command_ack (frame_of bytes) e) in
    let same : selection_of identity ≡ frame = cc in
    subst (λ ms. AreInStep ms Requests identity address n) (sym h.meters_are)
    (subst (λ f. AreInStep (map (seen_by f) old.meters) Requests identity address n) same
    (subst (λ k. AreInStep (map (seen_by (selection_of identity)) old.meters) Requests identity address k) (sym none) (selection_steps old.meters identity address)))
ready_steps old later Requests identity address n frame bytes asks x answer none e =
    absurd (by (acknowledged_when Requests identity address n (frame_of bytes) e))
  where
    by : (Requests ≡ Resets) ⊎ (Requests ≡ Selects) → ⊥
    by (inl bad) = cc
    by (inr bad) = cc
ready_steps old later (Pending more) identity address n frame bytes asks x answer none e = absurd cc
ready_steps old later Ended identity address n frame bytes asks x answer none e = absurd cc

-- ---- a telegram

body_somewhere : (place : ℕ) (bodies : List (List ℕ)) (body : List ℕ) → body_at place bodies ≡ Some body → slice_get bodies (place - 1) ≡ Some body
body_somewhere place bodies body e = by (place == 0) e
  where
    by : (b : Bool) → cond b None (slice_get bodies (place - 1)) ≡ Some body → slice_get bodies (place - 1) ≡ Some body
    by true e = absurd cc
    by false e = e

-- it is one that the session's meter may send in the next place
pub record IsNext (sends : Sends) (meters : List Standing) (identity : Identity) (address : Option ℕ) (n : ℕ) (t : Parsed) : Type 0 where
  pub sent : sends identity n t.body ≡ true
  pub steps : AreInStep meters (Pending true) identity address n

requested_next : (sends : Sends) (old later : Bus) (identity : Identity) (address : Option ℕ) (n : ℕ) (bytes : List ℕ) (t : Parsed)
    → SpeakForThemselves sends → HaveBodies sends old.meters → AreInStep old.meters Requests identity address n
    → IsExchanged (request_of address n) old later → later.answer ≡ Some bytes
    → to_request identity address (n + 1) (frame_of bytes) ≡ answered t → t.header.identity ≡ identity
    → IsNext sends later.meters identity address n t
requested_next sends old later identity address n bytes t themselves have steps exchanged answer e names =
    let frame : FrameSeen = request_of address n in
    let l = telegram_long identity address (n + 1) (frame_of bytes) t e in
    let h = heard_reply frame old later bytes (long l.control l.sender l.ci t.body) exchanged answer l.is in
    let x = h.from in
    let one = x.one in
    let said = cond_some _ _ _ (sym (answer_to-request n (link_address address) one.meter one.position) ∙ x.answers) in
    let found : body_at one.position.place one.meter.bodies ≡ Some t.body = response_body one.meter _ l.control l.sender l.ci t.body said.1 in
    let all = seen_bodies sends frame old.meters have in
    let some = all x.place (one.position.place - 1) one t.body x.there (body_somewhere one.position.place one.meter.bodies t.body found) in
    let own : one.meter.identity ≡ identity = sym (themselves one.meter.identity (one.position.place - 1) t.body t some l.whole) ∙ names in
    let after = requested_steps old.meters true identity address n steps in
    let there : HasGoneOn n one.position = after x.place one x.there own said.0 in
    record {
      sent = subst (λ i. sends i n t.body ≡ true) own (all x.place n one t.body x.there (sym (body_at_next n one.position.place one.meter.bodies there.0) ∙ found));
      steps = subst (λ ms. AreInStep ms (Pending true) identity address n) (sym h.meters_are) after;
    }

requests_asked : (stage : Stage) (identity : Identity) (address : Option ℕ) (n : ℕ) (frame : FrameSeen) → stage ≡ Requests → asked_at stage identity address n ≡ Some frame → request_of address n ≡ frame
requests_asked stage identity address n frame is asks =
    let e : asked_at Requests identity address n ≡ Some frame = ap (λ x. asked_at x identity address n) (sym is) ∙ asks in cc

pub next_of : (sends : Sends) (old later : Bus) (stage : Stage) (identity : Identity) (address : Option ℕ) (n : ℕ) (frame : FrameSeen) (bytes : List ℕ) (t : Parsed)
    → SpeakForThemselves sends → HaveBodies sends old.meters → AreInStep old.meters stage identity address n
    → asked_at stage identity address n ≡ Some frame → IsExchanged frame old later → later.answer ≡ Some bytes
    → meaning_at stage identity address n (frame_of bytes) ≡ answered t → t.header.identity ≡ identity
    → IsNext sends later.meters identity address n t
next_of sends old later stage identity address n frame bytes t themselves have steps asks exchanged answer e names =
    let is = answered_when stage identity address n (frame_of bytes) t e in
    let same = requests_asked stage identity address n frame is asks in
    requested_next sends old later identity address n bytes t themselves have
    (subst (λ s. AreInStep old.meters s identity address n) is steps) (subst (λ f. IsExchanged f old later) (sym same) exchanged) answer
    (ap (λ s. meaning_at s identity address n (frame_of bytes)) (sym is) ∙ e) names

-- What is said of a session, its meter and the register, and what keeps it.

abbrev pub More : List ℕ → Type 0
More body = more_after body ≡ true

-- ---- a session and its meter

-- this many parts, each as the meter may send it in its place, and more follow after each
pub record AreFirst (sends : Sends) (meter : Identity) (count : ℕ) (parts : List PartRow) : Type 0 where
  pub counted : length parts ≡ count
  pub sent : AreSentBy sends meter parts
  pub follow : AllByRecursion More (bodies_of parts)

-- how many parts of the session are open, with the telegram that waits; and without it
abbrev pub open_at : Stage → ℕ → ℕ
open_at Resets n = 0
open_at Selects n = 0
open_at Requests n = n
open_at (Pending true) n = n + 1
open_at (Pending false) n = 0
open_at Ended n = 0

abbrev pub held_at : Stage → ℕ → ℕ
held_at Resets n = 0
held_at Selects n = 0
held_at Requests n = n
held_at (Pending more) n = 0
held_at Ended n = 0

abbrev pub IsUnbegun : Stage → ℕ → Type 0
IsUnbegun Resets n = n ≡ 0
IsUnbegun Selects n = n ≡ 0
IsUnbegun Requests n = Unit {0}
IsUnbegun (Pending more) n = Unit {0}
IsUnbegun Ended n = Unit {0}

-- the session's request was sent, and this was received: what it means to the session
pub record IsOut (sends : Sends) (bus : Bus) (s : Summary) (bytes : List ℕ) : Type 0 where
  pub frame : FrameSeen
  pub asks : asked_by s ≡ Some frame
  pub ready_steps : s.settled ≡ 0 → meaning_at s.stage s.meter s.address s.settled (frame_of bytes) ≡ acknowledged
      → AreInStep bus.meters (after_command s.stage s.address) s.meter s.address s.settled
  pub next : (t : Parsed) → meaning_at s.stage s.meter s.address s.settled (frame_of bytes) ≡ answered t → t.header.identity ≡ s.meter
      → IsNext sends bus.meters s.meter s.address s.settled t

-- THE INVARIANT of a session on a bus line, where the register is this, and that with what is pending
pub record Agrees (sends : Sends) (line : ℕ) (bus : Bus) (committed state : State) (s : Summary) : Type 0 where
  pub row : MeterRow
  pub found : row_of s.meter state ≡ Some row
  pub on_line : row.line ≡ line
  pub steps : AreInStep bus.meters s.stage s.meter s.address s.settled
  pub unbegun : IsUnbegun s.stage s.settled
  pub first : 1 ≤ open_at s.stage s.settled → AreFirst sends s.meter (open_at s.stage s.settled) row.parts
  pub kept : 1 ≤ held_at s.stage s.settled → HasOpen sends s.meter (held_at s.stage s.settled) committed
  pub out : (bytes : List ℕ) → bus.answer ≡ Some bytes → IsOut sends bus s bytes

abbrev pub AgreesOn : Sends → ℕ → Bus → State → State → Option Summary → Type 0
AgreesOn sends line bus committed state None = Unit {0}
AgreesOn sends line bus committed state (Some s) = Agrees sends line bus committed state s

-- ---- the meters have other bodies

renewed_next : (sends : Sends) (old later : List Standing) (meter : Identity) (address : Option ℕ) (n : ℕ) (t : Parsed) → AreRenewed old later → IsNext sends old meter address n t → IsNext sends later meter address n t
renewed_next sends old later meter address n t renewed x =
    record { sent = x.sent; steps = renewed_steps old later (Pending true) meter address n renewed x.steps }

renewed_agrees : (sends : Sends) (line : ℕ) (bus : Bus) (meters : List Standing) (committed state : State) (s : Summary) → AreRenewed bus.meters meters → Agrees sends line bus committed state s
    → Agrees sends line (record bus { meters = meters }) committed state s
renewed_agrees sends line bus meters committed state s renewed a = record {
  row = a.row;
  found = a.found;
  on_line = a.on_line;
  steps = renewed_steps bus.meters meters s.stage s.meter s.address s.settled renewed a.steps;
  unbegun = a.unbegun;
  first = a.first;
  kept = a.kept;
  out = λ bytes e.
      let o = a.out bytes e in
      record {
        frame = o.frame;
        asks = o.asks;
        ready_steps = λ none heard. renewed_steps bus.meters meters (after_command s.stage s.address) s.meter s.address s.settled renewed (o.ready_steps none heard);
        next = λ t heard names. renewed_next sends bus.meters meters s.meter s.address s.settled t renewed (o.next t heard names);
      };
}

pub renewed_on : (sends : Sends) (line : ℕ) (bus : Bus) (meters : List Standing) (committed state : State) (session : Option Summary) → AreRenewed bus.meters meters → AgreesOn sends line bus committed state session
    → AgreesOn sends line (record bus { meters = meters }) committed state session
renewed_on sends line bus meters committed state None renewed a = tt
renewed_on sends line bus meters committed state (Some s) renewed a = renewed_agrees sends line bus meters committed state s renewed a

-- ---- the register changes, and the meter's row keeps its line and its parts

pub record IsSameRow (meter : Identity) (row : MeterRow) (later : State) : Type 0 where
  pub now : MeterRow
  pub found : row_of meter later ≡ Some now
  pub line : now.line ≡ row.line
  pub parts : now.parts ≡ row.parts

pub row_kept : (sends : Sends) (line : ℕ) (bus : Bus) (committed state later : State) (s : Summary) (a : Agrees sends line bus committed state s) → IsSameRow s.meter a.row later → Agrees sends line bus committed later s
row_kept sends line bus committed state later s a same = record {
  row = same.now;
  found = same.found;
  on_line = same.line ∙ a.on_line;
  steps = a.steps;
  unbegun = a.unbegun;
  first = λ some. subst (AreFirst sends s.meter (open_at s.stage s.settled)) (sym same.parts) (a.first some);
  kept = a.kept;
  out = a.out;
}

-- ---- a readout begins

pub begun_agrees : (sends : Sends) (line : ℕ) (bus : Bus) (committed state : State) (meter : Identity) (address : Option ℕ) (row : MeterRow) → row_of meter state ≡ Some row → row.line ≡ line
    → Agrees sends line (quiet bus) committed state (begun meter address)
begun_agrees sends line bus committed state meter address row found on = record {
  row = row;
  found = found;
  on_line = on;
  steps = λ i x at own hears. tt;
  unbegun = refl;
  first = λ some. absurd (omega (arith, some));
  kept = λ some. absurd (omega (arith, some));
  out = λ bytes e. absurd cc;
}

-- ---- a request is sent

pub sent_agrees : (sends : Sends) (line : ℕ) (old later : Bus) (committed state : State) (s : Summary) (frame : FrameSeen) → SpeakForThemselves sends → HaveBodies sends old.meters → asked_by s ≡ Some frame → IsExchanged frame old later
    → Agrees sends line old committed state s → Agrees sends line later committed state s
sent_agrees sends line old later committed state s frame themselves have asks exchanged a = record {
  row = a.row;
  found = a.found;
  on_line = a.on_line;
  steps = asked_steps old later s.stage s.meter s.address s.settled frame asks exchanged a.steps;
  unbegun = a.unbegun;
  first = a.first;
  kept = a.kept;
  out = λ bytes e. record {
    frame = frame;
    asks = asks;
    ready_steps = λ none heard. ready_steps old later s.stage s.meter s.address s.settled frame bytes asks exchanged e none heard;
    next = λ t heard names. next_of sends old later s.stage s.meter s.address s.settled frame bytes t themselves have a.steps asks exchanged e heard names;
  };
}

-- ---- an answer is taken

pub again_agrees : (sends : Sends) (line : ℕ) (bus : Bus) (committed state : State) (s : Summary) → Agrees sends line bus committed state s → Agrees sends line (quiet bus) committed state (heard_by s again)
again_agrees sends line bus committed state s a = record {
  row = a.row;
  found = a.found;
  on_line = a.on_line;
  steps = a.steps;
  unbegun = a.unbegun;
  first = a.first;
  kept = a.kept;
  out = λ bytes e. absurd cc;
}

none_yet : (stage : Stage) (n : ℕ) → (stage ≡ Resets) ⊎ (stage ≡ Selects) → IsUnbegun stage n → n ≡ 0
none_yet stage n (inl e) unbegun = subst (λ x. IsUnbegun x n) e unbegun
none_yet stage n (inr e) unbegun = subst (λ x. IsUnbegun x n) e unbegun

unbegun_after : (stage : Stage) (address : Option ℕ) (n : ℕ) → n ≡ 0 → IsUnbegun (after_command stage address) n
unbegun_after Resets None n none = none
unbegun_after Resets (Some a) n none = tt
unbegun_after Selects address n none = tt
unbegun_after Requests address n none = tt
unbegun_after (Pending more) address n none = tt
unbegun_after Ended address n none = tt

none_open : (stage : Stage) (address : Option ℕ) (n : ℕ) → n ≡ 0 → (open_at (after_command stage address) n ≡ 0) × (held_at (after_command stage address) n ≡ 0)
none_open Resets None n none = (refl, refl)
none_open Resets (Some a) n none = (none, none)
none_open Selects address n none = (none, none)
none_open Requests address n none = (none, none)
none_open (Pending more) address n none = (none, none)
none_open Ended address n none = (none, none)

not_one : (n : ℕ) → n ≡ 0 → 1 ≤ n → ⊥
not_one n none some = omega (arith, none, some)

pub ready_agrees : (sends : Sends) (line : ℕ) (bus : Bus) (committed state : State) (s : Summary) (bytes : List ℕ) → bus.answer ≡ Some bytes → verdict_by s bytes ≡ ready → Agrees sends line bus committed state s
    → Agrees sends line (quiet bus) committed state (heard_by s ready)
ready_agrees sends line bus committed state s bytes received v a =
    let o = a.out bytes received in
    let heard : meaning_at s.stage s.meter s.address s.settled (frame_of bytes) ≡ acknowledged = ready_is s.tries s.settled _ v in
    let none = none_yet s.stage s.settled (acknowledged_when s.stage s.meter s.address s.settled (frame_of bytes) heard) a.unbegun in
    let zeros = none_open s.stage s.address s.settled none in
    record {
      row = a.row;
      found = a.found;
      on_line = a.on_line;
      steps = o.ready_steps none heard;
      unbegun = unbegun_after s.stage s.address s.settled none;
      first = λ some. absurd (not_one _ zeros.0 some);
      kept = λ some. absurd (not_one _ zeros.1 some);
      out = λ b e. absurd cc;
    }

-- ---- a telegram is taken

bodies_more : (parts : List PartRow) (part : PartRow) → bodies_of (parts ++ part ∷ []) ≡ bodies_of parts ++ part.body ∷ []
bodies_more [] part = refl
bodies_more (p ∷ parts) part = ap (λ rest. p.body ∷ rest) (bodies_more parts part)

more_at : (parts : List PartRow) (part : PartRow) (k : ℕ) (body : List ℕ) → slice_get (bodies_of (parts ++ part ∷ [])) k ≡ Some body
    → (slice_get (bodies_of parts) k ≡ Some body) ⊎ ((k ≡ length parts) × (part.body ≡ body))
more_at [] part zero body at = inr (refl, cc)
more_at [] part (suc k) body at = absurd cc
more_at (p ∷ parts) part zero body at = inl at
more_at (p ∷ parts) part (suc k) body at = ⊎_elim (λ old. inl old) (λ last. inr (ap suc last.0, last.1)) (more_at parts part k body at)

-- with the telegram the parts are one more
pub record AreMore (sends : Sends) (meter : Identity) (n : ℕ) (t : Parsed) (parts : List PartRow) : Type 0 where
  pub before : List PartRow
  pub piece : PartRow
  pub parts_are : parts ≡ before ++ piece ∷ []
  pub body : piece.body ≡ t.body
  pub counted : length before ≡ n
  pub sent : AreSentBy sends meter parts
  pub follow : AllByRecursion More (bodies_of before)

more_sent : (sends : Sends) (meter : Identity) (parts : List PartRow) (part : PartRow) (n : ℕ) → length parts ≡ n → AreSentBy sends meter parts → sends meter n part.body ≡ true → AreSentBy sends meter (parts ++ part ∷ [])
more_sent sends meter parts part n counted sent last k body at = ⊎_elim
    (λ old. sent k body old)
    (λ is. subst (λ b. sends meter k b ≡ true) is.1 (subst (λ i. sends meter i part.body ≡ true) (sym counted ∙ sym is.0) last))
    (more_at parts part k body at)

module _ (sends : Sends) (meter : Identity) (t : Parsed) (piece : PartRow) (is : piece.body ≡ t.body) where
  joined_first : (n number : ℕ) (parts : List PartRow) → number ≡ n + 1 → sends meter n t.body ≡ true → (1 ≤ n → AreFirst sends meter n parts) → AreMore sends meter n t (joined number piece parts)
  joined_first zero number parts at sent first =
      let one : (eqb number 1) ≡ true = eq-eqb number 1 (omega (arith, at)) in
      let this : sends meter 0 piece.body ≡ true = ap (λ b. sends meter 0 b) is ∙ sent in
      rw one (record {
        before = [];
        piece = piece;
        parts_are = refl;
        body = is;
        counted = refl;
        sent = more_sent sends meter [] piece 0 refl (λ k body none. absurd cc) this;
        follow = tt;
      })
  joined_first (suc m) number parts at sent first =
      let other : (eqb number 1) ≡ false = ne_eqb number 1 (λ e. omega (arith, at, e)) in
      let f = first (omega arith) in
      let this : sends meter (suc m) piece.body ≡ true = ap (λ b. sends meter (suc m) b) is ∙ sent in
      rw other (record {
        before = parts;
        piece = piece;
        parts_are = refl;
        body = is;
        counted = f.counted;
        sent = more_sent sends meter parts piece (suc m) f.counted f.sent this;
        follow = f.follow;
      })

pub joined_all : (sends : Sends) (line : ℕ) (bus : Bus) (committed state : State) (s : Summary) (part : ℕ) (t : Parsed) (piece : PartRow) (a : Agrees sends line bus committed state s)
    → IsTaken s part t → IsNext sends bus.meters s.meter s.address s.settled t → piece.body ≡ t.body → AreMore sends s.meter s.settled t (joined part piece a.row.parts)
joined_all sends line bus committed state s part t piece a at x is =
    joined_first sends s.meter t piece is s.settled part a.row.parts at.next_part x.sent
    (λ some. let all : open_at s.stage s.settled ≡ s.settled = ap (λ k. open_at k s.settled) at.was_asked in
    subst (λ k. AreFirst sends s.meter k a.row.parts) all (a.first (subst (λ k. 1 ≤ k) (sym all) some)))

-- what the session makes of a telegram
pub given : (sends : Sends) (line : ℕ) (bus : Bus) (committed state : State) (s : Summary) (bytes : List ℕ) (part : ℕ) (t : Parsed)
    → bus.answer ≡ Some bytes → verdict_by s bytes ≡ new part t → Agrees sends line bus committed state s → IsNext sends bus.meters s.meter s.address s.settled t
given sends line bus committed state s bytes part t received v a =
    (a.out bytes received).next t (new_is s.tries s.settled part t _ v) (taken s bytes part t v).own

first_more : (sends : Sends) (meter : Identity) (n : ℕ) (t : Parsed) (parts : List PartRow) → more_after t.body ≡ true → AreMore sends meter n t parts → AreFirst sends meter (n + 1) parts
first_more sends meter n t parts more m = record {
  counted = ap length m.parts_are ∙ length-append m.before (m.piece ∷ []) ∙ ap (λ k. k + 1) m.counted;
  sent = m.sent;
  follow = subst (λ ps. AllByRecursion More (bodies_of ps)) (sym m.parts_are)
      (subst (AllByRecursion More) (sym (bodies_more m.before m.piece)) (all_with More (bodies_of m.before) m.piece.body m.follow (ap more_after m.body ∙ more)));
}

whole_last : (bodies : List (List ℕ)) (body : List ℕ) → AllByRecursion More bodies → more_after body ≡ false → whole_readout (bodies ++ body ∷ []) ≡ Some (bodies ++ body ∷ [])
whole_last [] body all last = rw last refl
whole_last (b ∷ bodies) body all last = rw (all.0) (ap (option_map (λ rest. b ∷ rest)) (whole_last bodies body all.1 last))

whole_more : (sends : Sends) (meter : Identity) (n : ℕ) (t : Parsed) (parts : List PartRow) → more_after t.body ≡ false → AreMore sends meter n t parts → whole_readout (bodies_of parts) ≡ Some (bodies_of parts)
whole_more sends meter n t parts last m =
    let are : bodies_of parts ≡ bodies_of m.before ++ m.piece.body ∷ [] = ap bodies_of m.parts_are ∙ bodies_more m.before m.piece in
    ap whole_readout are ∙ whole_last (bodies_of m.before) m.piece.body m.follow (ap more_after m.body ∙ last) ∙ ap Some (sym are)

-- the session then, and the reading where it is the last telegram
pub told_agrees : (sends : Sends) (line : ℕ) (bus : Bus) (committed state : State) (s : Summary) (part : ℕ) (t : Parsed) (piece : PartRow) (more : Bool) (a : Agrees sends line bus committed state s)
    → continues t.ending ≡ more → more_after t.body ≡ more → IsNext sends bus.meters s.meter s.address s.settled t → AreMore sends s.meter s.settled t (joined part piece a.row.parts)
    → Agrees sends line (quiet bus) committed (told_at s.meter more part piece (Some a.row) state) (heard_by s (new part t))
told_agrees sends line bus committed state s part t piece true a ends more x m =
    let row : MeterRow = record a.row { parts = joined part piece a.row.parts } in
    record {
      row = row;
      found = row_of_same s.meter a.row row state a.found;
      on_line = a.on_line;
      steps = x.steps;
      unbegun = tt;
      first = λ some. subst (λ k. AreFirst sends s.meter k row.parts) (ap (λ (b : Bool). open_at (Pending b) s.settled) (sym ends)) (first_more sends s.meter s.settled t row.parts more m);
      kept = λ some. absurd (omega (arith, some));
      out = λ b e. absurd cc;
    }
told_agrees sends line bus committed state s part t piece false a ends more x m =
    let row : MeterRow = record a.row { parts = [] } in
    record {
      row = row;
      found = row_of_same s.meter a.row row state a.found;
      on_line = a.on_line;
      steps = x.steps;
      unbegun = tt;
      first = λ some. absurd (let none : 1 ≤ 0 = subst (λ (b : Bool). 1 ≤ open_at (Pending b) s.settled) ends some in omega (arith, none));
      kept = λ some. absurd (omega (arith, some));
      out = λ b e. absurd cc;
    }

pub told_whole : (sends : Sends) (line : ℕ) (bus : Bus) (committed state : State) (s : Summary) (part : ℕ) (t : Parsed) (piece : PartRow) (more : Bool) (a : Agrees sends line bus committed state s)
    → more_after t.body ≡ more → AreMore sends s.meter s.settled t (joined part piece a.row.parts)
    → AreWhole sends state → AreWhole sends (told_at s.meter more part piece (Some a.row) state)
told_whole sends line bus committed state s part t piece true a more m whole = whole
told_whole sends line bus committed state s part t piece false a more m whole =
    all_with (IsWholeReading sends) state.readings _ whole (record {
      sent = m.sent;
      whole = whole_more sends s.meter s.settled t (joined part piece a.row.parts) more m;
    })

-- a session on another line
pub told_beside : (sends : Sends) (line other : ℕ) (bus : Bus) (committed state : State) (meter : Identity) (row : MeterRow) (more : Bool) (number : ℕ) (part : PartRow) (session : Option Summary)
    → row_of meter state ≡ Some row → row.line ≡ line → other ≢ line
    → AgreesOn sends other bus committed state session → AgreesOn sends other bus committed (told_at meter more number part (Some row) state) session
told_beside sends line other bus committed state meter row more number part None found on ne a = tt
told_beside sends line other bus committed state meter row more number part (Some s) found on ne a = row_kept sends other bus committed state _ s a (by more)
  where
    followed : IsFollowed other s.meter 0 state
    followed = record { row = a.row; found = a.found; on_line = a.on_line; counted = inl refl }

    away : is_at (identity_cmp s.meter) meter ≡ false
    away = apart line other meter s.meter row 0 state found on followed ne

    by : (m : Bool) → IsSameRow s.meter a.row (told_at meter m number part (Some row) state)
    by true = record { now = a.row; found = row_of_other s.meter meter (record row { parts = joined number part row.parts }) state away ∙ a.found; line = refl; parts = refl }
    by false = record { now = a.row; found = row_of_other s.meter meter (record row { parts = [] }) state away ∙ a.found; line = refl; parts = refl }

-- ---- what is pending is committed

settled_parts : (sends : Sends) (line : ℕ) (bus : Bus) (committed state : State) (meter : Identity) (address : Option ℕ) (stage : Stage) (tries settled : ℕ)
    → Agrees sends line bus committed state (record { meter = meter; address = address; stage = stage; tries = tries; settled = settled })
    → AgreesOn sends line bus state state (settled_at stage (record { meter = meter; address = address; stage = stage; tries = tries; settled = settled }))
settled_parts sends line bus committed state meter address Resets tries settled a =
    record { row = a.row; found = a.found; on_line = a.on_line; steps = a.steps; unbegun = a.unbegun; first = a.first; kept = λ some. absurd (omega (arith, some)); out = a.out }
settled_parts sends line bus committed state meter address Selects tries settled a =
    record { row = a.row; found = a.found; on_line = a.on_line; steps = a.steps; unbegun = a.unbegun; first = a.first; kept = λ some. absurd (omega (arith, some)); out = a.out }
settled_parts sends line bus committed state meter address Requests tries settled a = record {
  row = a.row;
  found = a.found;
  on_line = a.on_line;
  steps = a.steps;
  unbegun = a.unbegun;
  first = a.first;
  kept = λ some. let f = a.first some in record { row = a.row; found = a.found; counted = f.counted; sent = f.sent };
  out = a.out;
}
settled_parts sends line bus committed state meter address (Pending true) tries settled a = record {
  row = a.row;
  found = a.found;
  on_line = a.on_line;
  steps = λ i x at own hears. inl (next_step settled x.position (a.steps i x at own hears));
  unbegun = tt;
  first = a.first;
  kept = λ some. let f = a.first some in record { row = a.row; found = a.found; counted = f.counted; sent = f.sent };
  out = λ bytes e. let o = a.out bytes e in absurd (let x = o.asks in cc);
}
settled_parts sends line bus committed state meter address (Pending false) tries settled a = tt
settled_parts sends line bus committed state meter address Ended tries settled a =
    record { row = a.row; found = a.found; on_line = a.on_line; steps = a.steps; unbegun = a.unbegun; first = a.first; kept = λ some. absurd (omega (arith, some)); out = a.out }

pub settled_agrees : (sends : Sends) (line : ℕ) (bus : Bus) (committed state : State) (session : Option Summary) → AgreesOn sends line bus committed state session → AgreesOn sends line bus state state (settled_on session)
settled_agrees sends line bus committed state None a = tt
settled_agrees sends line bus committed state (Some s) a = settled_parts sends line bus committed state s.meter s.address s.stage s.tries s.settled a
