-- What an exchange keeps of a running session and its meter.
use Rattle.std.proofs.Common.{◌≡◌, ℕ, ◌+◌, ◌-◌, ◌⊎◌, inl, inr, Bool, true, false, ◌||◌, List, Option, Some, None, Ok, cond, ◌==◌, arith, refl, sym, ◌∙◌, ap, subst}
use Rattle.std.specs.Prelude.{slice_get}
use Rattle.std.proofs.lemmas.Bool.{eq-eqb, eqb-true, ne_eqb, false≢true}
use Rattle.dc_linkframe.specs.Frame.{FrameSeen, ack, short, long}
use Rattle.dc_linkframe.specs.Control.{selected}
use Rattle.dc_linkframe.specs.Reading.{frame_of}
use Rattle.dc_address.specs.declared.identity.Identity.{Identity}
use Rattle.dc_address.specs.Mask.{mask_of, matches}
use Rattle.dc_address.proofs.Masks.{matches-mask_of}
use Rattle.dc_records.specs.Body.{continues}
use Rattle.dc_records.specs.Telegram.{Parsed, telegram_at}
use Rattle.dc_records.proofs.Spellings.Telegrams.{telegram_takes}
use Rattle.dc_readout.specs.declared.stage.Stage.{Stage}
use Rattle.dc_readout.specs.declared.stage.Stage.TheVariants.{Resets, Selects, Requests, Pending, Ended}
use Rattle.dc_readout.specs.Answer.{acknowledged, answered, to_command, to_request}
use Rattle.dc_readout.specs.Summary.{link_address, reset_of, selection_of, request_of, asked_at, meaning_at, after_command}
use Rattle.dc_readout.proofs.Requests.{selection_is_long}
use Rattle.dc_readout.specs.Meter.{Meter, Position, hears_at, moved_by, at_selection, begun_anew, is_own, body_at, response}
use Rattle.dc_readout.specs.declared.world.event.Outcome.{Outcome}
use Rattle.dc_readout.specs.declared.world.event.Outcome.TheVariants.{RequestLost, ReplyLost, ReplyUnreadable, AsSent}
use Rattle.dc_readout.specs.World.{all_moved, positions_after, heard_in, more_in, AreRegular}
use Rattle.dc_readout.proofs.Table.{past_three}
use Rattle.dc_readout.proofs.Taken.{by_body_own}
use Rattle.dc_readout.specs.InStep.{HasGoneOn, HasNotGoneOn, IsInStep, IsAlone, IsNextBody}
use Rattle.dc_readout.proofs.Masks.{masks_are_read}
use Rattle.dc_readout.proofs.Moves.{moved_at, stood_at, heard_from, moved_by-request, answer_to-request, selected_kept, has_gone_on}

-- ---- which meters receive a request

or_cases : (a b : Bool) → (a || b) ≡ true → (a ≡ true) ⊎ (b ≡ true)
or_cases true b e = inl refl
or_cases false b e = inr e

pub own_is : (own : Option ℕ) (address : ℕ) → is_own own address ≡ true → own ≡ Some address
own_is None address e = absurd cc
own_is (Some o) address e = ap Some (eqb-true o address e)

cond_is : (b x : Bool) → cond b x false ≡ true → (b ≡ true) × (x ≡ true)
cond_is true x e = (refl, e)
cond_is false x e = absurd cc

pub not_group : (meters : List Meter) (regular : AreRegular meters) (i address : ℕ) (one : Meter) → slice_get meters i ≡ Some one → one.address ≡ Some address → address ≡ selected → ⊥
not_group meters regular i address one at is group =
    regular.primary i address one at is group

pub hears_only : (meters : List Meter) (regular : AreRegular meters) (address : Option ℕ) (i j : ℕ) (one other : Meter) (p : Position)
    → slice_get meters i ≡ Some one → one.address ≡ address → slice_get meters j ≡ Some other
    → (address ≡ None → p.selected ≡ (j == i)) → hears_at other.address (link_address address) p ≡ true → j ≡ i
hears_only meters regular None i j one other p at whom at' alone e = by (or_cases _ _ e)
  where
    by : (is_own other.address selected ≡ true) ⊎ (p.selected ≡ true) → j ≡ i
    by (inl own) = absurd (not_group meters regular j selected other at' (own_is other.address selected own) refl)
    by (inr group) = eqb-true j i (sym (alone refl) ∙ group)
hears_only meters regular (Some a) i j one other p at whom at' alone e = by (or_cases _ _ e)
  where
    by : (is_own other.address a ≡ true) ⊎ (cond (a == selected) p.selected false ≡ true) → j ≡ i
    by (inl own) = regular.addresses j i a other one at' at (own_is other.address a own) whom
    by (inr group) = absurd (not_group meters regular i a one at whom (eqb-true a selected (cond_is _ _ group).0))

pub own_hears : (address : Option ℕ) (one : Meter) (p : Position) → one.address ≡ address → (address ≡ None → p.selected ≡ true) → hears_at one.address (link_address address) p ≡ true
own_hears None one p whom alone = rw (whom, alone refl) refl
own_hears (Some a) one p whom alone = rw (whom, eq-eqb a a refl) refl

pub own_goes_on : (address : Option ℕ) (n : ℕ) (one : Meter) (p : Position) → one.address ≡ address → (address ≡ None → p.selected ≡ true)
    → HasNotGoneOn n p ⊎ HasGoneOn n p → HasGoneOn n (moved_by (request_of address n) one p)
own_goes_on address n one p whom alone step =
    let moved = moved_by-request n (link_address address) one p in
    let hears = own_hears address one p whom alone in
    subst (HasGoneOn n) (sym (rw hears at moved)) (has_gone_on n p step)

-- ---- being alone

pub alone_at : (address : Option ℕ) (i : ℕ) (positions : List Position) → IsAlone Requests address i positions
    → (j : ℕ) (p : Position) → slice_get positions j ≡ Some p → address ≡ None → p.selected ≡ (j == i)
alone_at None i positions alone j p at none = alone j p at
alone_at (Some a) i positions alone j p at none = absurd cc

pub own_selected : (address : Option ℕ) (i : ℕ) (positions : List Position) → IsAlone Requests address i positions
    → (p : Position) → slice_get positions i ≡ Some p → address ≡ None → p.selected ≡ true
own_selected address i positions alone p at none = alone_at address i positions alone i p at none ∙ eq-eqb i i refl

alone_kept : (meters : List Meter) (address : Option ℕ) (n i : ℕ) (positions : List Position) → IsAlone Requests address i positions
    → IsAlone Requests address i (all_moved (request_of address n) meters positions)
alone_kept meters None n i positions alone = λ j q at.
    let s = stood_at (request_of None n) meters positions j q at in
    ap (λ x. x.selected) (sym s.moved) ∙ selected_kept n selected s.meter s.position ∙ alone j s.position s.stands
alone_kept meters (Some a) n i positions alone = tt

pub alone_pending : (more : Bool) (address : Option ℕ) (i : ℕ) (positions : List Position) → IsAlone Requests address i positions → IsAlone (Pending more) address i positions
alone_pending more None i positions alone = alone
alone_pending more (Some a) i positions alone = alone

-- ---- the meter's position after an exchange

pub record After (meters : List Meter) (stage : Stage) (address : Option ℕ) (n i : ℕ) (positions : List Position) : Type 0 where
  pub position : Position
  pub stands : slice_get positions i ≡ Some position
  pub step : IsInStep stage n position
  pub alone : IsAlone stage address i positions

-- of the whole line after a request
requested : (meters : List Meter) (address : Option ℕ) (n i : ℕ) (one : Meter) (p : Position) (positions : List Position)
    → slice_get meters i ≡ Some one → one.address ≡ address → slice_get positions i ≡ Some p
    → HasNotGoneOn n p ⊎ HasGoneOn n p → IsAlone Requests address i positions
    → After meters Requests address n i (all_moved (request_of address n) meters positions)
requested meters address n i one p positions at whom stands step alone = record {
  position = moved_by (request_of address n) one p;
  stands = moved_at (request_of address n) meters positions i one p at stands;
  step = inr (own_goes_on address n one p whom (own_selected address i positions alone p stands) step);
  alone = alone_kept meters address n i positions alone;
}

reached : (meters : List Meter) (stage : Stage) (identity : Identity) (address : Option ℕ) (n i : ℕ) (frame : FrameSeen) (one : Meter) (p : Position) (positions : List Position)
    → asked_at stage identity address n ≡ Some frame
    → slice_get meters i ≡ Some one → one.address ≡ address → slice_get positions i ≡ Some p
    → IsInStep stage n p → IsAlone stage address i positions
    → After meters stage address n i (all_moved frame meters positions)
reached meters Resets identity address n i frame one p positions asks at whom stands step alone =
    record { position = moved_by frame one p; stands = moved_at frame meters positions i one p at stands; step = step; alone = tt }
reached meters Selects identity None n i frame one p positions asks at whom stands step alone =
    record { position = moved_by frame one p; stands = moved_at frame meters positions i one p at stands; step = step; alone = tt }
reached meters Selects identity (Some a) n i frame one p positions asks at whom stands step alone = absurd alone
reached meters Requests identity address n i frame one p positions asks at whom stands step alone =
    let same : request_of address n ≡ frame = cc in
    subst (λ f. After meters Requests address n i (all_moved f meters positions)) same (requested meters address n i one p positions at whom stands step alone)
reached meters (Pending more) identity address n i frame one p positions asks at whom stands step alone = absurd cc
reached meters Ended identity address n i frame one p positions asks at whom stands step alone = absurd cc

-- whatever the line did, the stage is the same
pub stays : (outcome : Outcome) (meters : List Meter) (stage : Stage) (identity : Identity) (address : Option ℕ) (n i : ℕ) (frame : FrameSeen) (one : Meter) (p : Position) (positions : List Position)
    → asked_at stage identity address n ≡ Some frame
    → slice_get meters i ≡ Some one → one.address ≡ address → slice_get positions i ≡ Some p
    → IsInStep stage n p → IsAlone stage address i positions
    → After meters stage address n i (positions_after outcome frame meters positions)
stays RequestLost meters stage identity address n i frame one p positions asks at whom stands step alone =
    record { position = p; stands = stands; step = step; alone = alone }
stays ReplyLost meters stage identity address n i frame one p positions asks at whom stands step alone =
    reached meters stage identity address n i frame one p positions asks at whom stands step alone
stays ReplyUnreadable meters stage identity address n i frame one p positions asks at whom stands step alone =
    reached meters stage identity address n i frame one p positions asks at whom stands step alone
stays AsSent meters stage identity address n i frame one p positions asks at whom stands step alone =
    reached meters stage identity address n i frame one p positions asks at whom stands step alone

-- ---- a command that was acknowledged

pub to_command_ack : (heard : Option FrameSeen) → to_command heard ≡ acknowledged → heard ≡ Some ack
to_command_ack None e = absurd cc
to_command_ack (Some ack) e = refl
to_command_ack (Some (short control sender)) e = absurd cc
to_command_ack (Some (long control sender ci body)) e = absurd cc

acknowledged_sent : (outcome : Outcome) (frame : FrameSeen) (meters : List Meter) (positions : List Position)
    → to_command (frame_of (heard_in outcome frame meters positions)) ≡ acknowledged → outcome ≡ AsSent
acknowledged_sent outcome frame meters positions e =
    (heard_from outcome frame meters positions ack (to_command_ack _ e)).0

reset_own : (a : ℕ) (one : Meter) (p : Position) → one.address ≡ Some a → moved_by (reset_of (Some a)) one p ≡ begun_anew p
unfolding moved_by
reset_own a one p whom = rw (whom, eq-eqb a a refl) refl

pub moved_by-selection : (identity : Identity) (m : Meter) (p : Position) → moved_by (selection_of identity) m p ≡ at_selection (matches (mask_of identity) m.identity) p
unfolding moved_by
moved_by-selection identity m p =
    ap (λ f. moved_by f m p) (selection_is_long identity) ∙ ap (λ b. at_selection b p) (masks_are_read identity m.identity)

selected_when : (b : Bool) (p : Position) (j i : ℕ) → (b ≡ true → i ≡ j) → (j ≡ i → b ≡ true) → (at_selection b p).selected ≡ (j == i)
selected_when true p j i only own = sym (eq-eqb j i (sym (only refl)))
selected_when false p j i only own = sym (ne_eqb j i (λ e. false≢true (own e)))

selected_alone : (meters : List Meter) (regular : AreRegular meters) (i : ℕ) (one : Meter) (positions : List Position) → slice_get meters i ≡ Some one
    → IsAlone Requests None i (all_moved (selection_of one.identity) meters positions)
selected_alone meters regular i one positions at = λ j q there.
    let s = stood_at (selection_of one.identity) meters positions j q there in
    ap (λ x. x.selected) (sym s.moved ∙ moved_by-selection one.identity s.meter s.position)
    ∙ selected_when (matches (mask_of one.identity) s.meter.identity) s.position j i
    (λ is. regular.apart i j one s.meter at s.is_meter is)
    (λ e. let same : s.meter ≡ one = (let e2 : slice_get meters j ≡ Some one = ap (slice_get meters) e ∙ at in let f = s.is_meter in cc) in
    ap (λ m. matches (mask_of one.identity) m.identity) same ∙ matches-mask_of one.identity)

-- a command that was acknowledged began the meter's readout anew
commanded : (meters : List Meter) (regular : AreRegular meters) (outcome : Outcome) (stage : Stage) (address : Option ℕ) (n i : ℕ) (frame : FrameSeen) (one : Meter) (p : Position) (positions : List Position)
    → asked_at stage one.identity address n ≡ Some frame
    → slice_get meters i ≡ Some one → one.address ≡ address → slice_get positions i ≡ Some p
    → IsInStep stage n p → IsAlone stage address i positions
    → meaning_at stage one.identity address n (frame_of (heard_in outcome frame meters positions)) ≡ acknowledged
    → After meters (after_command stage address) address n i (positions_after outcome frame meters positions)
commanded meters regular outcome Resets None n i frame one p positions asks at whom stands step alone e =
    let a = stays outcome meters Resets one.identity None n i frame one p positions asks at whom stands step alone in
    record { position = a.position; stands = a.stands; step = step; alone = tt }
commanded meters regular outcome Resets (Some a) n i frame one p positions asks at whom stands step alone e =
    let sent = acknowledged_sent outcome frame meters positions e in
    let same : reset_of (Some a) ≡ frame = cc in
    subst (λ o. After meters Requests (Some a) n i (positions_after o frame meters positions)) (sym sent)
    (subst (λ f. After meters Requests (Some a) n i (all_moved f meters positions)) same
    (subst (λ k. After meters Requests (Some a) k i (all_moved (reset_of (Some a)) meters positions)) (sym step) (record {
      position = begun_anew p;
      stands = moved_at (reset_of (Some a)) meters positions i one p at stands ∙ ap Some (reset_own a one p whom);
      step = inl (refl, refl);
      alone = tt;
    })))
commanded meters regular outcome Selects None n i frame one p positions asks at whom stands step alone e =
    let sent = acknowledged_sent outcome frame meters positions e in
    let same : selection_of one.identity ≡ frame = cc in
    subst (λ o. After meters Requests None n i (positions_after o frame meters positions)) (sym sent)
    (subst (λ f. After meters Requests None n i (all_moved f meters positions)) same
    (subst (λ k. After meters Requests None k i (all_moved (selection_of one.identity) meters positions)) (sym step) (record {
      position = at_selection true p;
      stands = moved_at (selection_of one.identity) meters positions i one p at stands
          ∙ ap Some (moved_by-selection one.identity one p ∙ ap (λ b. at_selection b p) (matches-mask_of one.identity));
      step = inl (refl, refl);
      alone = selected_alone meters regular i one positions at;
    })))
commanded meters regular outcome Selects (Some a) n i frame one p positions asks at whom stands step alone e = absurd alone
commanded meters regular outcome Requests address n i frame one p positions asks at whom stands step alone e =
    stays outcome meters Requests one.identity address n i frame one p positions asks at whom stands step alone
commanded meters regular outcome (Pending more) address n i frame one p positions asks at whom stands step alone e = absurd cc
commanded meters regular outcome Ended address n i frame one p positions asks at whom stands step alone e = absurd cc

pub command_done : (meters : List Meter) (regular : AreRegular meters) (outcome : Outcome) (stage : Stage) (identity : Identity) (address : Option ℕ) (n i : ℕ) (frame : FrameSeen) (one : Meter) (p : Position) (positions : List Position)
    → identity ≡ one.identity → asked_at stage identity address n ≡ Some frame
    → slice_get meters i ≡ Some one → one.address ≡ address → slice_get positions i ≡ Some p
    → IsInStep stage n p → IsAlone stage address i positions
    → meaning_at stage identity address n (frame_of (heard_in outcome frame meters positions)) ≡ acknowledged
    → After meters (after_command stage address) address n i (positions_after outcome frame meters positions)
command_done meters regular outcome stage identity address n i frame one p positions who asks at whom stands step alone e =
    commanded meters regular outcome stage address n i frame one p positions
    (ap (λ x. asked_at stage x address n) (sym who) ∙ asks) at whom stands step alone
    (ap (λ x. meaning_at stage x address n (frame_of (heard_in outcome frame meters positions))) (sym who) ∙ e)

-- ---- a telegram

pub record Long (heard : Option FrameSeen) (t : Parsed) : Type 0 where
  pub control : ℕ
  pub sender : ℕ
  pub ci : ℕ
  pub is : heard ≡ Some (long control sender ci t.body)
  pub whole : telegram_at t.body ≡ Ok t

pub telegram_long : (meter : Identity) (address : Option ℕ) (part : ℕ) (heard : Option FrameSeen) (t : Parsed) → to_request meter address part heard ≡ answered t → Long heard t
telegram_long meter address part None t e = absurd cc
telegram_long meter address part (Some ack) t e = absurd cc
telegram_long meter address part (Some (short control sender)) t e = absurd cc
telegram_long meter address part (Some (long control sender ci body)) t e =
    let own = by_body_own meter part (telegram_at body) t (past_three _ _ _ _ (answered t) (λ w. absurd cc) (λ w. absurd cc) (λ w. absurd cc) e) in
    let same : t.body ≡ body = (telegram_takes body t own.1).body in
    record { control = control; sender = sender; ci = ci; is = ap (λ b. Some (long control sender ci b)) (sym same); whole = ap telegram_at same ∙ own.1 }

pub response_body : (m : Meter) (found : Option (List ℕ)) (control sender ci : ℕ) (body : List ℕ) → response m found ≡ Some (long control sender ci body) → found ≡ Some body
response_body m None control sender ci body e = absurd cc
response_body m (Some b) control sender ci body e = cc

pub cond_some : (b : Bool) (o : Option FrameSeen) (f : FrameSeen) → cond b o None ≡ Some f → (b ≡ true) × (o ≡ Some f)
cond_some true o f e = (refl, e)
cond_some false o f e = absurd cc

pub body_at_next : (n place : ℕ) (bodies : List (List ℕ)) → place ≡ n + 1 → body_at place bodies ≡ slice_get bodies n
body_at_next n place bodies is =
    let more : (place == 0) ≡ false = ne_eqb place 0 (λ e. omega (arith, e, is)) in
    let back : place - 1 ≡ n = omega (arith, is) in
    rw (more, back) refl

-- what the session receives as its next telegram is the body that its meter advanced to
pub next_body : (meters : List Meter) (regular : AreRegular meters) (outcome : Outcome) (identity : Identity) (address : Option ℕ) (n i : ℕ) (one : Meter) (p : Position) (positions : List Position) (t : Parsed)
    → slice_get meters i ≡ Some one → one.address ≡ address → slice_get positions i ≡ Some p
    → HasNotGoneOn n p ⊎ HasGoneOn n p → IsAlone Requests address i positions
    → to_request identity address (n + 1) (frame_of (heard_in outcome (request_of address n) meters positions)) ≡ answered t
    → After meters (Pending (continues t.ending)) address n i (positions_after outcome (request_of address n) meters positions)
    × IsNextBody (Pending (continues t.ending)) n (Some t.body) one.bodies
next_body meters regular outcome identity address n i one p positions t at whom stands step alone e =
    let frame : FrameSeen = request_of address n in
    let l = telegram_long identity address (n + 1) _ t e in
    let h = heard_from outcome frame meters positions (long l.control l.sender l.ci t.body) l.is in
    let x = h.1 in
    let after = requested meters address n i one p positions at whom stands step alone in
    let said = cond_some _ _ _ (sym (answer_to-request n (link_address address) x.meter x.position) ∙ x.answers) in
    let own : x.place ≡ i = hears_only meters regular address i x.place one x.meter x.position at whom x.is_meter (alone_at address i _ after.alone x.place x.position x.stands) said.0 in
    let e1 : slice_get meters i ≡ Some x.meter = ap (slice_get meters) (sym own) ∙ x.is_meter in
    let e2 : slice_get (all_moved frame meters positions) i ≡ Some x.position = ap (slice_get (all_moved frame meters positions)) (sym own) ∙ x.stands in
    let e3 : slice_get (all_moved frame meters positions) i ≡ Some (moved_by frame one p) = moved_at frame meters positions i one p at stands in
    let same_meter : x.meter ≡ one = cc in
    let same_position : x.position ≡ moved_by frame one p = cc in
    let gone : HasGoneOn n (moved_by frame one p) = own_goes_on address n one p whom (own_selected address i positions alone p stands) step in
    let found : body_at x.position.place x.meter.bodies ≡ Some t.body = response_body x.meter _ l.control l.sender l.ci t.body said.1 in
    let place : x.position.place ≡ n + 1 = ap (λ q. q.place) same_position ∙ gone.0 in
    let body : slice_get one.bodies n ≡ Some t.body = ap (λ m. slice_get m.bodies n) (sym same_meter) ∙ sym (body_at_next n x.position.place x.meter.bodies place) ∙ found in (
      subst (λ o. After meters (Pending (continues t.ending)) address n i (positions_after o frame meters positions)) (sym h.0) (record {
        position = moved_by frame one p;
        stands = e3;
        step = gone;
        alone = alone_pending (continues t.ending) address i _ after.alone;
      }),
      (body, ap more_in l.whole),
    )
