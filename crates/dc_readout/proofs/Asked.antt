-- What a session asks, and what its meter answers.
use Rattle.std.proofs.Common.{◌≡◌, ◌≢◌, ℕ, ◌-◌, ◌<◌, inl, inr, Bool, true, false, List, length, Option, Some, None, ◌==◌, arith, refl, sym, ◌∙◌, ap, subst}
use Rattle.std.specs.Prelude.{slice_get, option_map}
use Rattle.std.proofs.lemmas.Bool.{ne_eqb}
use Rattle.std.proofs.lemmas.Option.{slice_get_within}
use Rattle.dc_linkframe.specs.Control.{snd_nke, req_ud2, request_to}
use Rattle.dc_linkframe.specs.Frame.{FrameSeen, ack, short, spelling}
use Rattle.dc_linkframe.specs.Reading.{frame_of}
use Rattle.dc_linkframe.proofs.Spellings.{frame_of-spelling}
use Rattle.dc_address.specs.declared.identity.Identity.{Identity}
use Rattle.dc_readout.specs.declared.stage.Stage.{Stage}
use Rattle.dc_readout.specs.declared.stage.Stage.TheVariants.{Resets, Selects, Requests, Pending, Ended}
use Rattle.dc_readout.specs.Protocol.{IsRequest}
use Rattle.dc_readout.specs.Summary.{asked_at, request_bit, selection_of, link_address, IsPending}
use Rattle.dc_readout.proofs.Requests.{selection_is_long, request_at}
use Rattle.dc_readout.specs.declared.world.event.Outcome.TheVariants.{AsSent}
use Rattle.dc_readout.specs.declared.world.request.Request.{Request}
use Rattle.dc_readout.specs.declared.world.request.Request.TheVariants.{Reset, Select, Data}
use Rattle.dc_readout.specs.Meter.{Meter, Position, answer_to, body_at, hears_at, moved_by}
use Rattle.dc_readout.specs.World.{World, Running, all_moved, heard_in, more_after}
use Rattle.dc_readout.specs.InStep.{IsNextBody, IsRegularWorld}
use Rattle.dc_readout.specs.Regular.{Fits}
use Rattle.dc_readout.specs.Reply.{bytes_of}
use Rattle.dc_readout.specs.Request.{Asks, MayGoOn, frame_asked}
use Rattle.dc_readout.proofs.Replies.{heard_as_sent, heard_place}
use Rattle.dc_readout.proofs.Moves.{moved_at}

-- ---- the frame that was sent is the one that is asked

pub sent_frame : (asks : Option FrameSeen) (sent : List ℕ) → Some sent ≡ option_map spelling asks → frame_of sent ≡ asks
sent_frame None sent is = absurd cc
sent_frame (Some frame) sent is =
    let same : sent ≡ spelling frame = cc in
    ap frame_of same ∙ frame_of-spelling frame

bit_told : (b : Bool) → (req_ud2 b == req_ud2 true) ≡ b
bit_told true = refl
bit_told false = refl

pub data_asked : (stage : Stage) (meter : Identity) (address : Option ℕ) (n control at : ℕ) → Some (short control at) ≡ asked_at stage meter address n → control ≢ snd_nke
    → Some (request_to (control == req_ud2 true) at) ≡ asked_at stage meter address n
data_asked Resets meter address n control at asks other = absurd (other cc)
data_asked Selects meter address n control at asks other =
    absurd (let is = selection_is_long meter in let same : short control at ≡ selection_of meter = cc in let e = same ∙ is in cc)
data_asked Requests meter address n control at asks other =
    let control_is : control ≡ req_ud2 (request_bit n) = cc in
    let bit : (control == req_ud2 true) ≡ request_bit n = ap (λ c. c == req_ud2 true) control_is ∙ bit_told (request_bit n) in
    let same : at ≡ link_address address = cc in
    ap (λ b. Some (request_to b at)) bit ∙ ap (λ a. Some (request_to (request_bit n) a)) same
data_asked (Pending more) meter address n control at asks other = absurd cc
data_asked Ended meter address n control at asks other = absurd cc

pub never_ack : (stage : Stage) (meter : Identity) (address : Option ℕ) (n : ℕ) → Some ack ≡ asked_at stage meter address n → ⊥
never_ack Resets meter address n asks = cc
never_ack Selects meter address n asks =
    let is = selection_is_long meter in let same : ack ≡ selection_of meter = cc in let e = same ∙ is in cc
never_ack Requests meter address n asks = cc
never_ack (Pending more) meter address n asks = cc
never_ack Ended meter address n asks = cc

-- ---- the meters see it

is_request_to : (bit : Bool) (address : ℕ) → IsRequest (request_to bit address)
is_request_to true address = inl refl
is_request_to false address = inr refl

pub asks_near : (meters : List Meter) (positions : List Position) (place : ℕ) (request : Request) → Asks meters positions place (frame_asked request)
    → (i : ℕ) (m : Meter) (p : Position) → slice_get meters i ≡ Some m → slice_get positions i ≡ Some p → MayGoOn request m.address p
asks_near meters positions place (Reset address) a i m p at stands = tt
asks_near meters positions place (Select identity) a i m p at stands = tt
asks_near meters positions place (Data bit address) a i m p at stands = λ hears.
    let s = a.running.session in
    let r = request_at s.stage s.meter s.address s.settled (request_to bit address) a.asks (is_request_to bit address) in
    let same = r.1 in
    let whom : address ≡ link_address s.address = cc in
    let there : slice_get a.world.positions i ≡ Some p = ap (λ ps. slice_get ps i) a.positions_are ∙ stands in
    let near = heard_place meters a.regular a.world a.running i m p a.agrees r.0 at there (subst (λ k. hears_at m.address k p ≡ true) whom hears) in
    let left = a.left in
    omega arith

-- the meter that is asked, and its position
pub asks_at : (meters : List Meter) (positions : List Position) (place : ℕ) (frame : FrameSeen) (a : Asks meters positions place frame)
    → (slice_get meters place ≡ Some a.agrees.meter) × (slice_get positions place ≡ Some a.agrees.position)
asks_at meters positions place frame a = (
  ap (slice_get meters) (sym a.place_is) ∙ a.agrees.stands.0,
  ap (slice_get positions) (sym a.place_is) ∙ ap (λ ps. slice_get ps a.running.meter) (sym a.positions_are) ∙ a.agrees.stands.1,
)

pub asks_fit : (meters : List Meter) (positions : List Position) (place : ℕ) (frame : FrameSeen) (m : Meter) → Asks meters positions place frame → slice_get meters place ≡ Some m → Fits m.bodies
asks_fit meters positions place frame m a at = λ j body stands. a.regular.fit place j m body at stands

-- what is received as sent is the answer of the meter that is asked
pub asks_heard : (meters : List Meter) (positions : List Position) (place : ℕ) (frame : FrameSeen) (m : Meter) (q : Position) → Asks meters positions place frame
    → slice_get meters place ≡ Some m → slice_get (all_moved frame meters positions) place ≡ Some q
    → bytes_of (answer_to frame m q) ≡ heard_in AsSent frame meters positions
asks_heard meters positions place frame m q a at stands =
    let w = asks_at meters positions place frame a in
    let one : a.agrees.meter ≡ m = (let e = w.0 in cc) in
    let there = moved_at frame meters positions place a.agrees.meter a.agrees.position w.0 w.1 in
    let moved : q ≡ moved_by frame a.agrees.meter a.agrees.position = cc in
    let heard = heard_as_sent meters a.regular a.world a.running frame a.agrees.meter a.agrees.position a.agrees a.asks a.agrees.stands.0 a.agrees.stands.1 in
    ap (λ x. bytes_of (answer_to frame x q)) (sym one) ∙ ap (λ x. bytes_of (answer_to frame a.agrees.meter x)) moved
    ∙ sym heard ∙ ap (heard_in AsSent frame meters) a.positions_are

-- ---- the body at a meter's position

pub body_there : (place : ℕ) (bodies : List (List ℕ)) (body : List ℕ) → place ≢ 0 → slice_get bodies (place - 1) ≡ Some body → body_at place bodies ≡ Some body
body_there place bodies body some at = rw (ne_eqb place 0 some) at

-- ---- the meter of a running session

pub place_within : (meters : List Meter) (w : World) (r : Running) → IsRegularWorld meters w → w.running ≡ Some r → r.meter < length meters
place_within meters w r is runs = slice_get_within meters r.meter (is.agrees r runs).meter (is.agrees r runs).stands.0

pub pending_when : (stage : Stage) (n : ℕ) (body : List ℕ) (bodies : List (List ℕ)) → IsNextBody stage n (Some body) bodies → IsPending stage
pending_when Resets n body bodies waits = absurd cc
pending_when Selects n body bodies waits = absurd cc
pending_when Requests n body bodies waits = absurd cc
pending_when (Pending more) n body bodies waits = tt
pending_when Ended n body bodies waits = absurd cc

pub waits_at : (stage : Stage) (n : ℕ) (body : List ℕ) (bodies : List (List ℕ)) → IsNextBody stage n (Some body) bodies → stage ≡ Pending (more_after body)
waits_at Resets n body bodies waits = absurd cc
waits_at Selects n body bodies waits = absurd cc
waits_at Requests n body bodies waits = absurd cc
waits_at (Pending more) n body bodies waits = ap Pending (sym waits.1)
waits_at Ended n body bodies waits = absurd cc

pub open_within : (meters : List Meter) (w : World) (r : Running) → IsRegularWorld meters w → w.running ≡ Some r → r.meter < length w.parts_open
open_within meters w r is runs =
    let within = place_within meters w r is runs in
    let counted = is.counted.1 in
    omega arith
