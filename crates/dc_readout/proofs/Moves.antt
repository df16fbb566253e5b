-- Meters and their positions, place by place, and what a frame makes of each.
use Rattle.std.proofs.Common.{◌≡◌, ℕ, zero, suc, ◌+◌, ◌⊎◌, inl, inr, Bool, true, false, not, List, [], ◌∷◌, length, Option, Some, None, cond, ◌==◌, arith, refl, sym, ◌∙◌, ap, subst}
use Rattle.std.specs.Prelude.{slice_get}
use Rattle.std.specs.List.{cons_option}
use Rattle.std.proofs.lemmas.Bool.Decides.{nat_tests}
use Rattle.dc_linkframe.specs.Frame.{FrameSeen}
use Rattle.dc_linkframe.specs.Control.{snd_nke, req_ud2, request_to}
use Rattle.dc_linkframe.specs.declared.fault.FrameFault.TheVariants.{Empty}
use Rattle.dc_linkframe.specs.Reading.{frame_of}
use Rattle.dc_linkframe.proofs.Spellings.{frame_of-spelling, frame_of-faulty}
use Rattle.dc_readout.specs.Summary.{request_bit}
use Rattle.dc_readout.specs.Meter.{Meter, Position, moved_by, answer_to, gone_on, same_bit, frame_count_bit, is_request, response, body_at, hears_at}
use Rattle.dc_readout.specs.declared.world.event.Outcome.{Outcome}
use Rattle.dc_readout.specs.declared.world.event.Outcome.TheVariants.{RequestLost, ReplyLost, ReplyUnreadable, AsSent}
use Rattle.dc_readout.specs.World.{all_moved, noise, only_reply, replies, heard_in}
use Rattle.dc_readout.specs.InStep.{bit_after, bit_before, HasGoneOn, HasNotGoneOn}

-- ---- place by place

pub moved_at : (frame : FrameSeen) (meters : List Meter) (positions : List Position) (i : ℕ) (m : Meter) (p : Position)
    → slice_get meters i ≡ Some m → slice_get positions i ≡ Some p → slice_get (all_moved frame meters positions) i ≡ Some (moved_by frame m p)
moved_at frame [] positions i m p a b = absurd cc
moved_at frame (x ∷ xs) [] i m p a b = absurd cc
moved_at frame (x ∷ xs) (y ∷ ys) zero m p a b =
    let c : x ≡ m = cc in
    let d : y ≡ p = cc in
    cc
moved_at frame (x ∷ xs) (y ∷ ys) (suc i) m p a b = moved_at frame xs ys i m p a b

pub record Stood (frame : FrameSeen) (meters : List Meter) (positions : List Position) (i : ℕ) (q : Position) : Type 0 where
  pub meter : Meter
  pub position : Position
  pub is_meter : slice_get meters i ≡ Some meter
  pub stands : slice_get positions i ≡ Some position
  pub moved : moved_by frame meter position ≡ q

pub stood_at : (frame : FrameSeen) (meters : List Meter) (positions : List Position) (i : ℕ) (q : Position)
    → slice_get (all_moved frame meters positions) i ≡ Some q → Stood frame meters positions i q
stood_at frame [] positions i q e = absurd cc
stood_at frame (x ∷ xs) [] i q e = absurd cc
stood_at frame (x ∷ xs) (y ∷ ys) zero q e = record { meter = x; position = y; is_meter = refl; stands = refl; moved = cc }
stood_at frame (x ∷ xs) (y ∷ ys) (suc i) q e =
    let s = stood_at frame xs ys i q e in
    record { meter = s.meter; position = s.position; is_meter = s.is_meter; stands = s.stands; moved = s.moved }

pub length-moved : (frame : FrameSeen) (meters : List Meter) (positions : List Position) → length positions ≡ length meters → length (all_moved frame meters positions) ≡ length meters
length-moved frame [] positions e = refl
length-moved frame (x ∷ xs) [] e = absurd (omega arith)
length-moved frame (x ∷ xs) (y ∷ ys) e = let rest = length-moved frame xs ys (omega arith) in omega arith

-- ---- who answers

pub record Answers (frame : FrameSeen) (meters : List Meter) (positions : List Position) (reply : FrameSeen) : Type 0 where
  pub place : ℕ
  pub meter : Meter
  pub position : Position
  pub is_meter : slice_get meters place ≡ Some meter
  pub stands : slice_get positions place ≡ Some position
  pub answers : answer_to frame meter position ≡ Some reply

head_or : (frame : FrameSeen) (x : Meter) (y : Position) (xs : List Meter) (ys : List Position) (g : FrameSeen) (more : List FrameSeen) (o : Option FrameSeen)
    → answer_to frame x y ≡ o → cons_option o (replies frame xs ys) ≡ g ∷ more
    → (replies frame xs ys ≡ g ∷ more → Answers frame xs ys g) → Answers frame (x ∷ xs) (y ∷ ys) g
head_or frame x y xs ys g more None is e later =
    let s = later e in
    record { place = suc s.place; meter = s.meter; position = s.position; is_meter = s.is_meter; stands = s.stands; answers = s.answers }
head_or frame x y xs ys g more (Some r) is e later =
    let same : r ≡ g = cc in
    record { place = zero; meter = x; position = y; is_meter = refl; stands = refl; answers = is ∙ ap Some same }

answered_by : (frame : FrameSeen) (xs : List Meter) (ys : List Position) (g : FrameSeen) (more : List FrameSeen) → replies frame xs ys ≡ g ∷ more → Answers frame xs ys g
answered_by frame [] ys g more e = absurd cc
answered_by frame (x ∷ xs) [] g more e = absurd cc
answered_by frame (x ∷ xs) (y ∷ ys) g more e =
    head_or frame x y xs ys g more (answer_to frame x y) refl e (answered_by frame xs ys g more)

pub no_frame_of_nothing : frame_of [] ≡ None
no_frame_of_nothing = frame_of-faulty [] Empty refl

pub no_frame_of_zero : frame_of noise ≡ None
unfolding frame_of
no_frame_of_zero = refl

only_one : (rs : List FrameSeen) (g : FrameSeen) → frame_of (only_reply rs) ≡ Some g → rs ≡ g ∷ []
only_one [] g e = absurd (let n = no_frame_of_nothing in cc)
only_one (r ∷ []) g e =
    let s : Some r ≡ Some g = sym (frame_of-spelling r) ∙ e in
    let same : r ≡ g = cc in
    ap (λ x. x ∷ []) same
only_one (r ∷ other ∷ more) g e = absurd (let n = no_frame_of_zero in cc)

-- what is received as a frame is the reply of one meter that the request reached
pub heard_from : (outcome : Outcome) (frame : FrameSeen) (meters : List Meter) (positions : List Position) (g : FrameSeen)
    → frame_of (heard_in outcome frame meters positions) ≡ Some g
    → (outcome ≡ AsSent) × Answers frame meters (all_moved frame meters positions) g
heard_from RequestLost frame meters positions g e = absurd (let n = no_frame_of_nothing in cc)
heard_from ReplyLost frame meters positions g e = absurd (let n = no_frame_of_nothing in cc)
heard_from ReplyUnreadable frame meters positions g e = absurd (let n = no_frame_of_zero in cc)
heard_from AsSent frame meters positions g e =
    (refl, answered_by frame meters (all_moved frame meters positions) g [] (only_one (replies frame meters (all_moved frame meters positions)) g e))

-- ---- what a request makes of a meter

bit_of : (b : Bool) → frame_count_bit (req_ud2 b) ≡ Some b
bit_of true = refl
bit_of false = refl

no_reset : (b : Bool) → (req_ud2 b == snd_nke) ≡ false
no_reset true = refl
no_reset false = refl

a_request : (b : Bool) → is_request (req_ud2 b) ≡ true
a_request true = refl
a_request false = refl

pub moved_by-data : (bit : Bool) (address : ℕ) (m : Meter) (p : Position)
    → moved_by (request_to bit address) m p ≡ cond (hears_at m.address address p) (gone_on (Some bit) p) p
unfolding moved_by
moved_by-data bit address m p = rw (no_reset bit, bit_of bit) refl

pub moved_by-request : (n address : ℕ) (m : Meter) (p : Position)
    → moved_by (request_to (request_bit n) address) m p ≡ cond (hears_at m.address address p) (gone_on (Some (bit_after n)) p) p
moved_by-request n address m p = moved_by-data (request_bit n) address m p

pub answer_to-data : (bit : Bool) (address : ℕ) (m : Meter) (p : Position)
    → answer_to (request_to bit address) m p ≡ cond (hears_at m.address address p) (response m (body_at p.place m.bodies)) None
unfolding answer_to
answer_to-data bit address m p = rw (no_reset bit, a_request bit) refl

pub answer_to-request : (n address : ℕ) (m : Meter) (p : Position)
    → answer_to (request_to (request_bit n) address) m p ≡ cond (hears_at m.address address p) (response m (body_at p.place m.bodies)) None
answer_to-request n address m p = answer_to-data (request_bit n) address m p

gone_selected : (same : Bool) (b : Bool) (p : Position) → (cond same p (record p { place = p.place + 1; bit = Some b })).selected ≡ p.selected
gone_selected true b p = refl
gone_selected false b p = refl

-- a request selects and deselects none
pub selected_kept : (n address : ℕ) (m : Meter) (p : Position) → (moved_by (request_to (request_bit n) address) m p).selected ≡ p.selected
selected_kept n address m p =
    ap (λ q. q.selected) (moved_by-request n address m p) ∙ go (hears_at m.address address p)
  where
    go : (h : Bool) → (cond h (gone_on (Some (bit_after n)) p) p).selected ≡ p.selected
    go true = gone_selected (same_bit p.bit (bit_after n)) (bit_after n) p
    go false = refl

-- ---- the frame count bit

bit_turns : (k : ℕ) → bit_after (suc k) ≡ not (bit_after k)
bit_turns k = grind (arith, nat_tests)

other_bit : (b : Bool) → same_bit (Some b) (not b) ≡ false
other_bit true = refl
other_bit false = refl

own_bit : (b : Bool) → same_bit (Some b) b ≡ true
own_bit true = refl
own_bit false = refl

new_bit : (n : ℕ) → same_bit (bit_before n) (bit_after n) ≡ false
new_bit zero = refl
new_bit (suc k) = ap (same_bit (Some (bit_after k))) (bit_turns k) ∙ other_bit (bit_after k)

pub goes_on : (n : ℕ) (p : Position) → HasNotGoneOn n p → HasGoneOn n (gone_on (Some (bit_after n)) p)
goes_on n p not_yet =
    let other : same_bit p.bit (bit_after n) ≡ false = ap (λ b. same_bit b (bit_after n)) not_yet.1 ∙ new_bit n in
    rw other (ap (λ k. k + 1) not_yet.0, refl)

pub repeats : (n : ℕ) (p : Position) → HasGoneOn n p → gone_on (Some (bit_after n)) p ≡ p
repeats n p gone =
    let same : same_bit p.bit (bit_after n) ≡ true = ap (λ b. same_bit b (bit_after n)) gone.1 ∙ own_bit (bit_after n) in
    rw same refl

pub has_gone_on : (n : ℕ) (p : Position) → HasNotGoneOn n p ⊎ HasGoneOn n p → HasGoneOn n (gone_on (Some (bit_after n)) p)
has_gone_on n p (inl not_yet) = goes_on n p not_yet
has_gone_on n p (inr gone) = subst (HasGoneOn n) (sym (repeats n p gone)) gone
