-- A lossy line and a line in time are bus lines of a house.
use Rattle.std.proofs.Common.{◌≡◌, ◌⊎◌, inl, inr, ℕ, zero, suc, List, [], ◌∷◌, map, Option, Some, None, refl, sym, ◌∙◌, ap, subst}
use Rattle.std.specs.Prelude.{slice_get}
use Rattle.dc_linkframe.specs.Frame.{FrameSeen}
use Rattle.dc_linkframe.specs.Reading.{frame_of}
use Rattle.dc_readout.specs.declared.world.event.Outcome.{Outcome}
use Rattle.dc_readout.specs.declared.world.event.Outcome.TheVariants.{RequestLost, ReplyLost, ReplyUnreadable, AsSent}
use Rattle.mbdc_bus.specs.WorldLine.{seen_by}
use Rattle.dc_readout.specs.Meter.{Meter, Position}
use Rattle.dc_readout.specs.World.{all_moved, heard_in, positions_after}
use Rattle.dc_readout.proofs.Moves.{heard_from, no_frame_of_nothing, no_frame_of_zero}
use Rattle.mbdc_theorems.specs.House.{Bus, IsExchanged, not_seen, not_heard, reply_heard, standings, IsHeardOf, LossyLinesAreBuses}

all_stand : (frame : FrameSeen) (meters : List Meter) (positions : List Position) → standings meters (all_moved frame meters positions) ≡ map (seen_by frame) (standings meters positions)
all_stand frame [] positions = refl
all_stand frame (m ∷ meters) [] = refl
all_stand frame (m ∷ meters) (p ∷ positions) = ap (λ rest. seen_by frame (record { meter = m; position = p }) ∷ rest) (all_stand frame meters positions)

stands_at : (meters : List Meter) (positions : List Position) (i : ℕ) (m : Meter) (p : Position) → slice_get meters i ≡ Some m → slice_get positions i ≡ Some p → slice_get (standings meters positions) i ≡ Some (record { meter = m; position = p })
stands_at [] positions i m p a b = absurd cc
stands_at (x ∷ meters) [] i m p a b = absurd cc
stands_at (x ∷ meters) (y ∷ positions) zero m p a b =
    let one : x ≡ m = cc in
    let other : y ≡ p = cc in
    ◌∙◌ {b = Some (record { meter = m; position = y })} (ap (λ z. Some (record { meter = z; position = y })) one) (ap (λ z. Some (record { meter = m; position = z })) other)
stands_at (x ∷ meters) (y ∷ positions) (suc i) m p a b = stands_at meters positions i m p a b

module _ (meters : List Meter) (positions : List Position) (waits : Option (List ℕ)) (frame : FrameSeen) (bytes : List ℕ) where
  abbrev old : Bus
  old = record { meters = standings meters positions; answer = waits }

  abbrev after_it : List Position → Bus
  after_it later = record { meters = standings meters later; answer = Some bytes }

  moved : after_it (all_moved frame meters positions) ≡ record { meters = map (seen_by frame) (standings meters positions); answer = Some bytes }
  moved = ap (λ ms. record { meters = ms; answer = Some bytes }) (all_stand frame meters positions)

  unheard : frame_of bytes ≡ None → IsExchanged frame old (after_it (all_moved frame meters positions))
  unheard none = not_heard bytes none moved

  by_frame : bytes ≡ heard_in AsSent frame meters positions → (found : Option FrameSeen) → frame_of bytes ≡ found → IsExchanged frame old (after_it (all_moved frame meters positions))
  by_frame is None e = unheard e
  by_frame is (Some reply) e =
      let h = (heard_from AsSent frame meters positions reply (ap frame_of (sym is) ∙ e)).1 in
      let there = stands_at meters (all_moved frame meters positions) h.place h.meter h.position h.is_meter h.stands in
      reply_heard bytes reply e (record {
        place = h.place;
        one = record { meter = h.meter; position = h.position };
        there = ap (λ ms. slice_get ms h.place) (sym (all_stand frame meters positions)) ∙ there;
        answers = h.answers;
      }) moved

  exchange : (outcome : Outcome) → IsHeardOf outcome frame meters positions bytes → IsExchanged frame old (after_it (positions_after outcome frame meters positions))
  exchange RequestLost (inl none) = not_seen bytes none refl
  exchange RequestLost (inr is) = not_seen bytes (ap frame_of is ∙ no_frame_of_nothing) refl
  exchange ReplyLost (inl none) = unheard none
  exchange ReplyLost (inr is) = unheard (ap frame_of is ∙ no_frame_of_nothing)
  exchange ReplyUnreadable (inl none) = unheard none
  exchange ReplyUnreadable (inr is) = unheard (ap frame_of is ∙ no_frame_of_zero)
  exchange AsSent (inl none) = unheard none
  exchange AsSent (inr is) = by_frame is (frame_of bytes) refl

pub lossy_lines_are_buses : LossyLinesAreBuses
lossy_lines_are_buses meters positions waits outcome frame bytes heard = exchange meters positions waits frame bytes outcome heard

-- ---- what else may be received

-- a frame that isn't received
unread : (frame : FrameSeen) (was now : Bus) (bytes : List ℕ) → frame_of bytes ≡ None → IsExchanged frame was now → IsExchanged frame was (record now { answer = Some bytes })
unread frame was now bytes none (not_seen before unframed is) = not_seen bytes none (ap (λ (b : Bus). record b { answer = Some bytes }) is)
unread frame was now bytes none (not_heard before unframed is) = not_heard bytes none (ap (λ (b : Bus). record b { answer = Some bytes }) is)
unread frame was now bytes none (reply_heard before reply framed replies is) = not_heard bytes none (ap (λ (b : Bus). record b { answer = Some bytes }) is)

-- no frame, or the very reply that went on the way
pub answered_in_time : (frame : FrameSeen) (was now : Bus) (reply : Option (List ℕ)) (answer : List ℕ) → IsExchanged frame was now → (reply ≡ None) ⊎ (reply ≡ now.answer)
    → (frame_of answer ≡ None) ⊎ (reply ≡ Some answer) → IsExchanged frame was (record now { answer = Some answer })
answered_in_time frame was now reply answer exchanged on_way (inl none) = unread frame was now answer none exchanged
answered_in_time frame was now reply answer exchanged (inl lost) (inr is) = absurd (let no : None ≡ Some answer = sym lost ∙ is in cc)
answered_in_time frame was now reply answer exchanged (inr sent) (inr is) = subst (λ (a : Option (List ℕ)). IsExchanged frame was (record now { answer = a })) (sym sent ∙ is) exchanged
