-- The frame that a session sends, and when a meter may take it.
use Rattle.std.specs.Prelude.{◌≡◌, ◌<◌, ◌≤◌, ℕ, true, List, Option, Some}
use Rattle.dc_linkframe.specs.Control.{reset_to, request_to}
use Rattle.dc_linkframe.specs.Frame.{FrameSeen}
use Rattle.dc_readout.specs.Answer.{max_parts}
use Rattle.dc_readout.specs.Summary.{selection_of, asked_by}
use Rattle.dc_readout.specs.declared.world.request.Request.{Request}
use Rattle.dc_readout.specs.declared.world.request.Request.TheVariants.{Reset, Select, Data}
use Rattle.dc_readout.specs.Meter.{Meter, Position, hears_at}
use Rattle.dc_readout.specs.World.{World, Running, AreRegular}
use Rattle.dc_readout.specs.InStep.{Agrees}

abbrev pub frame_asked : Request → FrameSeen
frame_asked (Reset address) = reset_to address
frame_asked (Select identity) = selection_of identity
frame_asked (Data bit address) = request_to bit address

-- a meter that takes this request as its own is within the parts of a readout
abbrev pub MayGoOn : Request → Option ℕ → Position → Type 0
MayGoOn (Reset address) own p = Unit {0}
MayGoOn (Select identity) own p = Unit {0}
MayGoOn (Data bit address) own p = hears_at own address p ≡ true → p.place ≤ max_parts

-- On a line of regular meters at these positions, a session with the meter at this place sends this
-- frame.
pub record Asks (meters : List Meter) (positions : List Position) (place : ℕ)
    (frame : FrameSeen) : Type 0 where
  pub world : World
  pub running : Running
  pub regular : AreRegular meters
  pub agrees : Agrees meters world running
  pub asks : asked_by running.session ≡ Some frame
  pub left : running.session.settled < max_parts
  pub positions_are : world.positions ≡ positions
  pub place_is : running.meter ≡ place
