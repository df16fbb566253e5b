-- A line in time as a bus line of a house, and a run of such a line (this product): an acknowledgement is overdue and a
-- telegram late.
use Rattle.std.specs.Prelude.{◌≡◌, ◌⊎◌, ℕ, true, min, List, [], ◌∷◌, Option, Some, None}
use Rattle.std.proofs.Math.Nat.{min-le_right}
use Rattle.dc_linkframe.specs.Control.{request_to, reset_to, variable_data}
use Rattle.dc_linkframe.specs.Frame.{FrameSeen, ack, long, spelling}
use Rattle.dc_readout.specs.Meter.{rsp_ud}
use Rattle.mbdc_raw.specs.Looks.{most_looks}
use Rattle.mbdc_raw.specs.declared.line.Line.{Line}
use Rattle.mbdc_raw.specs.declared.state.State.TheVariants.{Overdue}
use Rattle.mbdc_raw.specs.declared.wire.Wire.{Ghosts as WireGhosts}
use Rattle.mbdc_theorems.specs.Asked.{Asks, IsAlike, IsNew, Runs}
use Rattle.mbdc_theorems.specs.House.{Bus, IsExchanged}
use Rattle.mbdc_theorems.specs.Asked.{OnWay}

-- A LINE IN TIME IS A BUS LINE. The meters of a bus line exchange a request, and what they reply goes on the way, or is
-- lost. Then whatever the line takes for the answer is what the bus line may have received.
abbrev pub LinesInTimeAreBuses : {W : Type 0} → WireGhosts W → Type 0
LinesInTimeAreBuses {W} wire = (line last : Line (OnWay W)) (request answer : List ℕ)
    (frame : FrameSeen) (reply due : Option (List ℕ)) (old new : Bus)
    → IsExchanged frame old new → (reply ≡ None) ⊎ (reply ≡ new.answer)
    → Runs wire line due → IsAlike line request due reply
    → Asks wire request reply line answer last
    → IsExchanged frame old (record new { answer = Some answer })

-- ---- such a run exists

-- a wire that may do anything
abbrev pub any_wire : WireGhosts (Unit {0})
any_wire = record {
  failures = λ wire. 0;
  waits_left = λ wire. min 0 most_looks;
  few = λ wire. min-le_right 0 most_looks;
  sends = λ old request asking new. Unit {0};
  hears = λ old sound new. Unit {0};
  reopens = λ old again new. Unit {0};
}

-- a telegram of 12345678.PAD.01.07, at primary address 1, with this access number: a header without records
abbrev pub telegram_with : ℕ → List ℕ
telegram_with access = spelling (long rsp_ud 1 variable_data
    (0x78 ∷ 0x56 ∷ 0x34 ∷ 0x12 ∷ 0x24 ∷ 0x40 ∷ 1 ∷ 7 ∷ access ∷ 0 ∷ 0 ∷ 0 ∷ []))

-- A RUN OF A NEW LINE: a reset is overdue, and repeated at once; of the two acknowledgements one is still under way. A
-- telegram is requested, and its first bytes are taken as an answer that is no frame, because the telegram comes late.
-- The request is repeated, and of the two telegrams the line takes the one that answers the repeat.
pub record IsMet : Type 0 where
  pub first : Line (OnWay (Unit {0}))
  pub early : Line (OnWay (Unit {0}))
  pub second : Line (OnWay (Unit {0}))
  pub third : Line (OnWay (Unit {0}))
  pub last : Line (OnWay (Unit {0}))
  pub broken : List ℕ
  pub connects : IsNew first
  pub waits : Asks any_wire (spelling (reset_to 1)) (Some (spelling ack)) first [] early
  pub overdue : early.state ≡ Overdue
  pub resets : Asks any_wire (spelling (reset_to 1)) (Some (spelling ack)) early (spelling ack) second
  pub twice : second.wire.way ≡ spelling ack ∷ []
  pub requests : Asks any_wire (spelling (request_to true 1)) (Some (telegram_with 1)) second broken third
  pub late : third.wire.way ≡ telegram_with 1 ∷ []
  pub repeats : Asks any_wire (spelling (request_to true 1)) (Some (telegram_with 2)) third
      (telegram_with 2) last
  pub run : Runs any_wire last (Some (telegram_with 2))
