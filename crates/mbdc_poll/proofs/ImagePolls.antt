-- A life of the concentrator from the disk to the disk.
use Rattle.std.proofs.Common.{◌≡◌, List, [], Result, Ok, Err}
use Rattle.std.specs.Prelude.{IfErr, IfOk}
use Rattle.mbdc_change.specs.State.{State}
use Rattle.dc_core.specs.Core.{Core}
use Rattle.dc_core.specs.Images.{Machine}
use Rattle.dc_core.specs.OpenedOn.{IsOpenedOn}
use Rattle.dc_sectors.specs.declared.device.Disk.{Ghosts}
use Rattle.mbdc_ending.specs.Fault.{IfOpen}
use Rattle.mbdc_ending.specs.declared.fault.ProgramFault.{ProgramFault}
use Rattle.mbdc_ending.specs.declared.fault.ProgramFault.TheVariants.{Read, TooLong, Write, NoMemory, Open}
use Rattle.mbdc_log.specs.declared.fault.OpenFault.{OpenFault}
use Rattle.mbdc_poll.specs.Happening.{Happening}
use Rattle.mbdc_poll.specs.ImagePoll.{ImageTurned}
use Rattle.mbdc_poll.specs.Round.{Happens}

module _ {D : Type 0} (g : Ghosts D) (disk new : D) (state : State) (first last : Machine D) where
  pub turned : (such : Core → List Happening → Type 0) → IsOpenedOn g disk state first → Happens g first.store.disk state [] such first last → new ≡ last.store.disk → ImageTurned g such disk new
  turned such opening happens is = record { state = state; first = first; last = last; opening = opening; happens = happens; disk_is = is }

  pub turned_ok : {X E : Type 0} (result : Result X E) (such : X → Core → List Happening → Type 0) → IsOpenedOn g disk state first → Happens g first.store.disk state [] (λ core happened. IfOk result (λ x. such x core happened)) first last → new ≡ last.store.disk
      → IfOk result (λ x. ImageTurned g (such x) disk new)
  turned_ok (Ok x) such opening happens is = turned (such x) opening happens is
  turned_ok (Err e) such opening happens is = tt

-- where no fault is of an opening, whatever is stated of one
pub none_opened : {X : Type 0} (result : Result X ProgramFault) (said : OpenFault → Type 0) → IfErr result (λ fault. IfOpen fault (λ e. ⊥)) → IfErr result (λ fault. IfOpen fault said)
none_opened (Ok x) said none = tt
none_opened (Err Read) said none = tt
none_opened (Err TooLong) said none = tt
none_opened (Err Write) said none = tt
none_opened (Err NoMemory) said none = tt
none_opened (Err (Open fault)) said none = absurd none
