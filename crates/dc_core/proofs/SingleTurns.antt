-- Single events, by the calls that they are.
use Rattle.std.proofs.Common.{◌≡◌, ℕ, List, ◌++◌, ap}
use Rattle.dc_sectors.specs.Disk.{Image, IsImage}
use Rattle.dc_sectors.specs.declared.device.Disk.{Ghosts}
use Rattle.dc_sectors.specs.Runs.{LeavesOnly}
use Rattle.dc_sectors.proofs.Moments.{weakened}
use Rattle.mbdc_change.specs.State.{State}
use Rattle.mbdc_log.specs.Halves.{half_of}
use Rattle.dc_core.specs.PendingImages.{StandsForFront}
use Rattle.mbdc_log.proofs.Fronts.{longer_front}
use Rattle.dc_meters.specs.Language.{register}
use Rattle.mbdc_log.specs.Store.{Opened}
use Rattle.dc_core.specs.Core.{opened}
use Rattle.dc_core.specs.Event.{Event, Answer, commits}
use Rattle.dc_core.specs.Images.{Machine, IsAt}
use Rattle.dc_core.specs.Run.{Turned, IsShown, fault_in}
use Rattle.dc_core.specs.Step.{May, next}
use Rattle.dc_core.specs.Transcript.{Turn, leads, IsChain, accepted_by}
use Rattle.dc_core.proofs.Going.{at_rest}
use Rattle.dc_core.specs.Went.{TurnWent}
use Rattle.dc_core.proofs.Wents.{turn_went}

module _ {D : Type 0} (g : Ghosts D) (origin : D) where
  -- a call that leaves the store
  pub rested : (budget : ℕ) (state : State) (before : List Turn) (event : Event) (answer : Answer) (such : Answer → Type 0) (old new : Machine D)
      → IsChain budget (opened state) before → (is_at : IsAt g origin old (leads (opened state) before))
      → (g.keeps origin → (image : Image) → g.images_since old.store.disk (g.moment old.store.disk) image → IsImage (g.choices old.store.disk) image)
      → May budget (leads (opened state) before) event answer → IsAt g origin new (next (leads (opened state) before) event answer)
      → IsShown g old new (fault_in answer) → new.store ≡ old.store → such answer
      → TurnWent g origin budget state before event such old new
  rested budget state before event answer such old new chain is_at only may at shown same is_such =
      let core = leads (opened state) before in
      let turned : Turned g origin budget core event (λ text. Unit {0}) old new = record {
        answer = answer;
        may = may;
        text = tt;
        at = at;
        failed = shown;
        leaves = λ h. at_rest g origin old new core (accepted_by core event answer) is_at h same (only h);
      } in
      turn_went g origin budget state before event such (λ text. Unit {0}) old new chain is_at only turned (ap (λ (kept : Opened D). g.sectors kept.disk) same) is_such

  -- a commit
  pub committed_went : (budget : ℕ) (state : State) (before : List Turn) (answer : Answer) (such : Answer → Type 0) (old new : Machine D)
      → IsChain budget (opened state) before → IsAt g origin old (leads (opened state) before)
      → (g.keeps origin → (image : Image) → g.images_since old.store.disk (g.moment old.store.disk) image → IsImage (g.choices old.store.disk) image)
      → May budget (leads (opened state) before) commits answer → IsAt g origin new (next (leads (opened state) before) commits answer)
      → IsShown g old new (fault_in answer) → g.sectors new.store.disk ≡ g.sectors old.store.disk
      → (g.keeps origin → LeavesOnly g old.store.disk new.store.disk (StandsForFront (half_of g old.store.disk) (leads (opened state) before).committed (leads (opened state) before).pending))
      → such answer → TurnWent g origin budget state before commits such old new
  committed_went budget state before answer such old new chain is_at only may at shown count leaves is_such =
      let core = leads (opened state) before in
      let H = half_of g old.store.disk in
      let turned : Turned g origin budget core commits (λ text. Unit {0}) old new = record {
        answer = answer;
        may = may;
        text = tt;
        at = at;
        failed = shown;
        leaves = λ h. weakened g old.store.disk new.store.disk (StandsForFront H core.committed core.pending) (StandsForFront H core.committed (core.pending ++ accepted_by core commits answer))
            (leaves h) (longer_front register H core.committed core.pending (accepted_by core commits answer));
      } in
      turn_went g origin budget state before commits such (λ text. Unit {0}) old new chain is_at only turned count is_such
