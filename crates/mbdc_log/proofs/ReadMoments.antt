-- What calls that only read may leave at any moment: an image of the disk as it was.
use Rattle.std.proofs.Common.{◌≡◌, ◌≤◌, ℕ, Result, Ok, Err, subst, sym, ◌∙◌, refl}
use Rattle.std.specs.Prelude.{IfErr}
use Rattle.dc_sectors.specs.Disk.{Image, Choices, IsImage, settled}
use Rattle.dc_sectors.specs.Images.{settled_image}
use Rattle.dc_sectors.specs.declared.device.Disk.{Ghosts}
use Rattle.dc_sectors.specs.Runs.{Passes, LeavesOnly, OnlyLooked}
use Rattle.dc_sectors.proofs.Moments.{started, goes_on, followed, stopped_after}

-- what holds of each error holds of an answer's
pub if_err : {T E : Type 0} (P : E → Type 0) (r : Result T E) → ((fault : E) → P fault) → IfErr r P
if_err P (Ok done) all = tt
if_err P (Err fault) all = all fault

module _ {D : Type 0} (g : Ghosts D) where
  -- one call more
  pub read_on : (old mid new : D) → LeavesOnly g old mid (IsImage (g.choices old)) → g.choices mid ≡ g.choices old
      → LeavesOnly g mid new (IsImage (g.choices mid)) → LeavesOnly g old new (IsImage (g.choices old))
  read_on old mid new first same second =
      followed g old mid new (IsImage (g.choices old)) (IsImage (g.choices mid)) (IsImage (g.choices old)) first second
      (λ image is. is) (λ image is. subst (λ (c : Choices). IsImage c image) same is)

  -- no call yet
  pub not_read : (old : D) → ((image : Image) → g.images_since old (g.moment old) image → IsImage (g.choices old) image) → LeavesOnly g old old (IsImage (g.choices old))
  not_read old only = started g old (IsImage (g.choices old)) only

  -- a sync after a run of calls, whatever it answers; the premise on the images is the trait's counts_now
  pub synced_behind : (old mid new : D) (P : Image → Type 0) → ((t : ℕ) (image : Image) → t ≤ g.moment mid → IsImage (g.choices mid) image → g.images_since mid t image)
      → LeavesOnly g old mid P → Passes g mid new (IsImage (g.choices mid)) → LeavesOnly g old new P
  synced_behind old mid new P counts run time =
      goes_on g old mid new P (IsImage (g.choices mid)) run time (stopped_after g old mid P run counts)

  module _ (old : D) (only : (image : Image) → g.images_since old (g.moment old) image → IsImage (g.choices old) image) where
    -- a sync, whatever it answers
    pub synced : (new : D) → Passes g old new (IsImage (g.choices old)) → LeavesOnly g old new (IsImage (g.choices old))
    synced new time = goes_on g old old new (IsImage (g.choices old)) (IsImage (g.choices old)) (not_read old only) time (λ image is. is)

    -- a sync that succeeded, and then calls that only read
    pub synced_read : (mid new : D) → IsImage (g.choices old) (g.reads old)
        → Passes g old mid (IsImage (g.choices old))
        → g.choices mid ≡ settled (g.reads old) → LeavesOnly g mid new (IsImage (g.choices mid)) → LeavesOnly g old new (IsImage (g.choices old))
    synced_read mid new reads_a_choice time is_settled reading =
        followed g old mid new (IsImage (g.choices old)) (IsImage (g.choices mid)) (IsImage (g.choices old)) (synced mid time) reading
        (λ image is. is)
        (λ image is.
        let same : image ≡ g.reads old = settled_image (g.reads old) image (subst (λ (c : Choices). IsImage c image) is_settled is) in
        subst (IsImage (g.choices old)) (sym same) reads_a_choice)

module _ {D : Type 0} (g : Ghosts D) where
  -- one call more that only looked
  pub looked_on : (old mid new : D) → OnlyLooked g old mid → OnlyLooked g mid new
      → OnlyLooked g old new
  looked_on old mid new first second = record {
    reads_same = second.reads_same ∙ first.reads_same;
    choices_same = second.choices_same ∙ first.choices_same;
    any_moment = read_on g old mid new first.any_moment first.choices_same second.any_moment;
    before = λ kept. first.before (second.before kept);
  }

  -- one call that only looked; the premise on the images is the trait's only_now
  pub looked_once : (old new : D) → ((image : Image) → g.images_since old (g.moment old) image → IsImage (g.choices old) image)
      → g.reads new ≡ g.reads old → g.choices new ≡ g.choices old → Passes g old new (IsImage (g.choices old)) → (g.keeps new → g.keeps old) → OnlyLooked g old new
  looked_once old new only reads choices time before = record {
    reads_same = reads;
    choices_same = choices;
    any_moment = synced g old only new time;
    before = before;
  }

  -- no call
  pub looked_never : (old : D) → ((image : Image) → g.images_since old (g.moment old) image → IsImage (g.choices old) image) → OnlyLooked g old old
  looked_never old only = record { reads_same = refl; choices_same = refl; any_moment = not_read g old only; before = λ kept. kept }
