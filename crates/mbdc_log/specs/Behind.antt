-- Whether a sector is ahead of the state that an image reads as (this product's image format). Opening doesn't depend
-- on it; a program looks before it opens an image.
use Rattle.std.specs.Prelude.{◌≡◌, ◌≤◌, ℕ, suc, ◌+◌, Option, Some, None}
use Rattle.dc_sectors.specs.Disk.{Image}
use Rattle.dc_roots.specs.declared.root.Root.{Root}
use Rattle.mbdc_log.specs.Halves.{longest_half}
use Rattle.mbdc_log.specs.Stands.{IsFirst, ReadsBy, Stands}
use Rattle.mbdc_io.specs.declared.kept.kept.Language.{Ghosts as Language}

module _ {K : Type 0} (lang : Language K) where
  -- The image reads as a state, but a sector is ahead of it: it was written after what is read, by a later session or
  -- in a later group. No crash leaves that: a sector that had been synced was lost.
  pub record IsBehind (half_len n : ℕ) (image : Image) : Type 0 where
    pub root : Root
    pub m : ℕ
    pub place : ℕ
    pub state : lang.State
    pub by : ReadsBy lang half_len root m place state image
    pub first : IsFirst half_len root.session (root.base_sequence + suc m) n image

  -- the image stands for some state, or that sector is the first that is ahead of the state that it reads as
  abbrev pub IsBehindAt : ℕ → Option ℕ → Image → Type 0
  IsBehindAt half_len None image = (state : lang.State) × Stands lang half_len state image
  IsBehindAt half_len (Some n) image = IsBehind half_len n image

  -- THE THEOREM: one answer is right for an image. So no sector is named of an image that stands for a state, as each
  -- image does that a crash leaves (one_behind).
  abbrev pub OneBehind : Type 0
  OneBehind = (half_len : ℕ) → half_len ≤ longest_half → (image : Image) (ahead other : Option ℕ)
      → IsBehindAt half_len ahead image → IsBehindAt half_len other image → ahead ≡ other
