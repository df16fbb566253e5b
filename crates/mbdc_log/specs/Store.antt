-- What a store keeps beside its disk: this product.
use Rattle.std.specs.Prelude.{◌≡◌, ◌≤◌, ◌+◌, ℕ, Bool, false}
use Rattle.dc_sectors.specs.declared.device.Disk.{Ghosts}
use Rattle.dc_sectors.specs.Runs.{IsSettled}
use Rattle.dc_roots.specs.declared.root.Root.{Root}
use Rattle.dc_pages.specs.Draft.{FitsAt}
use Rattle.mbdc_log.specs.Halves.{half_of, half_len_of, half_start, half_end, fewest_sectors}
use Rattle.mbdc_log.specs.Stands.{image_version, IsReady}
use Rattle.mbdc_io.specs.declared.kept.kept.Language.{Ghosts as Language}

-- its disk, the root in force, the place of the next group, the sequence of the last one, and whether a failure has
-- stopped it
pub record Opened (D : Type 0) : Type 0 where
  pub disk : D
  pub root : Root
  pub place : ℕ
  pub last : ℕ
  pub is_stopped : Bool

-- the place lies in the half in use, and the halves on the disk
pub record IsLaidOut (sectors : ℕ) (root : Root) (place : ℕ) : Type 0 where
  pub enough : fewest_sectors ≤ sectors
  pub half : root.half ≤ 1
  pub from : half_start (half_len_of sectors) root.half ≤ place
  pub within : place ≤ half_end (half_len_of sectors) root.half

-- a group of this many bytes fits after the place
abbrev pub Fits : {D : Type 0} → ℕ → Opened D → ℕ → Type 0
Fits sectors store len = FitsAt store.place (half_end (half_len_of sectors) store.root.half) len

module _ {K : Type 0} (lang : Language K) where
  -- THE STORE KEEPS THE STATE: it isn't stopped, its image has the version that is written, its disk is settled, and
  -- its one image stands for the state and is ready for the next group.
  pub record Keeps {D : Type 0} (g : Ghosts D) (store : Opened D) (state : lang.State) : Type 0 where
    pub running : store.is_stopped ≡ false
    pub version : store.root.version ≡ image_version
    pub is_settled : IsSettled g store.disk
    pub m : ℕ
    pub ready : IsReady lang (half_of g store.disk) store.root m store.place state (g.reads store.disk)
    pub last_is : store.last ≡ store.root.base_sequence + m
