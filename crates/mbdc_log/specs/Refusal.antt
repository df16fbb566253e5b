-- Why an image isn't opened, as a fact of the image: this product's image format. Opening reads the
-- roots, checks the version and the half length of the one in force, reads the base group, and then
-- each group of changes; the first step that fails gives the fault.
use Rattle.std.specs.Prelude.{◌≡◌, ◌≢◌, ◌⊎◌, ◌≤◌, ◌^◌, ◌-◌, ℕ, suc, ◌+◌, List, Some, None}
use Rattle.dc_sectors.specs.Disk.{Image}
use Rattle.dc_roots.specs.declared.root.Root.{Root}
use Rattle.dc_roots.specs.Root.{slot}
use Rattle.dc_roots.specs.Choice.{IsChosen, IsRootless}
use Rattle.dc_pages.specs.Group.{IsKnown, IsGroup}
use Rattle.dc_pages.specs.Reading.{IsCutAt}
use Rattle.mbdc_log.specs.declared.fault.OpenFault.{OpenFault}
use Rattle.mbdc_log.specs.declared.fault.OpenFault.TheVariants.{NotImage, Damaged, Version, Worn}
use Rattle.mbdc_log.specs.declared.fault.OpenFault.TheVariants.{Device, NoMemory}
use Rattle.mbdc_log.specs.Halves.{half_start, budget_of, longest_half}
use Rattle.mbdc_log.specs.Sites.{base_site, change_site}
use Rattle.mbdc_log.specs.Stands.{image_version, IsSequence, IsCurrent, Holds, ReadsBy, Reads}
use Rattle.mbdc_io.specs.declared.kept.kept.Language.{Ghosts as Language}

-- a root slot can't be read, and the other one has no root
pub record HasNoRoot (n : ℕ) (image : Image) : Type 0 where
  pub rootless : IsRootless (Some n) image

-- the root in force is for halves of another length
pub record HasOtherLength (half_len n : ℕ) (image : Image) : Type 0 where
  pub root : Root
  pub chosen : IsChosen root image
  pub version : IsKnown root.version
  pub other_length : root.half_len ≢ half_len
  pub at : n ≡ slot root.generation

-- the base group isn't complete, and that sector is the first that doesn't fit
pub record HasNoBase (half_len n : ℕ) (image : Image) : Type 0 where
  pub root : Root
  pub current : IsCurrent half_len root image
  pub cut : IsCutAt (base_site half_len root) n image

-- the root in force has an unknown version
pub record HasOtherVersion (image : Image) : Type 0 where
  pub root : Root
  pub chosen : IsChosen root image
  pub other_version : IsKnown root.version → ⊥

-- A root has no next generation or no next session; or it is of version 1, and after a group of that sequence there
-- aren't the two generations and the sequence that make it one of version 2.
abbrev pub IsSpent : Root → ℕ → Type 0
IsSpent root last = ((root.generation ≡ 2 ^ 64 - 1) ⊎ (root.session ≡ 2 ^ 64 - 1))
    ⊎ ((root.version ≢ image_version) × ((root.generation ≡ 2 ^ 64 - 2) ⊎ (2 ^ 64 - 1 ≤ last + 1)))

-- what a fault states of the image; a device may always fail, and memory may always run out
abbrev pub TellsOfImage : OpenFault → Type 0
TellsOfImage NotImage = Unit {0}
TellsOfImage (Damaged n) = Unit {0}
TellsOfImage Version = Unit {0}
TellsOfImage Worn = Unit {0}
TellsOfImage Device = ⊥
TellsOfImage NoMemory = ⊥

module _ {K : Type 0} (lang : Language K) where
  -- the base group is complete and spells no state
  pub record HasBadBase (half_len n : ℕ) (image : Image) : Type 0 where
    pub root : Root
    pub current : IsCurrent half_len root image
    pub session : ℕ
    pub pages : ℕ
    pub payload : List ℕ
    pub group : IsGroup (base_site half_len root) session payload pages image
    pub no_state : (state : lang.State) → lang.SpellsState (budget_of half_len) payload state → ⊥
    pub at : n ≡ half_start half_len root.half

  -- a complete group of changes, after those that could be read, spells no changes that are accepted
  -- in turn
  pub record HasBadGroup (half_len n : ℕ) (image : Image) : Type 0 where
    pub root : Root
    pub current : IsCurrent half_len root image
    pub m : ℕ
    pub state : lang.State
    pub before : Holds lang half_len root image m n state
    pub is_sequence : IsSequence (root.base_sequence + suc m)
    pub session : ℕ
    pub pages : ℕ
    pub payload : List ℕ
    pub group : IsGroup (change_site half_len root (root.base_sequence + suc m) n) session payload
        pages image
    pub no_changes : (changes : List lang.Change) → lang.SpellsChanges payload changes
        → lang.Accepts (budget_of half_len) state changes → ⊥

  abbrev pub IsDamagedAt : ℕ → ℕ → Image → Type 0
  IsDamagedAt half_len n image =
      (((HasNoRoot n image ⊎ HasOtherLength half_len n image) ⊎ HasNoBase half_len n image)
      ⊎ HasBadBase half_len n image) ⊎ HasBadGroup half_len n image

  -- the image reads as a state, but no session can begin on it
  pub record IsWorn (half_len : ℕ) (image : Image) : Type 0 where
    pub root : Root
    pub m : ℕ
    pub place : ℕ
    pub state : lang.State
    pub by : ReadsBy lang half_len root m place state image
    pub spent : IsSpent root (root.base_sequence + m)

  -- why reading the image stops, and so it reads as no state; a device may always fail, and memory may always run out
  abbrev pub IsUnread : ℕ → Image → OpenFault → Type 0
  IsUnread half_len image NotImage = IsRootless None image
  IsUnread half_len image (Damaged n) = IsDamagedAt half_len n image
  IsUnread half_len image Version = HasOtherVersion image
  IsUnread half_len image Worn = ⊥
  IsUnread half_len image Device = Unit {0}
  IsUnread half_len image NoMemory = Unit {0}

  -- why opening the image stops: reading does, or no session can begin
  abbrev pub IsRefused : ℕ → Image → OpenFault → Type 0
  IsRefused half_len image NotImage = IsRootless None image
  IsRefused half_len image (Damaged n) = IsDamagedAt half_len n image
  IsRefused half_len image Version = HasOtherVersion image
  IsRefused half_len image Worn = IsWorn half_len image
  IsRefused half_len image Device = Unit {0}
  IsRefused half_len image NoMemory = Unit {0}

  -- THE THEOREMS, each by the lemma that is named beside it

  -- The refusals of an image exclude each other: if a fault's fact holds, no other's does
  -- (one_refusal).
  abbrev pub OneRefusal : Type 0
  OneRefusal = (half_len : ℕ) → half_len ≤ longest_half → (image : Image) (f g : OpenFault)
      → TellsOfImage f → TellsOfImage g → IsRefused half_len image f → IsRefused half_len image g
      → f ≡ g

  -- An image that reads as a state is refused only for an exhausted counter (read_or_refused).
  abbrev pub RefusedIsNotRead : Type 0
  RefusedIsNotRead = (half_len : ℕ) → half_len ≤ longest_half
      → (image : Image) (state : lang.State) (f : OpenFault) → TellsOfImage f → IsRefused half_len image f
      → Reads lang half_len state image → f ≡ Worn

  -- An image that reads as a state is read: no step of reading stops (read_is_read).
  abbrev pub UnreadIsNotRead : Type 0
  UnreadIsNotRead = (half_len : ℕ) → half_len ≤ longest_half
      → (image : Image) (state : lang.State) (f : OpenFault) → TellsOfImage f → IsUnread half_len image f
      → Reads lang half_len state image → ⊥
