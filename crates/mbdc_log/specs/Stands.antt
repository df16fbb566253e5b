-- The state that an image reads as, and stands for: this product's image format.
use Rattle.std.specs.Prelude.{◌≡◌, ◌⊎◌, ◌<◌, ℕ, zero, suc, ◌+◌, ◌*◌, ◌^◌, ◌≤◌, List, length, take}
use Rattle.std.specs.Prelude.{replicate, Option, Some, None}
use Rattle.dc_sectors.specs.Disk.{Image, Choices, IsImage}
use Rattle.dc_sectors.specs.declared.sector.Sector.{Sector}
use Rattle.dc_sectors.specs.declared.sector.Sector.TheVariants.{Bytes, Unreadable}
use Rattle.dc_roots.specs.declared.root.Root.{Root}
use Rattle.dc_roots.specs.Choice.{HasRoot, IsChosen}
use Rattle.dc_pages.specs.declared.site.Site.{Site}
use Rattle.dc_pages.specs.Group.{IsKnown, IsGroup, IsComplete, Carries}
use Rattle.mbdc_log.specs.Halves.{half_start, budget_of, longest_half}
use Rattle.mbdc_log.specs.Sites.{base_site, change_site}
use Rattle.mbdc_io.specs.declared.kept.kept.Language.{Ghosts as Language}

-- the version of the images that are written; those of version 1 are read too
abbrev pub image_version : ℕ
image_version = 2

-- a sector of zeros
abbrev pub blank : Sector
blank = Bytes (replicate 512 0)

-- a number of eight bytes, as sequences are
abbrev pub IsSequence : ℕ → Type 0
IsSequence n = n < 2 ^ 64

-- No page or commit sector of the two halves has a greater session or a greater sequence.
abbrev pub IsFresh : ℕ → ℕ → ℕ → Image → Type 0
IsFresh half_len session sequence image =
    (m s q : ℕ) → 3 ≤ m → m < 3 + 2 * half_len → Carries s q (image m) → (s ≤ session)
    × (q ≤ sequence)

-- a page or commit sector with a greater session or a greater sequence
pub record IsAhead (session sequence : ℕ) (sector : Sector) : Type 0 where
  pub its_session : ℕ
  pub its_sequence : ℕ
  pub carries : Carries its_session its_sequence sector
  pub ahead : (session < its_session) ⊎ (sequence < its_sequence)

-- the first sector of the two halves that is ahead
pub record IsFirst (half_len session sequence n : ℕ) (image : Image) : Type 0 where
  pub from : 3 ≤ n
  pub within : n < 3 + 2 * half_len
  pub here : IsAhead session sequence (image n)
  pub before : (k : ℕ) → 3 ≤ k → k < n → IsAhead session sequence (image k) → ⊥

-- that sector is the first, or there is none
abbrev pub IsFirstAhead : ℕ → ℕ → ℕ → Option ℕ → Image → Type 0
IsFirstAhead half_len session sequence None image = IsFresh half_len session sequence image
IsFirstAhead half_len session sequence (Some n) image = IsFirst half_len session sequence n image

-- None of the two halves has that stamp.
abbrev pub IsUnused : ℕ → ℕ → ℕ → Image → Type 0
IsUnused half_len session sequence image =
    (m : ℕ) → 3 ≤ m → m < 3 + 2 * half_len → Carries session sequence (image m) → ⊥

-- the root in force, of a known version and for halves of this length
pub record IsCurrent (half_len : ℕ) (root : Root) (image : Image) : Type 0 where
  pub chosen : IsChosen root image
  pub version : IsKnown root.version
  pub length_is : root.half_len ≡ half_len

-- while zeros are written to a sector: what it read before, zeros, or nothing
abbrev pub WipedAt : Image → ℕ → Sector → Type 0
WipedAt old k sector = ((sector ≡ old k) ⊎ (sector ≡ blank)) ⊎ (sector ≡ Unreadable)

abbrev pub IsWiped : Image → Image → Type 0
IsWiped old image = (k : ℕ) → WipedAt old k (image k)

-- no root slot has a valid root
abbrev pub IsUnformatted : Image → Type 0
IsUnformatted image = (root : Root) → HasRoot root image → ⊥

module _ {K : Type 0} (lang : Language K) where
  -- the half begins with a base group that spells the state; it ends before `place`
  pub record HasBase (half_len : ℕ) (root : Root) (place : ℕ) (state : lang.State)
      (image : Image) : Type 0 where
    pub session : ℕ
    pub payload : List ℕ
    pub pages : ℕ
    pub group : IsGroup (base_site half_len root) session payload pages image
    pub spells : lang.SpellsState (budget_of half_len) payload state
    pub end : place ≡ half_start half_len root.half + pages + 1

  -- one group of changes more than what `Before` says of a place and a state
  pub record HasMore (half_len : ℕ) (root : Root) (Before : ℕ → lang.State → Type 0) (sequence place : ℕ)
      (state : lang.State) (image : Image) : Type 0 where
    pub from : ℕ
    pub was : lang.State
    pub before : Before from was
    pub session : ℕ
    pub payload : List ℕ
    pub pages : ℕ
    pub is_sequence : IsSequence sequence
    pub group : IsGroup (change_site half_len root sequence from) session payload pages image
    pub changes : List lang.Change
    pub spells : lang.SpellsChanges payload changes
    pub accepted : lang.Accepts (budget_of half_len) was changes
    pub state_is : state ≡ lang.after was changes
    pub end : place ≡ from + pages + 1

  -- After the base and m groups of changes with consecutive sequences the state is this, and the last of them ends
  -- before `place`.
  abbrev pub Holds : ℕ → Root → Image → ℕ → ℕ → lang.State → Type 0
  Holds half_len root image zero place state = HasBase half_len root place state image
  Holds half_len root image (suc m) place state =
      HasMore half_len root (Holds half_len root image m)
      (root.base_sequence + suc m) place state image

  -- The image reads as the state, by this root and m groups of changes, and `place` is where the next would go.
  pub record ReadsBy (half_len : ℕ) (root : Root) (m place : ℕ) (state : lang.State)
      (image : Image) : Type 0 where
    pub chosen : IsChosen root image
    pub version : IsKnown root.version
    pub length_is : root.half_len ≡ half_len
    pub holds : Holds half_len root image m place state
    pub no_more : IsSequence (root.base_sequence + suc m)
        → IsComplete (change_site half_len root (root.base_sequence + suc m) place) image → ⊥

  -- it reads, and it is fresh
  pub record StandsBy (half_len : ℕ) (root : Root) (m place : ℕ) (state : lang.State)
      (image : Image) : Type 0 where
    pub reads : ReadsBy half_len root m place state image
    pub fresh : IsFresh half_len root.session (root.base_sequence + suc m) image

  pub record Reads (half_len : ℕ) (state : lang.State) (image : Image) : Type 0 where
    pub root : Root
    pub m : ℕ
    pub place : ℕ
    pub by : ReadsBy half_len root m place state image

  -- the image stands for the state: by some root and some number of groups of changes after the base,
  -- it reads as the state, and it is fresh
  pub record Stands (half_len : ℕ) (state : lang.State) (image : Image) : Type 0 where
    pub root : Root
    pub m : ℕ
    pub place : ℕ
    pub by : StandsBy half_len root m place state image

  -- WHAT A STORE KNOWS, while it is open, of the one image that its disk has: it stands for the
  -- state, and none of its sectors has the stamp that comes next.
  pub record IsReady (half_len : ℕ) (root : Root) (m place : ℕ) (state : lang.State)
      (image : Image) : Type 0 where
    pub stands : StandsBy half_len root m place state image
    pub unused : IsUnused half_len root.session (root.base_sequence + suc m) image

  -- The image is ready after the groups up to one of sequence `last`, and the next would go to `place`.
  pub record IsBegun (half_len : ℕ) (root : Root) (place last : ℕ) (state : lang.State)
      (image : Image) : Type 0 where
    pub m : ℕ
    pub ready : IsReady half_len root m place state image
    pub last_is : last ≡ root.base_sequence + m

  -- The root in force leads to this state by the groups up to one of sequence `last`, and the next would go to `place`.
  pub record IsReached (half_len : ℕ) (root : Root) (place last : ℕ) (state : lang.State)
      (image : Image) : Type 0 where
    pub current : IsCurrent half_len root image
    pub m : ℕ
    pub holds : Holds half_len root image m place state
    pub last_is : last ≡ root.base_sequence + m

  -- and no group of the next sequence is complete there
  pub record IsRead (half_len : ℕ) (root : Root) (place last : ℕ) (state : lang.State)
      (image : Image) : Type 0 where
    pub m : ℕ
    pub by : ReadsBy half_len root m place state image
    pub last_is : last ≡ root.base_sequence + m

  -- each image stands for some state
  abbrev pub EachStands : ℕ → Choices → Type 0
  EachStands half_len choices = (image : Image) → IsImage choices image → (state : lang.State)
      × Stands half_len state image

  -- the image stands for a state that one of those images stood for
  pub record StandsForOne (half_len : ℕ) (choices : Choices) (image : Image) : Type 0 where
    pub state : lang.State
    pub stands : Stands half_len state image
    pub was : Image
    pub was_image : IsImage choices was
    pub stood : Stands half_len state was

  -- the image stands for one of two states
  abbrev pub StandsForEither : ℕ → lang.State → lang.State → Image → Type 0
  StandsForEither half_len before next image =
      Stands half_len before image ⊎ Stands half_len next image

  -- the image stands for the state after a prefix of those changes
  pub record StandsForFront (half_len : ℕ) (state : lang.State) (changes : List lang.Change)
      (image : Image) : Type 0 where
    pub count : ℕ
    pub within : count ≤ length changes
    pub stands : Stands half_len (lang.after state (take count changes)) image

  -- A payload that spells accepted changes may follow: the image is ready, and this is the site of
  -- the next group.
  pub record IsAppendable (half_len : ℕ) (root : Root) (m : ℕ) (site : Site) (was : lang.State)
      (payload : List ℕ) (changes : List lang.Change) (image : Image) : Type 0 where
    pub ready : IsReady half_len root m site.first was image
    pub site_is : site ≡ change_site half_len root (root.base_sequence + suc m) site.first
    pub is_sequence : IsSequence (root.base_sequence + suc m)
    pub spells : lang.SpellsChanges payload changes
    pub accepted : lang.Accepts (budget_of half_len) was changes

  -- the image stands for the state by this root, and the stamp that comes next is unused
  pub record IsReadyFor (half_len : ℕ) (root : Root) (state : lang.State) (image : Image) : Type 0 where
    pub m : ℕ
    pub place : ℕ
    pub ready : IsReady half_len root m place state image

  -- it has none, or stands for the first state
  abbrev pub IsBlankOrEmpty : ℕ → Image → Type 0
  IsBlankOrEmpty half_len image = IsUnformatted image ⊎ Stands half_len lang.empty image

  -- while a disk with such possible contents is formatted: one of its images, or one without a root
  -- or of the first state
  abbrev pub IsFormatting : ℕ → Choices → Image → Type 0
  IsFormatting half_len choices image = IsImage choices image ⊎ IsBlankOrEmpty half_len image

  -- AN IMAGE READS AS ONE STATE
  abbrev pub ReadsOnce : Type 0
  ReadsOnce = (half_len : ℕ) → half_len ≤ longest_half → (image : Image) (state other : lang.State)
      → Reads half_len state image → Reads half_len other image → state ≡ other
