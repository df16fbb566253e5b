-- What a crash may leave while one group is written to a disk that was settled: this product's image format.
use Rattle.std.specs.Prelude.{◌≡◌, ◌⊎◌, ◌<◌, ◌≤◌, ℕ, ◌+◌, List}
use Rattle.dc_sectors.specs.Disk.{Image}
use Rattle.dc_pages.specs.declared.site.Site.{Site}
use Rattle.dc_pages.specs.Group.{IsGroup}
use Rattle.dc_pages.specs.PagesWriting.{IsTorn, IsPartOf}

-- each sector of a whole group with that payload is as before, as written, or unreadable
pub record IsTornGroup (site : Site) (session : ℕ) (payload : List ℕ)
    (old image : Image) : Type 0 where
  pub pages : ℕ
  pub written : Image
  pub group : IsGroup site session payload pages written
  pub torn : IsTorn site.first (pages + 1) old written image

-- some of its pages, or a torn group
abbrev pub IsAttempt : (site : Site) (session : ℕ) → List ℕ → Image → Image → Type 0
IsAttempt site session payload old image =
    IsPartOf site session old image ⊎ IsTornGroup site session payload old image

-- the whole group is written, in this many sectors
pub record IsWritten (site : Site) (session : ℕ) (payload : List ℕ) (count : ℕ)
    (old image : Image) : Type 0 where
  pub pages : ℕ
  pub count_is : count ≡ pages + 1
  pub group : IsGroup site session payload pages image
  pub outside : (k : ℕ) → (k < site.first) ⊎ (site.first + (pages + 1) ≤ k) → image k ≡ old k
