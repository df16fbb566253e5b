-- How much of a group is there, and where it is cut off (this product's image format).
use Rattle.std.specs.Prelude.{◌≡◌, ◌⊎◌, ◌<◌, ℕ, ◌+◌, ◌-◌, ◌*◌, ◌≤◌, List, length}
use Rattle.dc_sectors.specs.Disk.{Image}
use Rattle.dc_pages.specs.Group.{IsPage, IsCommit, piece, page_payload}
use Rattle.dc_pages.specs.declared.site.Site.{Site}

-- the first i sectors are pages of a group and hold this payload
pub record IsBegun (site : Site) (session : ℕ) (payload : List ℕ) (i : ℕ)
    (image : Image) : Type 0 where
  pub some : (i ≡ 0) ⊎ (page_payload * (i - 1) < length payload)
  pub all : length payload ≤ page_payload * i
  pub fits : site.first + i ≤ site.limit
  pub page : (k : ℕ) → k < i → IsPage site session k (piece k payload) (image (site.first + k))

-- The sectors before n are pages of one group, and n is the first that doesn't fit after them: it is
-- no further page of it and no commit sector, or the half ends there. A page that isn't full is the last.
pub record IsCutAt (site : Site) (n : ℕ) (image : Image) : Type 0 where
  pub session : ℕ
  pub payload : List ℕ
  pub i : ℕ
  pub at : n ≡ site.first + i
  pub begun : IsBegun site session payload i image
  pub no_page : n < site.limit → length payload ≡ page_payload * i → (s : ℕ) (content : List ℕ)
      → (i ≡ 0) ⊎ (s ≡ session) → 0 < length content → length content ≤ page_payload
      → IsPage site s i content (image n) → ⊥
  pub no_commit : n < site.limit → 0 < i → IsCommit site session i (image n) → ⊥
