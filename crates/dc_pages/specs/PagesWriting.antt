-- A group that is being written, and what a crash may leave of it (this product's image format).
use Rattle.std.specs.Prelude.{◌≡◌, ◌⊎◌, ◌<◌, ◌≤◌, ℕ, ◌+◌, ◌*◌, List, length, drop, Contains}
use Rattle.dc_sectors.specs.declared.sector.Sector.{Sector}
use Rattle.dc_sectors.specs.declared.sector.Sector.TheVariants.{Bytes, Unreadable}
use Rattle.dc_sectors.specs.Disk.{Image}
use Rattle.dc_sectors.specs.declared.device.Disk.{Ghosts}
use Rattle.dc_sectors.specs.Runs.{LeavesOnly}
use Rattle.dc_pages.specs.Draft.{Draft, draft_len}
use Rattle.dc_pages.specs.Group.{IsPage, IsGroup, piece, page_bytes, commit_bytes, page_payload}
use Rattle.dc_pages.specs.declared.site.Site.{Site}

-- The image is the old one, but each of those sectors may be as written or unreadable instead.
pub record IsTorn (first count : ℕ) (old written image : Image) : Type 0 where
  pub inside : (m : ℕ) → first ≤ m → m < first + count
      → ((image m ≡ old m) ⊎ (image m ≡ Unreadable)) ⊎ (image m ≡ written m)
  pub outside : (m : ℕ) → (m < first) ⊎ (first + count ≤ m) → image m ≡ old m

-- The image is the old one, but sectors of the site may be unreadable or pages of that group, each
-- at its place: no commit sector was written.
pub record IsPartOf (site : Site) (session : ℕ) (old image : Image) : Type 0 where
  pub inside : (i : ℕ) → site.first + i < site.limit
      → ((image (site.first + i) ≡ old (site.first + i)) ⊎ (image (site.first + i) ≡ Unreadable))
      ⊎ ((content : List ℕ) × IsPage site session i content (image (site.first + i)))
  pub outside : (m : ℕ) → (m < site.first) ⊎ (site.limit ≤ m) → image m ≡ old m

-- each sector outside the site reads as before
abbrev pub SameOutside : Site → Image → Image → Type 0
SameOutside site old image = (m : ℕ) → (m < site.first) ⊎ (site.limit ≤ m) → image m ≡ old m

-- after the commit sector's write, or before it
abbrev pub PartOrTorn : (site : Site) (session pages : ℕ) → Image → Image → Image → Type 0
PartOrTorn site session pages old written image =
    IsPartOf site session old image ⊎ IsTorn site.first (pages + 1) old written image

-- a page, and its sector has the bytes that are written for it
pub record IsPageWritten (site : Site) (session index : ℕ) (content : List ℕ)
    (sector : Sector) : Type 0 where
  pub page : IsPage site session index content sector
  pub bytes_are : sector ≡ Bytes (page_bytes site session index content)

-- such a sector reads as in `old` or as in `written`, or is unreadable
abbrev pub TornAt : (first count : ℕ) → Image → Image → ℕ → Sector → Type 0
TornAt first count old written k s =
    (s ≡ old k) ⊎ ((first ≤ k) × (k < first + count) × ((s ≡ Unreadable) ⊎ (s ≡ written k)))

-- the first pages of the payload are written, since `start`, and no more
pub record IsOnDisk {D : Type 0} (g : Ghosts D)
    (start disk : D) (site : Site) (session index : ℕ) (payload : List ℕ) : Type 0 where
  pub pages : (i : ℕ) → i < index → IsPageWritten site session i (piece i payload)
      (g.reads disk (site.first + i))
  pub outside : (k : ℕ) → (k < site.first) ⊎ (site.first + index ≤ k)
      → g.reads disk k ≡ g.reads start k
  pub choices_are : (k : ℕ) (s : Sector) → Contains (g.choices disk k) s
      → TornAt site.first index (g.reads start) (g.reads disk) k s
  pub any_moment : LeavesOnly g start disk (IsPartOf site session (g.reads start))

-- THE PAYLOAD SO FAR is in the pages that were written since `start`, and in the buffer.
pub record IsGoing {D : Type 0} (g : Ghosts D)
    (start disk : D) (draft : Draft) (payload : List ℕ) : Type 0 where
  pub count : length payload ≡ draft_len draft
  pub buffered : draft.buffer ≡ drop (page_payload * draft.pages) payload
  pub on_disk : IsOnDisk g start disk draft.site draft.session draft.pages payload

-- each sector of the group has the bytes that are written for it
pub record IsLaid (site : Site) (session : ℕ) (payload : List ℕ) (pages : ℕ)
    (image : Image) : Type 0 where
  pub page : (i : ℕ) → i < pages → image (site.first + i)
      ≡ Bytes (page_bytes site session i (piece i payload))
  pub commit : image (site.first + pages) ≡ Bytes (commit_bytes site session pages)

-- THE COMMIT SECTOR WAS WRITTEN TOO: an image with all written has the group, and each image since
-- `start` has a part of it or is torn.
pub record IsClosed {D : Type 0} (g : Ghosts D)
    (start disk : D) (old : Image) (site : Site) (session pages : ℕ) (payload : List ℕ)
    (written : Image) : Type 0 where
  pub group : IsGroup site session payload pages written
  pub laid : IsLaid site session payload pages written
  pub outside : (k : ℕ) → (k < site.first) ⊎ (site.first + (pages + 1) ≤ k) → written k ≡ old k
  pub any_moment : LeavesOnly g start disk (PartOrTorn site session pages old written)
