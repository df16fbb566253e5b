-- Groups of stamped sectors: this product's image format.
use Rattle.std.specs.Prelude.{◌≡◌, ◌⊎◌, ◌<◌, ℕ, ◌+◌, ◌-◌, ◌*◌, ◌≤◌, List, [], ◌∷◌, ◌++◌, length}
use Rattle.std.specs.Prelude.{take, drop, replicate, slice_index}
use Rattle.dc_sectors.specs.declared.sector.Sector.{Sector}
use Rattle.dc_sectors.specs.declared.sector.Sector.TheVariants.{Bytes}
use Rattle.dc_sectors.specs.Disk.{Image}
use Rattle.dc_sectors.specs.Fields.{field, number_bytes}
use Rattle.dc_pages.specs.declared.site.Site.{Site}

-- a page's sector: the bytes of its head, and the bytes of payload after it
abbrev pub head_len : ℕ
head_len = 24

-- the payload of a page's sector: 512 bytes less its head
abbrev pub page_payload : ℕ
page_payload = 488

-- the kinds of sectors: a page of a whole state, a page of changes, and the commit sector of either
abbrev pub base_kind : ℕ
base_kind = 0x42

-- the kind of a page of changes
abbrev pub change_kind : ℕ
change_kind = 0x50

-- the kind of a commit sector
abbrev pub commit_kind : ℕ
commit_kind = 0x43

-- the fields of the head of a page or commit sector
pub record IsHead (kind version used index session sequence : ℕ) (bytes : List ℕ) : Type 0 where
  pub kind_is : slice_index bytes 0 ≡ kind
  pub version_is : slice_index bytes 1 ≡ version
  pub used_is : field 2 2 bytes ≡ used
  pub index_is : field 4 4 bytes ≡ index
  pub session_is : field 8 8 bytes ≡ session
  pub sequence_is : field 8 16 bytes ≡ sequence

-- a readable page of that group with this content; the bytes after its used ones are ignored
pub record IsPage (site : Site) (session index : ℕ) (content : List ℕ)
    (sector : Sector) : Type 0 where
  pub bytes : List ℕ
  pub readable : sector ≡ Bytes bytes
  pub head : IsHead site.kind site.version (length content) index session site.sequence bytes
  pub content_is : take (length content) (drop head_len bytes) ≡ content

-- a readable commit sector of that group, of this many pages
pub record IsCommit (site : Site) (session pages : ℕ) (sector : Sector) : Type 0 where
  pub bytes : List ℕ
  pub readable : sector ≡ Bytes bytes
  pub head : IsHead commit_kind site.version 0 pages session site.sequence bytes

-- the i-th piece of a payload, of a page's size; the last may be shorter
abbrev pub piece : ℕ → List ℕ → List ℕ
piece i payload = take page_payload (drop (page_payload * i) payload)

-- A complete group: its pages hold the payload piece by piece, and a commit sector follows.
pub record IsGroup (site : Site) (session : ℕ) (payload : List ℕ) (pages : ℕ)
    (image : Image) : Type 0 where
  pub some : page_payload * (pages - 1) < length payload
  pub all : length payload ≤ page_payload * pages
  pub fits : site.first + pages < site.limit
  pub page : (i : ℕ) → i < pages → IsPage site session i (piece i payload) (image (site.first + i))
  pub commit : IsCommit site session pages (image (site.first + pages))

-- that group is complete, in some session
pub record IsComplete (site : Site) (image : Image) : Type 0 where
  pub session : ℕ
  pub payload : List ℕ
  pub pages : ℕ
  pub group : IsGroup site session payload pages image

-- a readable page or commit sector with that stamp, of either version of the format
pub record Carries (session sequence : ℕ) (sector : Sector) : Type 0 where
  pub bytes : List ℕ
  pub readable : sector ≡ Bytes bytes
  pub kind_is : ((slice_index bytes 0 ≡ base_kind) ⊎ (slice_index bytes 0 ≡ change_kind))
      ⊎ (slice_index bytes 0 ≡ commit_kind)
  pub version_is : (slice_index bytes 1 ≡ 1) ⊎ (slice_index bytes 1 ≡ 2)
  pub session_is : field 8 8 bytes ≡ session
  pub sequence_is : field 8 16 bytes ≡ sequence

-- the site of these five values
abbrev pub site_of : (place limit kind version sequence : ℕ) → Site
site_of place limit kind version sequence = record {
  kind = kind;
  version = version;
  sequence = sequence;
  first = place;
  limit = limit;
}

-- the kinds of pages, and the versions that the format has
abbrev pub IsPageKind : ℕ → Type 0
IsPageKind kind = (kind ≡ base_kind) ⊎ (kind ≡ change_kind)

-- a version of the format that this product reads
abbrev pub IsKnown : ℕ → Type 0
IsKnown version = (version ≡ 1) ⊎ (version ≡ 2)

-- the bytes before the payload
unfoldable pub head_bytes : (kind version used index session sequence : ℕ) → List ℕ
head_bytes kind version used index session sequence =
    ((((kind ∷ version ∷ []) ++ number_bytes 2 used) ++ number_bytes 4 index)
    ++ number_bytes 8 session) ++ number_bytes 8 sequence

-- the sector that is written for a page, with zeros after its content
unfoldable pub page_bytes : (site : Site) (session index : ℕ) → List ℕ → List ℕ
page_bytes site session index content =
    head_bytes site.kind site.version (length content) index session site.sequence
    ++ (content ++ replicate (page_payload - length content) 0)

-- the sector that is written for the commit of this many pages: it has no content
abbrev pub commit_bytes : (site : Site) (session pages : ℕ) → List ℕ
commit_bytes site session pages = page_bytes (record site { kind = commit_kind }) session pages []
