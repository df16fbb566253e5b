-- The state of a group writer: this product's image format.
use Rattle.std.specs.Prelude.{ℕ, ◌+◌, ◌*◌, ◌≤◌, List, length}
use Rattle.dc_pages.specs.Group.{page_payload}
use Rattle.dc_pages.specs.declared.site.Site.{Site}

-- A group that is being written: which one and where, its session, the number of pages written, and
-- the bytes buffered for the next page.
pub record Draft : Type 0 where
  pub site : Site
  pub session : ℕ
  pub pages : ℕ
  pub buffer : List ℕ

-- number of payload bytes
abbrev pub draft_len : Draft → ℕ
draft_len draft = page_payload * draft.pages + length draft.buffer

-- this many more bytes and a commit sector fit
abbrev pub HasRoom : Draft → ℕ → Type 0
HasRoom draft more = page_payload * draft.site.first + draft_len draft + more + page_payload
    ≤ page_payload * draft.site.limit

-- this many bytes and a commit sector fit from a sector on, in a half that ends before `limit`
abbrev pub FitsAt : ℕ → ℕ → ℕ → Type 0
FitsAt first limit len = page_payload * first + len + page_payload ≤ page_payload * limit
