-- Whether a sector continues the pages that were read (this product's image format).
use Rattle.std.specs.Prelude.{◌≡◌, ◌⊎◌, ◌<◌, ◌≤◌, ℕ, Bool, true, false, List, length, take, drop}
use Rattle.std.specs.Prelude.{Result, Ok, Err}
use Rattle.dc_sectors.specs.declared.sector.Sector.TheVariants.{Bytes}
use Rattle.dc_sectors.specs.Disk.{Image}
use Rattle.dc_pages.specs.Group.{IsPage, IsCommit, IsGroup, page_payload, head_len}
use Rattle.dc_pages.specs.Reading.{IsBegun, IsCutAt}
use Rattle.dc_pages.specs.declared.fault.GroupFault.{GroupFault}
use Rattle.dc_pages.specs.declared.fault.GroupFault.TheVariants.{Incomplete, Device, NoMemory}
use Rattle.dc_pages.specs.declared.reader.Fit.{Fit}
use Rattle.dc_pages.specs.declared.reader.Fit.TheVariants.{Page, Commit, Neither}
use Rattle.dc_pages.specs.declared.site.Site.{Site}

-- after `pages` pages of that session, or as the first
abbrev pub Judged : (site : Site) (session pages : ℕ) → List ℕ → Fit → Type 0
Judged site session pages bytes (Page used s) =
    ((pages ≡ 0) ⊎ (s ≡ session)) × (0 < used) × (used ≤ page_payload)
    × IsPage site s pages (take used (drop head_len bytes)) (Bytes bytes)
Judged site session pages bytes Commit = (0 < pages) × IsCommit site session pages (Bytes bytes)
Judged site session pages bytes Neither =
    ((s : ℕ) (content : List ℕ) → (pages ≡ 0) ⊎ (s ≡ session) → 0 < length content
    → length content ≤ page_payload → IsPage site s pages content (Bytes bytes) → ⊥)
    × (0 < pages → IsCommit site session pages (Bytes bytes) → ⊥)

-- One more sector after the pages of that session with that payload: one more page, a complete
-- group, or the place where the group is cut off.
abbrev pub IsStep : (site : Site) → Image → (session pages : ℕ) → List ℕ → Result Bool GroupFault
    → Type 0
IsStep site image session pages payload (Ok false) = IsBegun site session payload pages image
IsStep site image session pages payload (Ok true) = IsGroup site session payload pages image
IsStep site image session pages payload (Err (Incomplete n)) = IsCutAt site n image
IsStep site image session pages payload (Err Device) = Unit {0}
IsStep site image session pages payload (Err NoMemory) = Unit {0}
