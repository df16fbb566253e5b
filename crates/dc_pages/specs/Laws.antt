-- The theorems about groups and images (this product's image format), each proved by the lemma that
-- is named beside it.
use Rattle.std.specs.Prelude.{◌≡◌, ◌≢◌, ◌⊎◌, ◌<◌, ℕ, ◌+◌, ◌≤◌, List}
use Rattle.dc_sectors.specs.Disk.{Image}
use Rattle.dc_pages.specs.Group.{IsGroup, IsComplete, Carries, IsPageKind, IsKnown, commit_kind}
use Rattle.dc_pages.specs.Reading.{IsCutAt}
use Rattle.dc_pages.specs.PagesWriting.{IsTorn, IsPartOf}
use Rattle.dc_pages.specs.declared.site.Site.{Site}

-- If no sector of its range carried the stamp before, a group is complete only as it was before, or
-- with each sector of the range as it was written (old_or_as_written).
abbrev pub CompleteAsWritten : Type 0
CompleteAsWritten =
    (site : Site) (session : ℕ) (payload : List ℕ) (pages : ℕ) (old written image : Image)
    → IsPageKind site.kind → IsKnown site.version
    → IsGroup site session payload pages written → IsTorn site.first (pages + 1) old written image
    → ((m : ℕ) → site.first ≤ m → m ≤ site.first + pages → Carries session site.sequence (old m)
    → ⊥)
    → (session' : ℕ) (payload' : List ℕ) (pages' : ℕ) → IsGroup site session' payload' pages' image
    → IsGroup site session' payload' pages' old
    ⊎ ((m : ℕ) → site.first ≤ m → m ≤ site.first + pages → image m ≡ written m)

-- Before the commit sector is written, a group is complete only as it was before (complete_before).
abbrev pub PartIsIncomplete : Type 0
PartIsIncomplete =
    (site : Site) (session : ℕ) (old image : Image) → IsPageKind site.kind → IsKnown site.version
    → IsPartOf site session old image
    → ((m : ℕ) → site.first ≤ m → m < site.limit → Carries session site.sequence (old m) → ⊥)
    → (session' : ℕ) (payload' : List ℕ) (pages' : ℕ) → IsGroup site session' payload' pages' image
    → IsGroup site session' payload' pages' old

-- If a sector doesn't fit, no group is complete (cut_incomplete).
abbrev pub CutIsIncomplete : Type 0
CutIsIncomplete =
    (site : Site) (n : ℕ) (image : Image) → site.kind ≢ commit_kind → IsCutAt site n image
    → IsComplete site image → ⊥

-- At a place exactly one sector is the first that doesn't fit (one_cut).
abbrev pub OneCut : Type 0
OneCut =
    (site : Site) (n n' : ℕ) (image : Image) → site.kind ≢ commit_kind → IsCutAt site n image
    → IsCutAt site n' image → n ≡ n'

-- A place has one group of a kind: one payload, one number of pages, one session (one_group).
abbrev pub OneGroup : Type 0
OneGroup =
    (a b : Site) (session session' : ℕ) (payload payload' : List ℕ) (pages pages' : ℕ)
    (image : Image) → a.kind ≢ commit_kind → a.kind ≡ b.kind → a.first ≡ b.first
    → IsGroup a session payload pages image → IsGroup b session' payload' pages' image
    → (payload ≡ payload') × (pages ≡ pages') × (session ≡ session')
