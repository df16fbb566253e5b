-- The commit sector goes to the disk.
use Rattle.std.proofs.Common.{◌≡◌, ℕ, ◌<◌, ◌≤◌, ◌+◌, ◌^◌, List, ◌++◌, length, drop, replicate, arith, refl, sym, subst}
use Rattle.dc_sectors.specs.Disk.{IsImage, put, added}
use Rattle.dc_sectors.specs.declared.device.Disk.{Ghosts}
use Rattle.dc_sectors.specs.Runs.{Passes}
use Rattle.dc_pages.specs.Draft.{Draft}
use Rattle.dc_pages.specs.Group.{commit_kind, head_bytes, page_bytes, commit_bytes}
use Rattle.dc_pages.proofs.Stamped.{commit_bytes-is_commit}
use Rattle.dc_pages.specs.PagesWriting.{IsOnDisk, IsGoing, IsClosed}
use Rattle.dc_pages.proofs.Turning.{closed}
use Rattle.dc_pages.specs.declared.site.Site.{Site}

-- a head before zeros makes the commit sector
pub committed : (site : Site) (session pages : ℕ) → head_bytes commit_kind site.version 0 pages session site.sequence ++ drop 24 (replicate 512 0) ≡ commit_bytes site session pages
unfolding page_bytes
committed site session pages = refl

module _ {D : Type 0} (g : Ghosts D) (disk mid new : D) (draft : Draft) (at : ℕ) (sector : List ℕ)
    (at_is : at ≡ draft.site.first + (draft.pages + 1)) (sector_is : sector ≡ commit_bytes draft.site draft.session (draft.pages + 1))
    (fits : draft.site.first + (draft.pages + 1) < draft.site.limit) (pages_fit : draft.pages + 1 < 2 ^ 32) (session_fits : draft.session < 2 ^ 64) (sequence_fits : draft.site.sequence < 2 ^ 64)
    (some : 0 < length draft.buffer) (small : length draft.buffer ≤ 488)
    (time : Passes g mid new (IsImage (added (g.choices mid) at sector))) where
  time_is : Passes g mid new (IsImage (added (g.choices mid) (draft.site.first + (draft.pages + 1)) (commit_bytes draft.site draft.session (draft.pages + 1))))
  time_is =
      subst (λ (n : ℕ). Passes g mid new (IsImage (added (g.choices mid) n (commit_bytes draft.site draft.session (draft.pages + 1))))) at_is
      (subst (λ (l : List ℕ). Passes g mid new (IsImage (added (g.choices mid) at l))) sector_is time)

  pub closes : (start : D) (payload : List ℕ) → IsGoing g start disk draft payload
      → IsOnDisk g start mid draft.site draft.session (draft.pages + 1) payload
      → IsClosed g start new (g.reads start) draft.site draft.session (draft.pages + 1) payload (put (g.reads mid) at sector)
  closes start payload is on_disk =
      let count = is.count in
      subst (λ (n : ℕ). IsClosed g start new (g.reads start) draft.site draft.session (draft.pages + 1) payload (put (g.reads mid) n sector)) (sym at_is)
      (subst (λ (l : List ℕ). IsClosed g start new (g.reads start) draft.site draft.session (draft.pages + 1) payload (put (g.reads mid) (draft.site.first + (draft.pages + 1)) l)) (sym sector_is)
      (closed g draft.site draft.session start mid new (draft.pages + 1) payload (omega arith) (omega arith) fits
      (commit_bytes-is_commit draft.site draft.session (draft.pages + 1) pages_fit session_fits sequence_fits) on_disk time_is))
