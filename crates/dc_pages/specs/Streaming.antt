-- A group's payload that is put piece by piece, seen with the group's disk (this product).
use Rattle.std.specs.Prelude.{◌≡◌, ◌<◌, ◌≤◌, ℕ, ◌+◌, List, ◌++◌, length}
use Rattle.mbdc_io.specs.Failures.{HasRisen}
use Rattle.dc_sectors.specs.declared.device.Disk.{Ghosts}
use Rattle.dc_sectors.specs.Runs.{LeavesOnly, Counts}
use Rattle.dc_pages.specs.Draft.{Draft, draft_len, HasRoom}
use Rattle.dc_pages.specs.PagesWriting.{SameOutside, IsPartOf, IsGoing}

module _ {D : Type 0} (g : Ghosts D) where
  -- The bytes went into the group.
  pub record GoesInto (old new : D) (was is : Draft) (bytes : List ℕ) : Type 0 where
    pub length_is : draft_len is ≡ draft_len was + length bytes
    pub some : 0 < length bytes → 0 < length is.buffer
    pub still_some : 0 < length was.buffer → 0 < length is.buffer
    pub same : is ≡ record was { pages = is.pages; buffer = is.buffer }
    pub going : (start : D) (payload : List ℕ)
        → IsGoing g start old was payload → IsGoing g start new is (payload ++ bytes)
    pub elsewhere : SameOutside was.site (g.reads old) (g.reads new)
    pub before : g.keeps new → g.keeps old
    pub counts : Counts g old new ⊥

  -- They didn't: where there is room for them, the disk failed. No commit sector was written.
  pub record BreaksOff (old new : D) (was : Draft) (bytes : List ℕ) : Type 0 where
    pub failed : HasRoom was (length bytes) → was.site.limit ≤ g.sectors old
        → HasRisen (g.failures old) (g.failures new)
    pub any_moment : (start : D) (payload : List ℕ) → IsGoing g start old was payload
        → LeavesOnly g start new (IsPartOf was.site was.session (g.reads start))
    pub elsewhere : SameOutside was.site (g.reads old) (g.reads new)
    pub before : g.keeps new → g.keeps old
    pub count : g.sectors new ≡ g.sectors old
    pub later : g.failures old ≤ g.failures new
