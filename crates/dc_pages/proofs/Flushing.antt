-- The page in the buffer goes to the disk.
use Rattle.std.proofs.Common.{⊎_elim, ◌≡◌, ◌≢◌, ℕ, ◌<◌, ◌≤◌, ◌+◌, ◌^◌, List, ◌++◌, length, take, drop, arith, ap, sym, subst}
use Rattle.std.proofs.lemmas.List.{length-drop, length-take-le}
use Rattle.dc_sectors.specs.declared.sector.Sector.{Sector}
use Rattle.dc_sectors.specs.declared.sector.Sector.TheVariants.{Bytes}
use Rattle.dc_sectors.specs.Disk.{Image, IsImage, put, added}
use Rattle.dc_sectors.specs.declared.device.Disk.{Ghosts}
use Rattle.dc_sectors.specs.Runs.{Passes, LeavesOnly}
use Rattle.dc_pages.specs.Buffer.{IsBuffer}
use Rattle.dc_pages.specs.Draft.{Draft}
use Rattle.dc_pages.specs.Group.{IsPage, piece, head_bytes, page_bytes}
use Rattle.dc_pages.proofs.Stamped.{page_bytes-is_page}
use Rattle.dc_pages.specs.PagesWriting.{SameOutside, IsPageWritten, IsPartOf, IsOnDisk}
use Rattle.dc_pages.proofs.Buffers.{sealed}
use Rattle.dc_pages.proofs.Turning.{flush_left, flushed}
use Rattle.dc_pages.specs.declared.site.Site.{Site}

-- a sector of the site was written, and no other
pub same_outside : (site : Site) (old new : Image) (at : ℕ) → site.first ≤ at → at < site.limit → ((m : ℕ) → m ≢ at → new m ≡ old m) → SameOutside site old new
same_outside site old new at low high elsewhere m out =
    elsewhere m (⊎_elim (λ (before : m < site.first) (same : m ≡ at). absurd (omega arith)) (λ (after : site.limit ≤ m) (same : m ≡ at). absurd (omega arith)) out)

-- a head over the buffer makes the sector of its page
pub page_written : (site : Site) (session index used : ℕ) (page sector content : List ℕ) → IsBuffer used page
    → sector ≡ head_bytes site.kind site.version used index session site.sequence ++ drop 24 page → index < 2 ^ 32 → session < 2 ^ 64 → site.sequence < 2 ^ 64
    → take used (drop 24 page) ≡ content → IsPageWritten site session index content (Bytes sector)
page_written site session index used page sector content is e index_fits session_fits sequence_fits content_is =
    let small = is.small in
    let long = is.long in
    let buffer = take used (drop 24 page) in
    let full : length buffer ≡ used = length-take-le used (drop 24 page) (omega (arith, length-drop 24 page)) in
    let bytes_are : Bytes sector ≡ Bytes (page_bytes site session index buffer) = ap Bytes (sealed site session index used page sector is e) in
    let written : IsPageWritten site session index buffer (Bytes sector) = record {
      page = let P : Sector → Type 0 = λ s. IsPage site session index buffer s in
          subst P (sym bytes_are) (page_bytes-is_page site session index buffer (omega arith) index_fits session_fits sequence_fits);
      bytes_are = bytes_are;
    } in
    subst (λ (l : List ℕ). IsPageWritten site session index l (Bytes sector)) content_is written

module _ {D : Type 0} (g : Ghosts D) (disk new : D) where
  -- what the page's write leaves, whatever it answers
  abbrev pub LeavesPart : Draft → Type 0
  LeavesPart draft = (start : D) (payload : List ℕ) → draft.buffer ≡ piece draft.pages payload
      → IsOnDisk g start disk draft.site draft.session draft.pages payload
      → LeavesOnly g start new (IsPartOf draft.site draft.session (g.reads start))

  -- one page more is on the disk
  abbrev pub Flushes : Draft → Type 0
  Flushes draft = (start : D) (payload : List ℕ) → draft.buffer ≡ piece draft.pages payload
      → IsOnDisk g start disk draft.site draft.session draft.pages payload
      → IsOnDisk g start new draft.site draft.session (draft.pages + 1) payload

  module _ (draft : Draft) (sector : List ℕ) (fits : draft.site.first + draft.pages < draft.site.limit)
      (written : IsPageWritten draft.site draft.session draft.pages draft.buffer (Bytes sector))
      (time : Passes g disk new (IsImage (added (g.choices disk) (draft.site.first + draft.pages) sector))) where
    at_piece : (payload : List ℕ) → draft.buffer ≡ piece draft.pages payload → IsPageWritten draft.site draft.session draft.pages (piece draft.pages payload) (Bytes sector)
    at_piece payload e = subst (λ (l : List ℕ). IsPageWritten draft.site draft.session draft.pages l (Bytes sector)) e written

    pub leaves_part : LeavesPart draft
    leaves_part start payload e is =
        flush_left g draft.site draft.session start disk new draft.pages payload sector fits (at_piece payload e) is time

    pub flushes : g.reads new ≡ put (g.reads disk) (draft.site.first + draft.pages) sector → g.choices new ≡ added (g.choices disk) (draft.site.first + draft.pages) sector → Flushes draft
    flushes reads_new choices_new start payload e is =
        flushed g draft.site draft.session start disk new draft.pages payload sector fits (at_piece payload e) is time reads_new choices_new
