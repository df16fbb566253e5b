-- One more sector of a group on the disk.
use Rattle.std.proofs.Common.{◌≡◌, ◌⊎◌, inl, inr, ⊎_elim, ℕ, ◌<◌, ◌≤◌, ◌+◌, ◌-◌, ◌*◌, List, [], ◌∷◌, ◌++◌, length, take, drop, Contains, arith, ap, sym, subst, ◌∙◌, ◌≢◌, refl}
use Rattle.std.proofs.lemmas.Bool.{cases_eq, cases_lt}
use Rattle.std.proofs.lemmas.List.{take-append-le, drop-append-le, length-drop}
use Rattle.std.proofs.lemmas.List.Elements.{Contains-append_cases, Contains-push_cases}
use Rattle.dc_sectors.specs.declared.sector.Sector.{Sector}
use Rattle.dc_sectors.specs.declared.sector.Sector.TheVariants.{Bytes, Unreadable}
use Rattle.dc_sectors.specs.Disk.{Image, Choices, IsImage, put, added}
use Rattle.dc_sectors.specs.Images.{put_elsewhere, put_here, added_here, added_elsewhere}
use Rattle.dc_sectors.specs.declared.device.Disk.{Ghosts}
use Rattle.dc_sectors.specs.Runs.{Passes, LeavesOnly}
use Rattle.dc_sectors.proofs.Moments.{goes_on, weakened}
use Rattle.dc_pages.specs.Group.{IsPage, IsCommit, piece, commit_bytes}
use Rattle.dc_pages.specs.PagesWriting.{IsPageWritten, IsPartOf, IsTorn, IsOnDisk, IsClosed, TornAt, PartOrTorn}
use Rattle.dc_pages.specs.declared.site.Site.{Site}

pub torn_of_points : (first count : ℕ) (old written image : Image) → ((k : ℕ) → TornAt first count old written k (image k)) → IsTorn first count old written image
torn_of_points first count old written image at = record {
  inside = λ k le lt. ⊎_elim (λ e. inl (inl e)) (λ inner. ⊎_elim (λ lost. inl (inr lost)) (λ e. inr e) inner.2) (at k);
  outside = λ k out. ⊎_elim (λ e. e) (λ inner. absurd (not_both k inner.0 inner.1 out)) (at k);
}
  where
    not_both : (k : ℕ) → first ≤ k → k < first + count → (k < first) ⊎ (first + count ≤ k) → ⊥
    not_both k le lt out = ⊎_elim (λ below. omega (arith, below)) (λ above. omega (arith, above)) out

pub part_of_points : (site : Site) (session index : ℕ) (old written image : Image) → site.first + index ≤ site.limit
    → ((i : ℕ) → i < index → (content : List ℕ) × IsPage site session i content (written (site.first + i)))
    → ((k : ℕ) → TornAt site.first index old written k (image k)) → IsPartOf site session old image
part_of_points site session index old written image fits pages at = record {
  inside = λ i lt. ⊎_elim (λ e. inl (inl e)) (λ inner. ⊎_elim (λ lost. inl (inr lost))
      (λ e. let page = pages i (omega (arith, inner.1)) in inr (page.0, subst (IsPage site session i page.0) (sym e) page.1)) inner.2) (at (site.first + i));
  outside = λ k out. ⊎_elim (λ e. e) (λ inner. absurd (not_both k inner.0 inner.1 out)) (at k);
}
  where
    not_both : (k : ℕ) → site.first ≤ k → k < site.first + index → (k < site.first) ⊎ (site.limit ≤ k) → ⊥
    not_both k le lt out = ⊎_elim (λ below. omega (arith, below)) (λ above. omega (arith, above)) out

-- a write after those that were torn
pub torn_more : (first count : ℕ) (old before : Image) (choices : Choices) (bytes : List ℕ) → ((k : ℕ) (s : Sector) → Contains (choices k) s → TornAt first count old before k s)
    → (k : ℕ) (s : Sector) → Contains (added choices (first + count) bytes k) s → TornAt first (count + 1) old (put before (first + count) bytes) k s
torn_more first count old before choices bytes torn k s is = ⊎_elim here (λ (other : k ≡ first + count → ⊥).
    earlier other (subst (λ (l : List Sector). Contains l s) (added_elsewhere choices (first + count) bytes k other) is)) (cases_eq k (first + count))
  where
    earlier : (k ≡ first + count → ⊥) → Contains (choices k) s → TornAt first (count + 1) old (put before (first + count) bytes) k s
    earlier other in_old = ⊎_elim (λ e. inl e)
        (λ inner. inr (inner.0, omega (arith, inner.1), ⊎_elim (λ lost. inl lost) (λ e. inr (e ∙ sym (put_elsewhere before (first + count) bytes k other))) inner.2))
        (torn k s in_old)

    here : k ≡ first + count → TornAt first (count + 1) old (put before (first + count) bytes) k s
    here e = ⊎_elim
        (λ in_old. old_here (torn k s in_old))
        (λ new. inr (omega arith, omega arith, new_here new))
        (Contains-append_cases (choices k) (Bytes bytes ∷ Unreadable ∷ []) s (grown is))
      where
        grown : Contains (added choices (first + count) bytes k) s → Contains (choices k ++ Bytes bytes ∷ Unreadable ∷ []) s
        grown = subst (λ (l : List Sector). Contains l s) (added_here choices (first + count) bytes k e)

        old_here : TornAt first count old before k s → TornAt first (count + 1) old (put before (first + count) bytes) k s
        old_here at = ⊎_elim (λ was. inl was) (λ inner. absurd (omega (arith, inner.1, e))) at

        new_here : Contains (Bytes bytes ∷ Unreadable ∷ []) s → (s ≡ Unreadable) ⊎ (s ≡ put before (first + count) bytes k)
        new_here two = ⊎_elim (λ one. inr (only one ∙ sym (put_here before (first + count) bytes k e))) (λ lost. inl (sym lost)) (Contains-push_cases (Bytes bytes ∷ []) Unreadable s two)
          where
            only : Contains (Bytes bytes ∷ []) s → s ≡ Bytes bytes
            only one = ⊎_elim (λ none. absurd (omega (arith, none.1))) (λ same. sym same) (Contains-push_cases [] (Bytes bytes) s one)

-- the pieces before a page that is full don't change when more is added
pub piece_same : (i : ℕ) (payload more : List ℕ) → 488 * (i + 1) ≤ length payload → piece i (payload ++ more) ≡ piece i payload
piece_same i payload more le = ap (take 488) (drop-append-le (488 * i) payload more (omega arith)) ∙ take-append-le 488 (drop (488 * i) payload) more (omega (arith, length-drop (488 * i) payload))

-- one sector more of which something is said by its place
more_pages : (P : ℕ → Sector → Type 0) (place index : ℕ) (before : Image) (bytes : List ℕ) → ((i : ℕ) → i < index → P i (before (place + i))) → P index (Bytes bytes)
    → (i : ℕ) → i < index + 1 → P i (put before (place + index) bytes (place + i))
more_pages P place index before bytes earlier last i lt = ⊎_elim
    (λ (e : i ≡ index). subst (λ (j : ℕ). P j (put before (place + index) bytes (place + j))) (sym e) (subst (P index) (sym (put_here before (place + index) bytes (place + index) refl)) last))
    (λ (other : i ≡ index → ⊥). subst (P i) (sym (put_elsewhere before (place + index) bytes (place + i) (λ e. other (omega (arith, e))))) (earlier i (below other)))
    (cases_eq i index)
  where
    below : (i ≡ index → ⊥) → i < index
    below other = ⊎_elim (λ (yes : i < index). yes) (λ (ge : index ≤ i). absurd (other (omega arith))) (cases_lt i index)

not_here : (place index k : ℕ) → (k < place) ⊎ (place + (index + 1) ≤ k) → k ≢ place + index
not_here place index k out e = ⊎_elim (λ below. omega (arith, below, e)) (λ above. omega (arith, above, e)) out

further : (place index k : ℕ) → (k < place) ⊎ (place + (index + 1) ≤ k) → (k < place) ⊎ (place + index ≤ k)
further place index k out = ⊎_elim (λ below. inl below) (λ above. inr (omega (arith, above))) out

module _ {D : Type 0} (g : Ghosts D)
    (site : Site) (session : ℕ) where
  abbrev on_disk : D → D → ℕ → List ℕ → Type 0
  on_disk start disk index payload = IsOnDisk g start disk site session index payload

  abbrev is_part : D → Image → Type 0
  is_part start = IsPartOf site session (g.reads start)

  -- more of the payload in the buffer
  pub more_buffered : (start disk : D) (index : ℕ) (payload more : List ℕ) → 488 * index ≤ length payload → on_disk start disk index payload → on_disk start disk index (payload ++ more)
  more_buffered start disk index payload more le is = record {
    pages = λ i lt. subst (λ (c : List ℕ). IsPageWritten site session i c (g.reads disk (site.first + i))) (sym (piece_same i payload more (omega arith))) (is.pages i lt);
    outside = is.outside;
    choices_are = is.choices_are;
    any_moment = is.any_moment;
  }

  abbrev is_written : List ℕ → ℕ → Sector → Type 0
  is_written payload i sector = IsPageWritten site session i (piece i payload) sector

  -- what a crash leaves in the write of a page
  page_left : (start mid : D) (index : ℕ) (payload bytes : List ℕ) → site.first + index < site.limit → is_written payload index (Bytes bytes) → on_disk start mid index payload
      → (image : Image) → IsImage (added (g.choices mid) (site.first + index) bytes) image → is_part start image
  page_left start mid index payload bytes fits page is image in_added =
      part_of_points site session (index + 1) (g.reads start) (put (g.reads mid) (site.first + index) bytes) image (omega arith)
      (λ i lt. (piece i payload, (more_pages (is_written payload) site.first index (g.reads mid) bytes is.pages page i lt).page))
      (λ k. torn_more site.first index (g.reads start) (g.reads mid) (g.choices mid) bytes is.choices_are k (image k) (in_added k))

  pub flush_left : (start mid new : D) (index : ℕ) (payload bytes : List ℕ) → site.first + index < site.limit → is_written payload index (Bytes bytes) → on_disk start mid index payload
      → Passes g mid new (IsImage (added (g.choices mid) (site.first + index) bytes))
      → LeavesOnly g start new (is_part start)
  flush_left start mid new index payload bytes fits page is time =
      goes_on g start mid new (is_part start) (IsImage (added (g.choices mid) (site.first + index) bytes)) is.any_moment time (page_left start mid index payload bytes fits page is)

  pub flushed : (start mid new : D) (index : ℕ) (payload bytes : List ℕ) → site.first + index < site.limit → is_written payload index (Bytes bytes) → on_disk start mid index payload
      → Passes g mid new (IsImage (added (g.choices mid) (site.first + index) bytes))
      → g.reads new ≡ put (g.reads mid) (site.first + index) bytes → g.choices new ≡ added (g.choices mid) (site.first + index) bytes
      → on_disk start new (index + 1) payload
  flushed start mid new index payload bytes fits page is time reads_new choices_new = record {
    pages = λ i lt. subst (λ (image : Image). is_written payload i (image (site.first + i))) (sym reads_new) (more_pages (is_written payload) site.first index (g.reads mid) bytes is.pages page i lt);
    outside = λ k out. ap (λ (image : Image). image k) reads_new ∙ put_elsewhere (g.reads mid) (site.first + index) bytes k (not_here site.first index k out) ∙ is.outside k (further site.first index k out);
    choices_are = λ k s in_new. subst (λ (image : Image). TornAt site.first (index + 1) (g.reads start) image k s) (sym reads_new)
        (torn_more site.first index (g.reads start) (g.reads mid) (g.choices mid) bytes is.choices_are k s (subst (λ (c : Choices). Contains (c k) s) choices_new in_new));
    any_moment = flush_left start mid new index payload bytes fits page is time;
  }

  -- the commit sector after all pages
  module _ (start mid new : D) (pages : ℕ) (payload : List ℕ) (some : 488 * (pages - 1) < length payload) (all : length payload ≤ 488 * pages) (fits : site.first + pages < site.limit)
      (commit : IsCommit site session pages (Bytes (commit_bytes site session pages))) (is : on_disk start mid pages payload)
      (time : Passes g mid new (IsImage (added (g.choices mid) (site.first + pages) (commit_bytes site session pages)))) where
    abbrev bytes : List ℕ
    bytes = commit_bytes site session pages

    abbrev after : Image
    after = put (g.reads mid) (site.first + pages) bytes

    earlier : (i : ℕ) → i < pages → after (site.first + i) ≡ g.reads mid (site.first + i)
    earlier i lt = put_elsewhere (g.reads mid) (site.first + pages) bytes (site.first + i) (λ e. omega (arith, e))

    last : after (site.first + pages) ≡ Bytes bytes
    last = put_here (g.reads mid) (site.first + pages) bytes (site.first + pages) refl

    closed_left : LeavesOnly g start new (PartOrTorn site session pages (g.reads start) after)
    closed_left =
        let P = PartOrTorn site session pages (g.reads start) after in
        goes_on g start mid new P (IsImage (added (g.choices mid) (site.first + pages) bytes))
        (weakened g start mid (is_part start) P is.any_moment (λ image part. inl part)) time
        (λ image in_added. inr (torn_of_points site.first (pages + 1) (g.reads start) after image
        (λ k. torn_more site.first pages (g.reads start) (g.reads mid) (g.choices mid) bytes is.choices_are k (image k) (in_added k))))

    pub closed : IsClosed g start new (g.reads start) site session pages payload after
    closed = record {
      group = record {
        some = some;
        all = all;
        fits = fits;
        page = λ i lt. subst (IsPage site session i (piece i payload)) (sym (earlier i lt)) (is.pages i lt).page;
        commit = subst (IsCommit site session pages) (sym last) commit;
      };
      laid = record {
        page = λ i lt. earlier i lt ∙ (is.pages i lt).bytes_are;
        commit = last;
      };
      outside = λ k out. put_elsewhere (g.reads mid) (site.first + pages) bytes k (not_here site.first pages k out) ∙ is.outside k (further site.first pages k out);
      any_moment = closed_left;
    }
