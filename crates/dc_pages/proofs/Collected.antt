-- A group that is read, sector by sector.
use Rattle.std.proofs.Common.{Result, Bool, ◌≡◌, ◌⊎◌, inl, inr, ⊎_elim, ℕ, ◌<◌, ◌≤◌, ◌+◌, ◌*◌, ◌≢◌, List, [], ◌++◌, length, take, drop, arith, ap, sym, subst, ◌∙◌, refl}
use Rattle.std.proofs.lemmas.Bool.{cases_eq, cases_lt}
use Rattle.std.proofs.lemmas.List.{take_all, drop_at, length-append, length-drop, length-take-le}
use Rattle.dc_sectors.specs.declared.sector.Sector.TheVariants.{Bytes, Unreadable}
use Rattle.dc_sectors.specs.Disk.{Image}
use Rattle.dc_pages.specs.Group.{IsHead, IsPage, IsCommit, IsGroup, commit_kind, piece}
use Rattle.dc_pages.specs.Reading.{IsBegun, IsCutAt}
use Rattle.dc_pages.specs.Judging.{IsStep}
use Rattle.dc_pages.proofs.Agree.{page_or_commit}
use Rattle.dc_pages.specs.declared.fault.GroupFault.{GroupFault}
use Rattle.dc_pages.proofs.Turning.{piece_same}
use Rattle.dc_pages.specs.declared.site.Site.{Site}

-- the bytes under a head that was judged are that page
pub page_read : (site : Site) (kind version index sequence used session at : ℕ) (bytes : List ℕ) → length bytes ≡ 512 → used ≤ 488
    → kind ≡ site.kind → version ≡ site.version → index ≡ at → sequence ≡ site.sequence → IsHead kind version used index session sequence bytes
    → IsPage site session at (take used (drop 24 bytes)) (Bytes bytes)
page_read site kind version index sequence used session at bytes long le k v i q head =
    let full : length (take used (drop 24 bytes)) ≡ used = length-take-le used (drop 24 bytes) (omega (arith, length-drop 24 bytes)) in
    record {
      bytes = bytes;
      readable = refl;
      head = record { kind_is = head.kind_is ∙ k; version_is = head.version_is ∙ v; used_is = head.used_is ∙ sym full; index_is = head.index_is ∙ i; session_is = head.session_is; sequence_is = head.sequence_is ∙ q };
      content_is = ap (λ (n : ℕ). take n (drop 24 bytes)) full;
    }

-- one page more
pub begun_more : (site : Site) (session : ℕ) (payload content : List ℕ) (i : ℕ) (image : Image) → IsBegun site session payload i image
    → length payload ≡ 488 * i → 0 < length content → length content ≤ 488 → site.first + i < site.limit → IsPage site session i content (image (site.first + i))
    → IsBegun site session (payload ++ content) (i + 1) image
begun_more site session payload content i image is full some le fits page =
    let long = length-append payload content in
    record {
      some = inr (omega arith);
      all = omega arith;
      fits = omega arith;
      page = λ k lt. ⊎_elim
          (λ (e : k ≡ i). subst (λ (j : ℕ). IsPage site session j (piece j (payload ++ content)) (image (site.first + j))) (sym e)
          (subst (λ (c : List ℕ). IsPage site session i c (image (site.first + i))) (sym (ap (take 488) (drop_at payload content (488 * i) full) ∙ take_all 488 content le)) page))
          (λ (not : k ≡ i → ⊥). earlier k (below k lt not))
          (cases_eq k i);
    }
  where
    below : (k : ℕ) → k < i + 1 → (k ≡ i → ⊥) → k < i
    below k lt not = ⊎_elim (λ (yes : k < i). yes) (λ (ge : i ≤ k). absurd (not (omega arith))) (cases_lt k i)

    earlier : (k : ℕ) → k < i → IsPage site session k (piece k (payload ++ content)) (image (site.first + k))
    earlier k lt = subst (λ (c : List ℕ). IsPage site session k c (image (site.first + k))) (sym (piece_same k payload content (omega arith))) (is.page k lt)

-- and the commit sector
pub begun_closed : (site : Site) (session : ℕ) (payload : List ℕ) (i : ℕ) (image : Image) → IsBegun site session payload i image
    → 0 < i → site.first + i < site.limit → IsCommit site session i (image (site.first + i)) → IsGroup site session payload i image
begun_closed site session payload i image is some fits commit = record {
  some = ⊎_elim (λ none. absurd (omega (arith, none))) (λ more. more) is.some;
  all = is.all;
  fits = fits;
  page = is.page;
  commit = commit;
}

-- before the first sector
pub begun_first : (site : Site) (session : ℕ) (image : Image) → site.first ≤ site.limit → IsBegun site session [] 0 image
begun_first site session image le = record { some = inl refl; all = omega arith; fits = omega arith; page = λ k lt. absurd (omega arith) }

-- the ways in which a sector doesn't fit
pub cut_lost : (site : Site) (session : ℕ) (payload : List ℕ) (i n : ℕ) (image : Image) → IsBegun site session payload i image
    → n ≡ site.first + i → image n ≡ Unreadable → IsCutAt site n image
cut_lost site session payload i n image is at lost = record {
  session = session;
  payload = payload;
  i = i;
  at = at;
  begun = is;
  no_page = λ lt full s content of some le page. let readable = page.readable in cc;
  no_commit = λ lt some commit. let readable = commit.readable in cc;
}

pub cut_end : (site : Site) (session : ℕ) (payload : List ℕ) (i n : ℕ) (image : Image) → IsBegun site session payload i image
    → n ≡ site.first + i → site.limit ≤ n → IsCutAt site n image
cut_end site session payload i n image is at past = record {
  session = session;
  payload = payload;
  i = i;
  at = at;
  begun = is;
  no_page = λ lt full s content of some le page. absurd (omega arith);
  no_commit = λ lt some commit. absurd (omega arith);
}

pub cut_neither : (site : Site) (session : ℕ) (payload bytes : List ℕ) (i n : ℕ) (image : Image) → IsBegun site session payload i image
    → n ≡ site.first + i → image n ≡ Bytes bytes
    → ((s : ℕ) (content : List ℕ) → (i ≡ 0) ⊎ (s ≡ session) → 0 < length content → length content ≤ 488 → IsPage site s i content (Bytes bytes) → ⊥)
    → (0 < i → IsCommit site session i (Bytes bytes) → ⊥) → IsCutAt site n image
cut_neither site session payload bytes i n image is at e page_not commit_not = record {
  session = session;
  payload = payload;
  i = i;
  at = at;
  begun = is;
  no_page = λ lt full s content of some le page. page_not s content of some le (subst (IsPage site s i content) e page);
  no_commit = λ lt some commit. commit_not some (subst (IsCommit site session i) e commit);
}

-- a page after one that isn't full
pub cut_short : (site : Site) (session s : ℕ) (payload content bytes : List ℕ) (i n : ℕ) (image : Image) → site.kind ≢ commit_kind → IsBegun site session payload i image
    → n ≡ site.first + i → image n ≡ Bytes bytes → (length payload ≡ 488 * i → ⊥) → IsPage site s i content (Bytes bytes) → IsCutAt site n image
cut_short site session s payload content bytes i n image other is at e not_full page = record {
  session = session;
  payload = payload;
  i = i;
  at = at;
  begun = is;
  no_page = λ lt full s' content' of some le page'. absurd (not_full full);
  no_commit = λ lt some commit. page_or_commit _ _ _ _ _ _ _ _ other page (subst (IsCommit site session i) e commit);
}

-- one page more, of a session that may be the first one's
pub begun_page : (site : Site) (session s used : ℕ) (payload bytes : List ℕ) (i n : ℕ) (image : Image) → IsBegun site session payload i image
    → length bytes ≡ 512 → length payload ≡ 488 * i → (i ≡ 0) ⊎ (s ≡ session) → 0 < used → used ≤ 488 → n ≡ site.first + i → n < site.limit → image n ≡ Bytes bytes
    → IsPage site s i (take used (drop 24 bytes)) (Bytes bytes)
    → IsBegun site s (payload ++ take used (drop 24 bytes)) (i + 1) image
begun_page site session s used payload bytes i n image is long full of some le at lt e page =
    let count : length (take used (drop 24 bytes)) ≡ used = length-take-le used (drop 24 bytes) (omega (arith, length-drop 24 bytes)) in
    begun_more site s payload (take used (drop 24 bytes)) i image again full (omega arith) (omega arith) (omega arith)
    (subst (IsPage site s i (take used (drop 24 bytes))) (sym (ap image (sym at) ∙ e)) page)
  where
    again : IsBegun site s payload i image
    again = ⊎_elim
        (λ (none : i ≡ 0). record { some = is.some; all = is.all; fits = is.fits; page = λ k lt. absurd (omega (arith, none)) })
        (λ (same : s ≡ session). subst (λ (x : ℕ). IsBegun site x payload i image) (sym same) is)
        of

-- one step, of the site that was and in the image that is read
pub step_read : (site site' : Site) (image image' : Image) (at session pages session' pages' : ℕ) (payload payload' : List ℕ) (result : Result Bool GroupFault) → site ≡ site' → image ≡ image'
    → (at ≡ site.first + pages → at < site.limit → IsBegun site session payload pages image → IsStep site image session' pages' payload' result)
    → at ≡ site'.first + pages → at < site'.limit → IsBegun site' session payload pages image' → IsStep site' image' session' pages' payload' result
step_read site site' image image' at session pages session' pages' payload payload' result same_site same_image step =
    let P : Site → Image → Type 0 = λ s i. at ≡ s.first + pages → at < s.limit → IsBegun s session payload pages i → IsStep s i session' pages' payload' result in
    subst (λ (s : Site). P s image') same_site (subst (P site) same_image step)
