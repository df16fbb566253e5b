-- For the crates above: stamps alone decide that a group is complete only as it was written, so that one
-- sync makes the whole group durable.
use Rattle.std.proofs.Common.{◌≡◌, ◌⊎◌, inl, inr, ⊎_elim, ℕ, ◌<◌, ◌≤◌, ◌+◌, ◌-◌, List, arith, ap, sym, subst, ◌∙◌, ◌≢◌}
use Rattle.std.proofs.lemmas.Bool.{cases_eq, cases_lt}
use Rattle.dc_sectors.specs.declared.sector.Sector.{Sector}
use Rattle.dc_sectors.specs.declared.sector.Sector.TheVariants.{Unreadable}
use Rattle.dc_sectors.specs.Disk.{Image}
use Rattle.dc_pages.specs.Group.{IsPage, IsCommit, IsGroup, IsComplete, Carries, IsPageKind, IsKnown, commit_kind, piece}
use Rattle.dc_pages.specs.PagesWriting.{IsTorn, IsPartOf}
use Rattle.dc_sectors.specs.Fields.{field}
use Rattle.dc_pages.proofs.Agree.{same_group, page_or_commit}
use Rattle.dc_sectors.proofs.Texts.{one_text}
use Rattle.dc_pages.specs.declared.site.Site.{Site}

pub not_commit : (kind : ℕ) → IsPageKind kind → kind ≢ commit_kind
not_commit kind is e = ⊎_elim (λ base. omega (arith, base, e)) (λ change. omega (arith, change, e)) is

pub page_carries : (site : Site) (session index : ℕ) (content : List ℕ) (sector : Sector) → IsPageKind site.kind → IsKnown site.version
    → IsPage site session index content sector → Carries session site.sequence sector
page_carries site session index content sector is known page = record {
  bytes = page.bytes;
  readable = page.readable;
  kind_is = inl (⊎_elim (λ e. inl (page.head.kind_is ∙ e)) (λ e. inr (page.head.kind_is ∙ e)) is);
  version_is = ⊎_elim (λ e. inl (page.head.version_is ∙ e)) (λ e. inr (page.head.version_is ∙ e)) known;
  session_is = page.head.session_is;
  sequence_is = page.head.sequence_is;
}

pub commit_carries : (site : Site) (session pages : ℕ) (sector : Sector) → IsKnown site.version → IsCommit site session pages sector → Carries session site.sequence sector
commit_carries site session pages sector known commit = record {
  bytes = commit.bytes;
  readable = commit.readable;
  kind_is = inr commit.head.kind_is;
  version_is = ⊎_elim (λ e. inl (commit.head.version_is ∙ e)) (λ e. inr (commit.head.version_is ∙ e)) known;
  session_is = commit.head.session_is;
  sequence_is = commit.head.sequence_is;
}

-- a sector carries one stamp
pub one_stamp : (session sequence session' sequence' : ℕ) (sector : Sector) → Carries session sequence sector → Carries session' sequence' sector → (session ≡ session') × (sequence ≡ sequence')
one_stamp session sequence session' sequence' sector a b =
    let same = one_text sector a.bytes b.bytes a.readable b.readable in (
      sym a.session_is ∙ ap (λ (bytes : List ℕ). field 8 8 bytes) same ∙ b.session_is,
      sym a.sequence_is ∙ ap (λ (bytes : List ℕ). field 8 16 bytes) same ∙ b.sequence_is,
    )

pub lost_carries_none : (session sequence : ℕ) (sector : Sector) → sector ≡ Unreadable → Carries session sequence sector → ⊥
lost_carries_none session sequence sector lost is = let readable = is.readable in cc

-- each sector of a group carries its stamp
pub member : (site : Site) (session : ℕ) (payload : List ℕ) (pages : ℕ) (image : Image) → IsPageKind site.kind → IsKnown site.version
    → IsGroup site session payload pages image → (m : ℕ) → site.first ≤ m → m ≤ site.first + pages → Carries session site.sequence (image m)
member site session payload pages image is known group m le up =
    ⊎_elim (λ (last : m ≡ site.first + pages). subst (λ (k : ℕ). Carries session site.sequence (image k)) (sym last) (commit_carries site session pages _ known group.commit))
    (λ (earlier : m ≡ site.first + pages → ⊥).
    let lt : m - site.first < pages = before earlier in
    let at : site.first + (m - site.first) ≡ m = omega arith in
    subst (λ (k : ℕ). Carries session site.sequence (image k)) at (page_carries site session (m - site.first) _ _ is known (group.page (m - site.first) lt)))
    (cases_eq m (site.first + pages))
  where
    before : (m ≡ site.first + pages → ⊥) → m - site.first < pages
    before not = ⊎_elim (λ (lt : m < site.first + pages). omega arith) (λ (ge : site.first + pages ≤ m). absurd (not (omega arith))) (cases_lt m (site.first + pages))

-- WHERE NO SECTOR OF THE RANGE CARRIED THE STAMP, a group that is complete in a torn image was complete before, or each sector
-- of the range is as written.
pub old_or_as_written : (site : Site) (session : ℕ) (payload : List ℕ) (pages : ℕ) (old written image : Image) → IsPageKind site.kind → IsKnown site.version
    → IsGroup site session payload pages written → IsTorn site.first (pages + 1) old written image
    → ((m : ℕ) → site.first ≤ m → m ≤ site.first + pages → Carries session site.sequence (old m) → ⊥)
    → (session' : ℕ) (payload' : List ℕ) (pages' : ℕ) → IsGroup site session' payload' pages' image
    → IsGroup site session' payload' pages' old ⊎ ((m : ℕ) → site.first ≤ m → m ≤ site.first + pages → image m ≡ written m)
old_or_as_written site session payload pages old written image is known group torn unused session' payload' pages' complete =
    ⊎_elim (λ same. inr (as_written same)) (λ (other : session' ≡ session → ⊥). inl (same_group site session' payload' pages' image old (all_old other) complete)) (cases_eq session' session)
  where
    of : (m : ℕ) → site.first ≤ m → m ≤ site.first + pages' → Carries session' site.sequence (image m)
    of m le up = member site session' payload' pages' image is known complete m le up

    of_written : (m : ℕ) → site.first ≤ m → m ≤ site.first + pages → Carries session site.sequence (written m)
    of_written m le up = member site session payload pages written is known group m le up

    -- another session's sectors are all old
    all_old : (session' ≡ session → ⊥) → (m : ℕ) → site.first ≤ m → m ≤ site.first + pages' → image m ≡ old m
    all_old other m le up = ⊎_elim
        (λ (lt : m < site.first + (pages + 1)). ⊎_elim
        (λ either. ⊎_elim (λ (e : image m ≡ old m). e) (λ (lost : image m ≡ Unreadable). absurd (lost_carries_none session' site.sequence (image m) lost (of m le up))) either)
        (λ (e : image m ≡ written m). absurd (other (sym (one_stamp session site.sequence session' site.sequence (written m) (of_written m le (omega arith)) (subst (Carries session' site.sequence) e (of m le up))).0)))
        (torn.inside m le lt))
        (λ (ge : site.first + (pages + 1) ≤ m). torn.outside m (inr ge))
        (cases_lt m (site.first + (pages + 1)))

    -- this session's sectors are all written
    here : session' ≡ session → (m : ℕ) → site.first ≤ m → m ≤ site.first + pages' → m ≤ site.first + pages → image m ≡ written m
    here same m le up in_range = ⊎_elim
        (λ either. ⊎_elim
        (λ (e : image m ≡ old m). absurd (unused m le in_range (subst (λ (s : ℕ). Carries s site.sequence (old m)) same (subst (Carries session' site.sequence) e (of m le up)))))
        (λ (lost : image m ≡ Unreadable). absurd (lost_carries_none session' site.sequence (image m) lost (of m le up))) either)
        (λ (e : image m ≡ written m). e)
        (torn.inside m le (omega arith))

    no_longer : session' ≡ session → pages' ≤ pages
    no_longer same = ⊎_elim
        (λ (lt : pages < pages'). absurd (page_or_commit site site session' pages session pages (piece pages payload') (image (site.first + pages)) (not_commit site.kind is)
        (complete.page pages lt)
        (subst (IsCommit site session pages) (sym (here same (site.first + pages) (omega arith) (omega arith) (omega arith))) group.commit)))
        (λ le. le) (cases_lt pages pages')

    no_shorter : session' ≡ session → pages ≤ pages'
    no_shorter same = ⊎_elim
        (λ (lt : pages' < pages). absurd (page_or_commit site site session pages' session' pages' (piece pages' payload) (written (site.first + pages')) (not_commit site.kind is)
        (group.page pages' lt)
        (subst (IsCommit site session' pages') (here same (site.first + pages') (omega arith) (omega arith) (omega arith)) complete.commit)))
        (λ le. le) (cases_lt pages' pages)

    as_written : session' ≡ session → (m : ℕ) → site.first ≤ m → m ≤ site.first + pages → image m ≡ written m
    as_written same m le up = let ge = no_shorter same in here same m le (omega arith) up

-- and where no group of that kind and sequence was complete, it is as written
pub one_sync : (site : Site) (session : ℕ) (payload : List ℕ) (pages : ℕ) (old written image : Image) → IsPageKind site.kind → IsKnown site.version
    → IsGroup site session payload pages written → IsTorn site.first (pages + 1) old written image
    → ((m : ℕ) → site.first ≤ m → m ≤ site.first + pages → Carries session site.sequence (old m) → ⊥)
    → (IsComplete site old → ⊥) → IsComplete site image
    → (m : ℕ) → site.first ≤ m → m ≤ site.first + pages → image m ≡ written m
one_sync site session payload pages old written image is known group torn unused not_old complete =
    ⊎_elim (λ was. absurd (not_old (record { session = complete.session; payload = complete.payload; pages = complete.pages; group = was }))) (λ as_written. as_written)
    (old_or_as_written site session payload pages old written image is known group torn unused complete.session complete.payload complete.pages complete.group)

-- With pages alone written, a group that is complete was complete before.
pub complete_before : (site : Site) (session : ℕ) (old image : Image) → IsPageKind site.kind → IsKnown site.version
    → IsPartOf site session old image
    → ((m : ℕ) → site.first ≤ m → m < site.limit → Carries session site.sequence (old m) → ⊥)
    → (session' : ℕ) (payload' : List ℕ) (pages' : ℕ) → IsGroup site session' payload' pages' image → IsGroup site session' payload' pages' old
complete_before site session old image is known part unused session' payload' pages' complete =
    ⊎_elim (λ same. absurd (of_session same)) (λ (other : session' ≡ session → ⊥). same_group site session' payload' pages' image old (all_old other) complete) (cases_eq session' session)
  where
    of : (m : ℕ) → site.first ≤ m → m ≤ site.first + pages' → Carries session' site.sequence (image m)
    of m le up = member site session' payload' pages' image is known complete m le up

    all_old : (session' ≡ session → ⊥) → (m : ℕ) → site.first ≤ m → m ≤ site.first + pages' → image m ≡ old m
    all_old other m le up =
        let fits = complete.fits in
        let at : site.first + (m - site.first) ≡ m = omega arith in
        subst (λ (k : ℕ). image k ≡ old k) at (⊎_elim
        (λ either. ⊎_elim (λ (e : image (site.first + (m - site.first)) ≡ old (site.first + (m - site.first))). e)
        (λ (lost : image (site.first + (m - site.first)) ≡ Unreadable). absurd (lost_carries_none session' site.sequence (image (site.first + (m - site.first))) lost (of (site.first + (m - site.first)) (omega arith) (omega arith)))) either)
        (λ page. absurd (other (sym (one_stamp session site.sequence session' site.sequence (image (site.first + (m - site.first))) (page_carries site session (m - site.first) page.0 _ is known page.1) (of (site.first + (m - site.first)) (omega arith) (omega arith))).0)))
        (part.inside (m - site.first) (omega arith)))

    of_session : session' ≡ session → ⊥
    of_session same =
        let fits = complete.fits in
        let commit = complete.commit in
        ⊎_elim
        (λ either. ⊎_elim
        (λ (e : image (site.first + pages') ≡ old (site.first + pages')). unused (site.first + pages') (omega arith) fits
        (subst (λ (s : ℕ). Carries s site.sequence (old (site.first + pages'))) same (subst (Carries session' site.sequence) e (of (site.first + pages') (omega arith) (omega arith)))))
        (λ (lost : image (site.first + pages') ≡ Unreadable). lost_carries_none session' site.sequence (image (site.first + pages')) lost (of (site.first + pages') (omega arith) (omega arith))) either)
        (λ page. page_or_commit site site session pages' session' pages' page.0 (image (site.first + pages')) (not_commit site.kind is) page.1 commit)
        (part.inside pages' fits)

-- and where none was, none is
pub part_incomplete : (site : Site) (session : ℕ) (old image : Image) → IsPageKind site.kind → IsKnown site.version
    → IsPartOf site session old image
    → ((m : ℕ) → site.first ≤ m → m < site.limit → Carries session site.sequence (old m) → ⊥)
    → (IsComplete site old → ⊥) → IsComplete site image → ⊥
part_incomplete site session old image is known part unused not_old complete = not_old (record {
  session = complete.session;
  payload = complete.payload;
  pages = complete.pages;
  group = complete_before site session old image is known part unused complete.session complete.payload complete.pages complete.group;
})
