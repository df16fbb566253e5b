-- A group writer's draft, from its first byte to its commit sector.
use Rattle.std.proofs.Common.{◌≡◌, ◌⊎◌, inl, inr, ⊎_elim, ℕ, ◌+◌, ◌*◌, List, [], length, arith, ap, sym, subst, ◌∙◌, refl}
use Rattle.std.specs.Prelude.{Contains}
use Rattle.std.proofs.lemmas.List.{drop_all}
use Rattle.dc_sectors.specs.Disk.{Image, Choices, IsImage}
use Rattle.dc_sectors.specs.Images.{only_one, settled_image}
use Rattle.dc_sectors.specs.declared.device.Disk.{Ghosts}
use Rattle.dc_sectors.specs.Runs.{LeavesOnly, IsSettled}
use Rattle.dc_sectors.proofs.Moments.{started, weakened}
use Rattle.dc_pages.specs.declared.site.Site.{Site}
use Rattle.dc_pages.specs.Draft.{Draft}
use Rattle.dc_pages.specs.PagesWriting.{IsPartOf, IsGoing, IsClosed}
use Rattle.mbdc_log.specs.Writing.{IsAttempt, IsWritten}

-- drafts of one group
record IsSameGroup (old new : Draft) : Type 0 where
  site : new.site ≡ old.site
  session : new.session ≡ old.session

part_of_itself : (site : Site) (session : ℕ) (old : Image) → IsPartOf site session old old
part_of_itself site session old = record { inside = λ i lt. inl (inl refl); outside = λ k out. refl }

-- before the first byte
begun : {D : Type 0} (g : Ghosts D) (disk : D) (draft : Draft)
    → ((image : Image) → g.images_since disk (g.moment disk) image → IsImage (g.choices disk) image) → IsSettled g disk
    → draft.pages ≡ 0 → draft.buffer ≡ [] → IsGoing g disk disk draft []
begun g disk draft only_now is_settled no_page no_byte = record {
  count = omega (arith, ap (length {A = ℕ}) no_byte, no_page);
  buffered = no_byte ∙ sym (drop_all (488 * draft.pages) [] (omega arith));
  on_disk = record {
    pages = λ i lt. absurd (omega arith);
    outside = λ k out. refl;
    choices_are = λ k s in_it. inl (only_one (g.reads disk k) s (subst (λ (c : Choices). Contains (c k) s) is_settled in_it));
    any_moment = started g disk _ (λ image left. subst (λ (i : Image). IsPartOf draft.site draft.session (g.reads disk) i)
        (sym (settled_image (g.reads disk) image (subst (λ (c : Choices). IsImage c image) is_settled (only_now image left)))) (part_of_itself draft.site draft.session (g.reads disk)));
  };
}

same_as : (a w : Draft) → w ≡ a → IsSameGroup a w
same_as a w e = record { site = ap (λ (x : Draft). x.site) e; session = ap (λ (x : Draft). x.session) e }

same_put : (a b w : Draft) → IsSameGroup a b → w ≡ record b { pages = w.pages; buffer = w.buffer } → IsSameGroup a w
same_put a b w one e = record { site = ap (λ (x : Draft). x.site) e ∙ one.site; session = ap (λ (x : Draft). x.session) e ∙ one.session }

-- what is said of a group by its site and session
at_same : (P : Site → ℕ → Type 0) (a w : Draft) → IsSameGroup a w → P w.site w.session → P a.site a.session
at_same P a w same is = subst (λ (x : Site). P x a.session) same.site (subst (λ (x : ℕ). P w.site x) same.session is)

module _ {D : Type 0} (g : Ghosts D) (start new : D) (old : Image) (site : Site) (session : ℕ) (payload : List ℕ) where
  -- with pages alone
  attempt_part : LeavesOnly g start new (IsPartOf site session old) → LeavesOnly g start new (IsAttempt site session payload old)
  attempt_part run = weakened g start new _ _ run (λ image part. inl part)

  -- with the commit sector too
  attempt_closed : (pages : ℕ) (written : Image) → IsClosed g start new old site session pages payload written
      → LeavesOnly g start new (IsAttempt site session payload old)
  attempt_closed pages written closed = weakened g start new _ _ closed.any_moment
      (λ image either. ⊎_elim (λ part. inl part) (λ torn. inr (record { pages = pages; written = written; group = closed.group; torn = torn })) either)

  written_closed : (pages count : ℕ) (image : Image) → count ≡ pages + 1 → IsClosed g start new old site session pages payload image
      → IsWritten site session payload count old image
  written_closed pages count image at closed = record { pages = pages; count_is = at; group = closed.group; outside = closed.outside }

-- a group before its first byte
abbrev first_draft : (site : Site) (session : ℕ) → Draft
first_draft site session = record { site = site; session = session; pages = 0; buffer = [] }

-- WHAT THE WRITING OF A GROUP BEGINS WITH: a settled disk and a draft without a byte. The last premise is the trait's only_now.
pub record Begins {D : Type 0} (g : Ghosts D) (disk : D) (first : Draft)
    (site : Site) (session : ℕ) : Type 0 where
  pub draft_is : first ≡ first_draft site session
  pub is_settled : IsSettled g disk
  pub only_now : (image : Image) → g.images_since disk (g.moment disk) image → IsImage (g.choices disk) image

module _ {D : Type 0} {g : Ghosts D} {disk : D} {first : Draft}
    {site : Site} {session : ℕ} (begins : Begins g disk first site session) where
  pub first_going : IsGoing g disk disk first []
  first_going = begun g disk first begins.only_now begins.is_settled (ap (λ (d : Draft). d.pages) begins.draft_is) (ap (λ (d : Draft). d.buffer) begins.draft_is)

  same_first : IsSameGroup (first_draft site session) first
  same_first = same_as (first_draft site session) first begins.draft_is

  module _ (payload : List ℕ) (new : D) where
    -- the payload couldn't be put
    pub put_failed : LeavesOnly g disk new (IsPartOf first.site first.session (g.reads disk))
        → LeavesOnly g disk new (IsAttempt site session payload (g.reads disk))
    put_failed run = attempt_part g disk new (g.reads disk) site session payload
        (at_same (λ x s. LeavesOnly g disk new (IsPartOf x s (g.reads disk))) (first_draft site session) first same_first run)

    -- `full` is the draft with the whole payload
    module _ (full : Draft) (same : full ≡ record first { pages = full.pages; buffer = full.buffer }) where
      same_full : IsSameGroup (first_draft site session) full
      same_full = same_put (first_draft site session) first full same_first same

      closed_here : (written : Image) → IsClosed g disk new (g.reads disk) full.site full.session (full.pages + 1) payload written
          → IsClosed g disk new (g.reads disk) site session (full.pages + 1) payload written
      closed_here written closed =
          at_same (λ x s. IsClosed g disk new (g.reads disk) x s (full.pages + 1) payload written) (first_draft site session) full same_full closed

      -- the group couldn't be finished
      pub finish_failed : LeavesOnly g disk new (IsPartOf full.site full.session (g.reads disk))
          ⊎ ((written : Image) × IsClosed g disk new (g.reads disk) full.site full.session (full.pages + 1) payload written)
          → LeavesOnly g disk new (IsAttempt site session payload (g.reads disk))
      finish_failed left = ⊎_elim
          (λ part. attempt_part g disk new (g.reads disk) site session payload
          (at_same (λ x s. LeavesOnly g disk new (IsPartOf x s (g.reads disk))) (first_draft site session) full same_full part))
          (λ closed. attempt_closed g disk new (g.reads disk) site session payload (full.pages + 1) closed.0 (closed_here closed.0 closed.1))
          left

      module _ (closed : IsClosed g disk new (g.reads disk) full.site full.session (full.pages + 1) payload (g.reads new)) where
        pub finish_leaves : LeavesOnly g disk new (IsAttempt site session payload (g.reads disk))
        finish_leaves = attempt_closed g disk new (g.reads disk) site session payload (full.pages + 1) (g.reads new) (closed_here (g.reads new) closed)

        pub finish_written : (count : ℕ) → count ≡ full.pages + 2 → IsWritten site session payload count (g.reads disk) (g.reads new)
        finish_written count at =
            written_closed g disk new (g.reads disk) site session payload (full.pages + 1) count (g.reads new) (omega (arith, at)) (closed_here (g.reads new) closed)
