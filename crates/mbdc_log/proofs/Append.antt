-- What an image stands for when a group of changes is written.
use Rattle.std.proofs.Common.{◌≡◌, ◌⊎◌, inl, inr, ⊎_elim, ℕ, zero, suc, ◌<◌, ◌≤◌, ◌+◌, ◌*◌, ◌-◌, List, arith, sym, subst, refl}
use Rattle.std.proofs.lemmas.Bool.{cases_eq, cases_lt}
use Rattle.dc_sectors.specs.declared.sector.Sector.TheVariants.{Unreadable}
use Rattle.dc_sectors.specs.Disk.{Image}
use Rattle.dc_roots.specs.declared.root.Root.{Root}
use Rattle.dc_pages.specs.declared.site.Site.{Site}
use Rattle.dc_pages.specs.Group.{IsGroup, IsComplete, Carries}
use Rattle.dc_pages.specs.PagesWriting.{IsTorn, IsPartOf}
use Rattle.dc_roots.proofs.Choices.{same_chosen}
use Rattle.mbdc_log.specs.Halves.{half_start, half_end}
use Rattle.mbdc_log.specs.Halves.{budget_of}
use Rattle.mbdc_log.specs.Sites.{change_site}
use Rattle.mbdc_log.specs.Stands.{IsSequence, IsFresh, Holds, ReadsBy, StandsBy, IsReady}
use Rattle.dc_pages.proofs.Agree.{same_group}
use Rattle.dc_pages.specs.Group.{IsPageKind, IsKnown}
use Rattle.dc_pages.proofs.OneSync.{page_carries, one_stamp, lost_carries_none, member, one_sync, part_incomplete}
use Rattle.mbdc_io.specs.declared.kept.kept.Language.{Ghosts as Language}

-- a half lies within the two
pub half_within : (half_len half : ℕ) → half ≤ 1 → half_end half_len half ≤ 3 + 2 * half_len
half_within half_len half small = ⊎_elim
    (λ (e : half ≡ 0). subst (λ (h : ℕ). half_end half_len h ≤ 3 + 2 * half_len) (sym e) (omega arith))
    (λ (e : half ≡ 1). subst (λ (h : ℕ). half_end half_len h ≤ 3 + 2 * half_len) (sym e) (omega arith))
    (which half small)
  where
    which : (h : ℕ) → h ≤ 1 → (h ≡ 0) ⊎ (h ≡ 1)
    which h le = grind arith

module _ {K : Type 0} (lang : Language K) where
  pub any_complete_carries : (site : Site) (image : Image) → IsPageKind site.kind → IsKnown site.version
      → IsComplete site image → (site.first < site.limit) × ((s : ℕ) × Carries s site.sequence (image site.first))
  any_complete_carries site image is known complete =
      let fits = complete.group.fits in
      (omega arith, (complete.session, member site complete.session complete.payload complete.pages image is known complete.group site.first (omega arith) (omega arith)))

  abbrev holds : ℕ → Root → Image → ℕ → ℕ → lang.State → Type 0
  holds = Holds lang

  abbrev reads_by : ℕ → Root → ℕ → ℕ → lang.State → Image → Type 0
  reads_by = ReadsBy lang

  abbrev stands_by : ℕ → Root → ℕ → ℕ → lang.State → Image → Type 0
  stands_by = StandsBy lang

  abbrev is_ready : ℕ → Root → ℕ → ℕ → lang.State → Image → Type 0
  is_ready = IsReady lang

  -- where the next group would go: after the half's first sector, at most at its end
  pub place_within : (half_len : ℕ) (root : Root) (image : Image) (m place : ℕ) (state : lang.State) → holds half_len root image m place state
      → (half_start half_len root.half < place) × (place ≤ half_end half_len root.half)
  place_within half_len root image zero place state is = let fits = is.group.fits in let end = is.end in (omega arith, omega arith)
  place_within half_len root image (suc m) place state is =
      let earlier = place_within half_len root image m is.from is.was is.before in
      let fits = is.group.fits in
      let end = is.end in
      (omega arith, omega arith)

  -- images that agree up to the place hold the same
  pub same_holds : (half_len : ℕ) (root : Root) (a b : Image) (m place : ℕ) (state : lang.State)
      → ((k : ℕ) → half_start half_len root.half ≤ k → k < place → a k ≡ b k) → holds half_len root a m place state → holds half_len root b m place state
  same_holds half_len root a b zero place state same is =
      let end = is.end in
      record {
        session = is.session;
        payload = is.payload;
        pages = is.pages;
        spells = is.spells;
        end = is.end;
        group = same_group _ _ _ is.pages a b (λ k le up. same k le (omega arith)) is.group;
      }
  same_holds half_len root a b (suc m) place state same is =
      let end = is.end in
      let at = place_within half_len root a m is.from is.was is.before in
      record {
        from = is.from;
        was = is.was;
        session = is.session;
        payload = is.payload;
        pages = is.pages;
        is_sequence = is.is_sequence;
        changes = is.changes;
        spells = is.spells;
        accepted = is.accepted;
        state_is = is.state_is;
        end = is.end;
        before = same_holds half_len root a b m is.from is.was (λ k le up. same k le (omega arith)) is.before;
        group = same_group _ _ _ is.pages a b (λ k le up. same k (omega arith) (omega arith)) is.group;
      }

  -- what agrees on the slots and up to the place, is fresh and has no further group stands for the same
  pub kept : (half_len : ℕ) (root : Root) (m place : ℕ) (state : lang.State) (a b : Image) → stands_by half_len root m place state a
      → ((k : ℕ) → 1 ≤ k → k ≤ 2 → a k ≡ b k)
      → ((k : ℕ) → half_start half_len root.half ≤ k → k < place → a k ≡ b k)
      → (IsSequence (root.base_sequence + suc m) → IsComplete (change_site half_len root (root.base_sequence + suc m) place) b → ⊥)
      → IsFresh half_len root.session (root.base_sequence + suc m) b
      → stands_by half_len root m place state b
  kept half_len root m place state a b is slots same no_more fresh = record {
    reads = record {
      chosen = same_chosen root a b slots is.reads.chosen;
      version = is.reads.version;
      length_is = is.reads.length_is;
      holds = same_holds half_len root a b m place state same is.reads.holds;
      no_more = no_more;
    };
    fresh = fresh;
  }

  -- a torn write of sectors with stamps that are allowed stays fresh
  pub torn_fresh : (half_len session sequence s q first count : ℕ) (old written image : Image) → IsFresh half_len session sequence old → IsTorn first count old written image
      → ((k : ℕ) → first ≤ k → k < first + count → Carries s q (written k)) → s ≤ session → q ≤ sequence → IsFresh half_len session sequence image
  torn_fresh half_len session sequence s q first count old written image fresh torn carries low low' k s' q' from to is =
      ⊎_elim (λ (below : k < first). fresh k s' q' from to (subst (Carries s' q') (torn.outside k (inl below)) is))
      (λ (ge : first ≤ k). ⊎_elim
      (λ (lt : k < first + count). ⊎_elim
      (λ either. ⊎_elim (λ (e : image k ≡ old k). fresh k s' q' from to (subst (Carries s' q') e is)) (λ (lost : image k ≡ Unreadable). absurd (lost_carries_none s' q' (image k) lost is)) either)
      (λ (e : image k ≡ written k). let same = one_stamp s q s' q' (written k) (carries k ge lt) (subst (Carries s' q') e is) in (omega arith, omega arith))
      (torn.inside k ge lt))
      (λ (past : first + count ≤ k). fresh k s' q' from to (subst (Carries s' q') (torn.outside k (inr past)) is))
      (cases_lt k (first + count)))
      (cases_lt k first)

  module _ (half_len : ℕ) (root : Root) (m place : ℕ) (state : lang.State) (old : Image) (ready : is_ready half_len root m place state old)
      (is_sequence : IsSequence (root.base_sequence + suc m)) where
    abbrev sequence : ℕ
    sequence = root.base_sequence + suc m

    abbrev limit : ℕ
    limit = half_end half_len root.half

    abbrev site : Site
    site = change_site half_len root sequence place

    known : IsKnown root.version
    known = ready.stands.reads.version

    within : (half_start half_len root.half < place) × (place ≤ limit)
    within = place_within half_len root old m place state ready.stands.reads.holds

    -- the rest of the half lies within the two halves
    rest_within : (k : ℕ) → place ≤ k → k < limit → (3 ≤ k) × (k < 3 + 2 * half_len)
    rest_within k le lt =
        let small = half_within half_len root.half ready.stands.reads.chosen.here.half_small in
        let after_start = within in
        (omega arith, omega arith)

    unused : (k : ℕ) → place ≤ k → k < limit → Carries root.session sequence (old k) → ⊥
    unused k le lt = let at = rest_within k le lt in ready.unused k at.0 at.1

    -- with pages alone written: the state before
    pub append_part : (image : Image) → IsPartOf site root.session old image → stands_by half_len root m place state image
    append_part image part = kept half_len root m place state old image ready.stands
        (λ k low up. let at = within in sym (part.outside k (inl (omega arith))))
        (λ k low up. sym (part.outside k (inl up)))
        (λ _. part_incomplete site root.session old image (inr refl) known part unused (ready.stands.reads.no_more is_sequence))
        fresh
      where
        fresh : IsFresh half_len root.session sequence image
        fresh k s' q' from to is =
            ⊎_elim (λ (below : k < place). ready.stands.fresh k s' q' from to (subst (Carries s' q') (part.outside k (inl below)) is))
            (λ (ge : place ≤ k). ⊎_elim
            (λ (lt : k < limit). in_part k s' q' from to (k - place) (omega arith) lt is)
            (λ (past : limit ≤ k). ready.stands.fresh k s' q' from to (subst (Carries s' q') (part.outside k (inr past)) is))
            (cases_lt k limit))
            (cases_lt k place)
          where
            in_part : (k s' q' : ℕ) → 3 ≤ k → k < 3 + 2 * half_len → (i : ℕ) → place + i ≡ k → k < limit → Carries s' q' (image k) → (s' ≤ root.session) × (q' ≤ sequence)
            in_part k s' q' from to i at lt is =
                let here : Carries s' q' (image (place + i)) = subst (λ (n : ℕ). Carries s' q' (image n)) (sym at) is in
                ⊎_elim
                (λ either. ⊎_elim (λ (e : image (place + i) ≡ old (place + i)). ready.stands.fresh (place + i) s' q' (omega arith) (omega arith) (subst (Carries s' q') e here))
                (λ (lost : image (place + i) ≡ Unreadable). absurd (lost_carries_none s' q' (image (place + i)) lost here)) either)
                (λ page. let same = one_stamp root.session sequence s' q' (image (place + i)) (page_carries site root.session i page.0 _ (inr refl) known page.1) here in (omega arith, omega arith))
                (part.inside i (omega arith))

    module _ (payload : List ℕ) (pages : ℕ) (changes : List lang.Change) (written : Image)
        (group : IsGroup site root.session payload pages written)
        (spells : lang.SpellsChanges payload changes) (accepted : lang.Accepts (budget_of half_len) state changes) where
      of_written : (k : ℕ) → place ≤ k → k ≤ place + pages → Carries root.session sequence (written k)
      of_written k le up = member site root.session payload pages written (inr refl) known group k le up

      abbrev after_all : lang.State
      after_all = lang.after state changes

      -- an image in which each is as written stands for the state after
      stands_after : (image : Image) → IsTorn place (pages + 1) old written image → ((k : ℕ) → place ≤ k → k < place + (pages + 1) → image k ≡ written k)
          → stands_by half_len root (suc m) (place + pages + 1) after_all image
      stands_after image torn all = record {
        reads = record {
          chosen = same_chosen root old image (λ k low up. let at = within in sym (torn.outside k (inl (omega arith)))) ready.stands.reads.chosen;
          version = ready.stands.reads.version;
          length_is = ready.stands.reads.length_is;
          holds = record {
            from = place;
            was = state;
            session = root.session;
            payload = payload;
            pages = pages;
            is_sequence = is_sequence;
            changes = changes;
            spells = spells;
            accepted = accepted;
            state_is = refl;
            end = refl;
            before = same_holds half_len root old image m place state (λ k low up. sym (torn.outside k (inl up))) ready.stands.reads.holds;
            group = same_group site root.session payload pages written image (λ k le up. sym (all k le (omega arith))) group;
          };
          no_more = λ _ complete.
              let first = any_complete_carries (change_site half_len root (root.base_sequence + suc (suc m)) (place + pages + 1)) image (inr refl) known complete in
              let at = rest_within (place + pages + 1) (omega arith) first.0 in
              let low = ready.stands.fresh (place + pages + 1) first.1.0 (root.base_sequence + suc (suc m)) at.0 at.1 (subst (Carries first.1.0 (root.base_sequence + suc (suc m))) (torn.outside (place + pages + 1) (inr (omega arith))) first.1.1) in
              omega arith;
        };
        fresh = torn_fresh half_len root.session (root.base_sequence + suc (suc m)) root.session sequence place (pages + 1) old written image
            (λ k s' q' from to is. let low = ready.stands.fresh k s' q' from to is in (low.0, omega arith)) torn (λ k le lt. of_written k le (omega arith)) (omega arith) (omega arith);
      }

      -- each of the first n is as written, or one of them isn't
      looked : (image : Image) → IsTorn place (pages + 1) old written image → (n : ℕ) → n ≤ pages + 1
          → ((k : ℕ) → place ≤ k → k < place + n → image k ≡ written k) ⊎ ((k : ℕ) × (place ≤ k) × (k ≤ place + pages) × ((image k ≡ old k) ⊎ (image k ≡ Unreadable)))
      looked image torn zero le = inl (λ k low up. absurd (omega arith))
      looked image torn (suc n) le = ⊎_elim
          (λ (before : (k : ℕ) → place ≤ k → k < place + n → image k ≡ written k). ⊎_elim
          (λ not. inr (place + n, omega arith, omega arith, not))
          (λ (here : image (place + n) ≡ written (place + n)). inl (λ k low up. ⊎_elim (λ (e : k ≡ place + n). subst (λ (j : ℕ). image j ≡ written j) (sym e) here) (λ (not : k ≡ place + n → ⊥). before k low (below k n up not)) (cases_eq k (place + n))))
          (torn.inside (place + n) (omega arith) (omega arith)))
          (λ not. inr not)
          (looked image torn n (omega arith))
        where
          below : (k n : ℕ) → k < place + suc n → (k ≡ place + n → ⊥) → k < place + n
          below k n up not = ⊎_elim (λ (lt : k < place + n). lt) (λ (ge : place + n ≤ k). absurd (not (omega arith))) (cases_lt k (place + n))

      -- WITH EACH SECTOR OLD, WRITTEN OR UNREADABLE: the state before or the state after
      pub append_torn : (image : Image) → IsTorn place (pages + 1) old written image
          → stands_by half_len root m place state image ⊎ stands_by half_len root (suc m) (place + pages + 1) after_all image
      append_torn image torn = ⊎_elim (λ all. inr (stands_after image torn all)) (λ not. inl (before not)) (looked image torn (pages + 1) (omega arith))
        where
          before : (k : ℕ) × (place ≤ k) × (k ≤ place + pages) × ((image k ≡ old k) ⊎ (image k ≡ Unreadable)) → stands_by half_len root m place state image
          before not = kept half_len root m place state old image ready.stands
              (λ k low up. let at = within in sym (torn.outside k (inl (omega arith))))
              (λ k low up. sym (torn.outside k (inl up)))
              (λ _ complete.
              let fits = group.fits in
              let e = one_sync site root.session payload pages old written image (inr refl) known group torn
              (λ k le up. unused k le (omega arith)) (ready.stands.reads.no_more is_sequence) complete not.0 not.1 not.2 in
              let is : Carries root.session sequence (image not.0) = subst (Carries root.session sequence) (sym e) (of_written not.0 not.1 not.2) in
              ⊎_elim (λ (was : image not.0 ≡ old not.0). unused not.0 not.1 (omega arith) (subst (Carries root.session sequence) was is))
              (λ (lost : image not.0 ≡ Unreadable). lost_carries_none root.session sequence (image not.0) lost is) not.3)
              (torn_fresh half_len root.session sequence root.session sequence place (pages + 1) old written image ready.stands.fresh torn (λ k le lt. of_written k le (omega arith)) (omega arith) (omega arith))

      -- WITH ALL WRITTEN: the state after, and the store is ready again
      pub append_done : ((k : ℕ) → (k < place) ⊎ (place + (pages + 1) ≤ k) → written k ≡ old k)
          → is_ready half_len root (suc m) (place + pages + 1) after_all written
      append_done outside = record {
        stands = stands_after written torn (λ k le lt. refl);
        unused = λ k from to is.
            ⊎_elim (λ (below : k < place). too_high k from to (subst (Carries root.session (root.base_sequence + suc (suc m))) (outside k (inl below)) is))
            (λ (ge : place ≤ k). ⊎_elim
            (λ (lt : k < place + (pages + 1)). let same = one_stamp root.session sequence root.session (root.base_sequence + suc (suc m)) (written k) (of_written k ge (omega arith)) is in omega arith)
            (λ (past : place + (pages + 1) ≤ k). too_high k from to (subst (Carries root.session (root.base_sequence + suc (suc m))) (outside k (inr past)) is))
            (cases_lt k (place + (pages + 1))))
            (cases_lt k place);
      }
        where
          torn : IsTorn place (pages + 1) old written written
          torn = record { inside = λ k le lt. inr refl; outside = outside }

          too_high : (k : ℕ) → 3 ≤ k → k < 3 + 2 * half_len → Carries root.session (root.base_sequence + suc (suc m)) (old k) → ⊥
          too_high k from to is = let low = ready.stands.fresh k root.session (root.base_sequence + suc (suc m)) from to is in omega arith
