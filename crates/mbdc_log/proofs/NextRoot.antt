-- What an image stands for when the next root is written, and while a base group goes into the other half.
use Rattle.std.proofs.Common.{◌≡◌, ◌⊎◌, inl, inr, ⊎_elim, ℕ, zero, suc, ◌<◌, ◌≤◌, ◌+◌, List, arith, sym, subst, ◌≢◌, ◌-◌, refl}
use Rattle.std.proofs.lemmas.Bool.{cases_eq, cases_lt}
use Rattle.dc_sectors.specs.declared.sector.Sector.TheVariants.{Unreadable}
use Rattle.dc_sectors.specs.Disk.{Image}
use Rattle.dc_roots.specs.declared.root.Root.{Root}
use Rattle.dc_pages.specs.Group.{IsGroup, IsComplete, Carries}
use Rattle.dc_pages.specs.PagesWriting.{IsTorn, IsPartOf}
use Rattle.dc_roots.specs.Root.{IsRoot, slot}
use Rattle.dc_roots.specs.Choice.{IsChosen, IsRootWrite}
use Rattle.dc_roots.proofs.Choices.{chosen_step, slot_range}
use Rattle.mbdc_log.specs.Roots.{opened}
use Rattle.mbdc_log.specs.Halves.{half_start, half_end}
use Rattle.mbdc_log.specs.Halves.{budget_of}
use Rattle.mbdc_log.specs.Sites.{base_site, change_site}
use Rattle.mbdc_log.specs.Stands.{IsSequence, IsFresh, IsUnused, Holds, StandsBy, IsReady}
use Rattle.dc_pages.proofs.Agree.{same_complete}
use Rattle.dc_pages.specs.Group.{IsKnown}
use Rattle.dc_pages.proofs.OneSync.{member, page_carries, one_stamp, lost_carries_none}
use Rattle.mbdc_log.proofs.Append.{half_within, place_within, same_holds, kept, torn_fresh, any_complete_carries}
use Rattle.mbdc_io.specs.declared.kept.kept.Language.{Ghosts as Language}

module _ {K : Type 0} (lang : Language K) where
  abbrev holds : ℕ → Root → Image → ℕ → ℕ → lang.State → Type 0
  holds = Holds lang

  abbrev stands_by : ℕ → Root → ℕ → ℕ → lang.State → Image → Type 0
  stands_by = StandsBy lang

  abbrev is_ready : ℕ → Root → ℕ → ℕ → lang.State → Image → Type 0
  is_ready = IsReady lang

  -- all that a root has to find in an image, but that it is chosen
  pub record IsPrepared (half_len : ℕ) (root : Root) (m place : ℕ) (state : lang.State) (image : Image) : Type 0 where
    pub version : IsKnown root.version
    pub length_is : root.half_len ≡ half_len
    pub holds_it : holds half_len root image m place state
    pub no_more : IsSequence (root.base_sequence + suc m) → IsComplete (change_site half_len root (root.base_sequence + suc m) place) image → ⊥
    pub fresh : IsFresh half_len root.session (root.base_sequence + suc m) image

  pub prepared_of : (half_len : ℕ) (root : Root) (m place : ℕ) (state : lang.State) (image : Image) → stands_by half_len root m place state image → IsPrepared half_len root m place state image
  prepared_of half_len root m place state image is = record {
    version = is.reads.version;
    length_is = is.reads.length_is;
    holds_it = is.reads.holds;
    no_more = is.reads.no_more;
    fresh = is.fresh;
  }

  -- images that agree from sector 3 on are prepared for the same
  pub prepared_same : (half_len : ℕ) (root : Root) (m place : ℕ) (state : lang.State) (a b : Image) → ((k : ℕ) → 3 ≤ k → a k ≡ b k)
      → IsPrepared half_len root m place state a → IsPrepared half_len root m place state b
  prepared_same half_len root m place state a b same is =
      let at = place_within lang half_len root a m place state is.holds_it in
      record {
        version = is.version;
        length_is = is.length_is;
        holds_it = same_holds lang half_len root a b m place state (λ k low up. same k (omega arith)) is.holds_it;
        no_more = λ fits complete. is.no_more fits (same_complete (change_site half_len root (root.base_sequence + suc m) place) b a (λ k low up. sym (same k (omega arith))) complete);
        fresh = λ k s q from to carries. is.fresh k s q from to (subst (Carries s q) (sym (same k from)) carries);
      }

  pub stands_of : (half_len : ℕ) (root : Root) (m place : ℕ) (state : lang.State) (image : Image) → IsChosen root image → IsPrepared half_len root m place state image → stands_by half_len root m place state image
  stands_of half_len root m place state image chosen is = record {
    reads = record { chosen = chosen; version = is.version; length_is = is.length_is; holds = is.holds_it; no_more = is.no_more };
    fresh = is.fresh;
  }

  -- THE NEXT ROOT, WRITTEN OR NOT: the image stands for its state by the old root or by the next one
  pub root_step : (half_len : ℕ) (root next : Root) (m place m' place' : ℕ) (state state' : lang.State) (old image : Image)
      → stands_by half_len root m place state old → IsPrepared half_len next m' place' state' old
      → next.generation ≡ root.generation + 1 → IsRootWrite next old image
      → stands_by half_len root m place state image ⊎ stands_by half_len next m' place' state' image
  root_step half_len root next m place m' place' state state' old image is prepared up write = ⊎_elim
      (λ chosen. inl (stands_of half_len root m place state image chosen (prepared_same half_len root m place state old image same (prepared_of half_len root m place state old is))))
      (λ chosen. inr (stands_of half_len next m' place' state' image chosen (prepared_same half_len next m' place' state' old image same prepared)))
      (chosen_step root next old image is.reads.chosen up write)
    where
      same : (k : ℕ) → 3 ≤ k → old k ≡ image k
      same k low = let in_slot = slot_range next.generation in sym (write.elsewhere k (λ e. omega (arith, e)))

  -- with the next root written, the image stands for its state by that one
  pub root_done : (half_len : ℕ) (root next : Root) (m place m' place' : ℕ) (state state' : lang.State) (old image : Image)
      → stands_by half_len root m place state old → IsPrepared half_len next m' place' state' old
      → next.generation ≡ root.generation + 1 → ((k : ℕ) → k ≢ slot next.generation → image k ≡ old k) → IsRoot next (image (slot next.generation))
      → stands_by half_len next m' place' state' image
  root_done half_len root next m place m' place' state state' old image is prepared up elsewhere here = ⊎_elim
      (λ (chosen : IsChosen root image). absurd (too_great (chosen.greatest next here)))
      (λ chosen. stands_of half_len next m' place' state' image chosen (prepared_same half_len next m' place' state' old image same prepared))
      (chosen_step root next old image is.reads.chosen up (record { elsewhere = elsewhere; here = inr here }))
    where
      too_great : next.generation ≤ root.generation → ⊥
      too_great le = omega (arith, le, up)

      same : (k : ℕ) → 3 ≤ k → old k ≡ image k
      same k low = let in_slot = slot_range next.generation in sym (elsewhere k (λ e. omega (arith, e)))

  -- OPEN: the next root differs in generation and session alone
  pub open_prepared : (half_len : ℕ) (root next : Root) (m place : ℕ) (state : lang.State) (old : Image) → stands_by half_len root m place state old
      → next ≡ opened root → IsPrepared half_len next m place state old
  open_prepared half_len root next m place state old is e = subst (λ (r : Root). IsPrepared half_len r m place state old) (sym e) (record {
    version = is.reads.version;
    length_is = is.reads.length_is;
    holds_it = same_base m place state is.reads.holds;
    no_more = is.reads.no_more;
    fresh = λ k s q from to carries. let low = is.fresh k s q from to carries in (omega arith, low.1);
  })
    where
      same_base : (m place : ℕ) (state : lang.State) → holds half_len root old m place state → holds half_len (opened root) old m place state
      same_base zero place state is = record { session = is.session; payload = is.payload; pages = is.pages; group = is.group; spells = is.spells; end = is.end }
      same_base (suc m) place state is = record {
        from = is.from;
        was = is.was;
        before = same_base m is.from is.was is.before;
        session = is.session;
        payload = is.payload;
        pages = is.pages;
        is_sequence = is.is_sequence;
        group = is.group;
        changes = is.changes;
        spells = is.spells;
        accepted = is.accepted;
        state_is = is.state_is;
        end = is.end;
      }

  -- and no sector carries its session
  pub open_unused : (half_len session sequence q : ℕ) (old image : Image) → IsFresh half_len session sequence old → ((k : ℕ) → 3 ≤ k → old k ≡ image k) → IsUnused half_len (session + 1) q image
  open_unused half_len session sequence q old image fresh same k from to is =
      let low = fresh k (session + 1) q from to (subst (Carries (session + 1) q) (sym (same k from)) is) in omega arith

  -- what happens beyond the half that is read
  pub other_half : (half_len : ℕ) (root : Root) (m place : ℕ) (state : lang.State) (old image : Image) → stands_by half_len root m place state old
      → ((k : ℕ) → 1 ≤ k → k ≤ 2 → old k ≡ image k)
      → ((k : ℕ) → half_start half_len root.half ≤ k → k < half_end half_len root.half → old k ≡ image k)
      → IsFresh half_len root.session (root.base_sequence + suc m) image → stands_by half_len root m place state image
  other_half half_len root m place state old image is slots same fresh =
      let at = place_within lang half_len root old m place state is.reads.holds in
      kept lang half_len root m place state old image is slots
      (λ k low up. same k low (omega arith))
      (λ fits complete. is.reads.no_more fits (same_complete (change_site half_len root (root.base_sequence + suc m) place) image old (λ k low up. sym (same k (omega arith) up)) complete))
      fresh

  -- COMPACT: the base group goes into the other half with the next sequence; each image on the way stands for what it stood for
  pub base_torn : (half_len : ℕ) (root next : Root) (m place : ℕ) (state : lang.State) (payload : List ℕ) (pages : ℕ) (old written image : Image) → stands_by half_len root m place state old
      → IsKnown next.version → root.half + next.half ≡ 1 → next.base_sequence ≡ root.base_sequence + suc m → IsGroup (base_site half_len next) root.session payload pages written
      → IsTorn (half_start half_len next.half) (pages + 1) old written image → stands_by half_len root m place state image
  base_torn half_len root next m place state payload pages old written image is known other base group torn =
      let fits = group.fits in
      other_half half_len root m place state old image is
      (λ k low up. sym (torn.outside k (inl (omega arith))))
      (λ k low up. sym (torn.outside k (apart k low up)))
      (torn_fresh lang half_len root.session (root.base_sequence + suc m) root.session next.base_sequence (half_start half_len next.half) (pages + 1) old written image
      is.fresh torn (λ k le lt. member (base_site half_len next) root.session payload pages written (inl refl) known group k le (omega arith)) (omega arith) (omega arith))
    where
      apart : (k : ℕ) → half_start half_len root.half ≤ k → k < half_end half_len root.half → (k < half_start half_len next.half) ⊎ (half_start half_len next.half + (pages + 1) ≤ k)
      apart k low up = let fits = group.fits in which (cases_eq next.half 0)
        where
          which : (next.half ≡ 0) ⊎ (next.half ≡ 0 → ⊥) → (k < half_start half_len next.half) ⊎ (half_start half_len next.half + (pages + 1) ≤ k)
          which (inl e) =
              let one : root.half ≡ 1 = omega arith in
              let fits' : half_start half_len 0 + pages < half_end half_len 0 = subst (λ (h : ℕ). half_start half_len h + pages < half_end half_len h) e group.fits in
              let low' : half_start half_len 1 ≤ k = subst (λ (h : ℕ). half_start half_len h ≤ k) one low in
              inr (subst (λ (h : ℕ). half_start half_len h + (pages + 1) ≤ k) (sym e) (omega arith))
          which (inr not) =
              let one : next.half ≡ 1 = grind (arith, not, other) in
              let zero_is : root.half ≡ 0 = omega arith in
              let up' : k < half_end half_len 0 = subst (λ (h : ℕ). k < half_end half_len h) zero_is up in
              inl (subst (λ (h : ℕ). k < half_start half_len h) (sym one) (omega arith))

  -- with all of it written, the next root finds the state there
  pub base_prepared : (half_len : ℕ) (root next : Root) (m place : ℕ) (state state' : lang.State) (payload : List ℕ) (pages : ℕ) (old written : Image) → stands_by half_len root m place state old
      → IsKnown next.version → next.half_len ≡ half_len → next.half ≤ 1 → next.session ≡ root.session → next.base_sequence ≡ root.base_sequence + suc m
      → IsGroup (base_site half_len next) root.session payload pages written → lang.SpellsState (budget_of half_len) payload state'
      → ((k : ℕ) → (k < half_start half_len next.half) ⊎ (half_start half_len next.half + (pages + 1) ≤ k) → written k ≡ old k)
      → IsPrepared half_len next zero (half_start half_len next.half + pages + 1) state' written
  base_prepared half_len root next m place state state' payload pages old written is known len small session base group spells outside = record {
    version = known;
    length_is = len;
    holds_it = record {
      session = root.session;
      payload = payload;
      pages = pages;
      spells = spells;
      end = refl;
      group = group;
    };
    no_more = λ _ complete.
        let first = any_complete_carries lang (change_site half_len next (next.base_sequence + suc zero) (half_start half_len next.half + pages + 1)) written (inr refl) known complete in
        let top = half_within half_len next.half small in
        let low = is.fresh (half_start half_len next.half + pages + 1) first.1.0 (next.base_sequence + suc zero) (omega arith) (omega arith)
        (subst (Carries first.1.0 (next.base_sequence + suc zero)) (outside (half_start half_len next.half + pages + 1) (inr (omega arith))) first.1.1) in
        omega arith;
    fresh = λ k s q from to carries.
        let low = torn_fresh lang half_len root.session (root.base_sequence + suc m) root.session next.base_sequence (half_start half_len next.half) (pages + 1) old written written
        is.fresh (record { inside = λ j le lt. inr refl; outside = outside })
        (λ j le lt. member (base_site half_len next) root.session payload pages written (inl refl) known group j le (omega arith)) (omega arith) (omega arith) k s q from to carries in
        (omega arith, omega arith);
  }

  -- and the sequence after that is unused
  pub base_unused : (half_len session sequence : ℕ) (a b : Image) → IsFresh half_len session sequence a → ((k : ℕ) → 3 ≤ k → a k ≡ b k) → IsUnused half_len session (sequence + 1) b
  base_unused half_len session sequence a b fresh same k from to is =
      let low = fresh k session (sequence + 1) from to (subst (Carries session (sequence + 1)) (sym (same k from)) is) in omega arith

  -- with pages alone written it stands for what it stood for
  pub base_part : (half_len : ℕ) (root next : Root) (m place : ℕ) (state : lang.State) (old image : Image) → stands_by half_len root m place state old
      → IsKnown next.version → root.half + next.half ≡ 1 → next.base_sequence ≡ root.base_sequence + suc m
      → IsPartOf (base_site half_len next) root.session old image → stands_by half_len root m place state image
  base_part half_len root next m place state old image is known other base part =
      other_half half_len root m place state old image is
      (λ k low up. sym (part.outside k (inl (omega arith))))
      (λ k low up. sym (part.outside k (apart k low up)))
      fresh
    where
      apart : (k : ℕ) → half_start half_len root.half ≤ k → k < half_end half_len root.half → (k < half_start half_len next.half) ⊎ (half_end half_len next.half ≤ k)
      apart k low up = which (cases_eq next.half 0)
        where
          which : (next.half ≡ 0) ⊎ (next.half ≡ 0 → ⊥) → (k < half_start half_len next.half) ⊎ (half_end half_len next.half ≤ k)
          which (inl e) =
              let one : root.half ≡ 1 = omega arith in
              let low' : half_start half_len 1 ≤ k = subst (λ (h : ℕ). half_start half_len h ≤ k) one low in
              inr (subst (λ (h : ℕ). half_end half_len h ≤ k) (sym e) (omega arith))
          which (inr not) =
              let one : next.half ≡ 1 = grind (arith, not, other) in
              let zero_is : root.half ≡ 0 = omega arith in
              let up' : k < half_end half_len 0 = subst (λ (h : ℕ). k < half_end half_len h) zero_is up in
              inl (subst (λ (h : ℕ). k < half_start half_len h) (sym one) (omega arith))

      fresh : IsFresh half_len root.session (root.base_sequence + suc m) image
      fresh k s q from to carries = ⊎_elim
          (λ (below : k < half_start half_len next.half). is.fresh k s q from to (subst (Carries s q) (part.outside k (inl below)) carries))
          (λ (ge : half_start half_len next.half ≤ k). ⊎_elim
          (λ (lt : k < half_end half_len next.half). inside (k - half_start half_len next.half) (omega arith) lt)
          (λ (past : half_end half_len next.half ≤ k). is.fresh k s q from to (subst (Carries s q) (part.outside k (inr past)) carries))
          (cases_lt k (half_end half_len next.half)))
          (cases_lt k (half_start half_len next.half))
        where
          inside : (i : ℕ) → half_start half_len next.half + i ≡ k → k < half_end half_len next.half → (s ≤ root.session) × (q ≤ root.base_sequence + suc m)
          inside i at lt =
              let here : Carries s q (image (half_start half_len next.half + i)) = subst (λ (n : ℕ). Carries s q (image n)) (sym at) carries in
              ⊎_elim
              (λ either. ⊎_elim
              (λ (e : image (half_start half_len next.half + i) ≡ old (half_start half_len next.half + i)). is.fresh (half_start half_len next.half + i) s q (omega arith) (omega arith) (subst (Carries s q) e here))
              (λ (lost : image (half_start half_len next.half + i) ≡ Unreadable). absurd (lost_carries_none s q (image (half_start half_len next.half + i)) lost here)) either)
              (λ page. let same = one_stamp root.session next.base_sequence s q (image (half_start half_len next.half + i))
              (page_carries (base_site half_len next) root.session i page.0 _ (inl refl) known page.1) here in (omega arith, omega arith))
              (part.inside i (omega arith))
