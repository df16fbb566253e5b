-- An image reads as one state.
use Rattle.std.proofs.Common.{◌≡◌, inl, inr, ⊎_elim, ℕ, zero, suc, ◌<◌, ◌≤◌, ◌+◌, ◌-◌, List, arith, ap, sym, subst, ◌∙◌, refl}
use Rattle.std.proofs.lemmas.Bool.{cases_lt}
use Rattle.dc_sectors.specs.Disk.{Image}
use Rattle.dc_roots.specs.declared.root.Root.{Root}
use Rattle.dc_pages.specs.Group.{IsComplete, base_kind, change_kind}
use Rattle.dc_roots.proofs.Choices.{one_root}
use Rattle.mbdc_log.proofs.Spellings.{one_state}
use Rattle.mbdc_log.specs.Halves.{budget_of}
use Rattle.mbdc_log.specs.Sites.{change_site}
use Rattle.mbdc_log.specs.Stands.{IsSequence, IsFresh, StandsBy, Stands, HasMore, Holds, ReadsBy, Reads}
use Rattle.dc_pages.proofs.Agree.{one_group}
use Rattle.dc_pages.proofs.OneSync.{not_commit}
use Rattle.mbdc_io.specs.declared.kept.kept.Language.{Ghosts as Language}

module _ {K : Type 0} (lang : Language K) where
  module _ (half_len : ℕ) (most : half_len ≤ 65536) where
    abbrev holds : ℕ → Root → Image → ℕ → ℕ → lang.State → Type 0
    holds = Holds lang

    -- after m groups there is one place and one state
    pub one_holds : (root : Root) (image : Image) (m place place' : ℕ) (state state' : lang.State)
        → holds half_len root image m place state → holds half_len root image m place' state' → (place ≡ place') × (state ≡ state')
    one_holds root image zero place place' state state' a b =
        let same = one_group _ _ _ _ _ _ _ _ image (not_commit base_kind (inl refl)) refl refl a.group b.group in
        let end = a.end in
        let end' = b.end in
        let count = same.1 in
        (omega arith, one_state lang half_len most b.payload state state' (subst (λ (l : List ℕ). lang.SpellsState (budget_of half_len) l state) same.0 a.spells) b.spells)
    one_holds root image (suc m) place place' state state' a b =
        let before = one_holds root image m a.from b.from a.was b.was a.before b.before in
        let same = one_group _ _ _ _ _ _ _ _ image (not_commit change_kind (inr refl)) refl before.0 a.group b.group in
        let end = a.end in
        let end' = b.end in
        let from = before.0 in
        let count = same.1 in
        let changes : a.changes ≡ b.changes = lang.one_list b.payload a.changes b.changes (subst (λ (l : List ℕ). lang.SpellsChanges l a.changes) same.0 a.spells) b.spells in
        let both : lang.after a.was a.changes ≡ lang.after b.was b.changes
        = ap (λ (s : lang.State). lang.after s a.changes) before.1 ∙ ap (λ (cs : List lang.Change). lang.after b.was cs) changes in
        (omega arith, a.state_is ∙ both ∙ sym b.state_is)

    -- where more groups are, the next is complete
    pub next_complete : (root : Root) (image : Image) (k m place : ℕ) (state : lang.State) → holds half_len root image (suc (m + k)) place state
        → (from : ℕ) × ((was : lang.State) × (holds half_len root image m from was × (IsSequence (root.base_sequence + suc m) × IsComplete (change_site half_len root (root.base_sequence + suc m) from) image)))
    next_complete root image zero m place state is =
        let e : m + 0 ≡ m = omega arith in
        let all : HasMore lang half_len root (holds half_len root image m) (root.base_sequence + suc m) place state image
        = subst (λ (n : ℕ). HasMore lang half_len root (holds half_len root image n) (root.base_sequence + suc n) place state image) e is in
        (all.from, (all.was, (all.before, (all.is_sequence, record { session = all.session; payload = all.payload; pages = all.pages; group = all.group }))))
    next_complete root image (suc k) m place state is =
        let e : m + suc k ≡ suc (m + k) = omega arith in
        next_complete root image k m is.from is.was (subst (λ (n : ℕ). holds half_len root image n is.from is.was) e is.before)

    pub not_more : (root : Root) (image : Image) (m n place place' : ℕ) (state state' : lang.State)
        → ReadsBy lang half_len root m place state image → holds half_len root image n place' state' → n ≤ m
    not_more root image m n place place' state state' is more = ⊎_elim
        (λ (lt : m < n).
        let e : n ≡ suc (m + (n - suc m)) = omega arith in
        let next = next_complete root image (n - suc m) m place' state' (subst (λ (j : ℕ). holds half_len root image j place' state') e more) in
        let same = one_holds root image m next.0 place next.1.0 state next.1.1.0 is.holds in
        absurd (is.no_more next.1.1.1.0 (subst (λ (p : ℕ). IsComplete (change_site half_len root (root.base_sequence + suc m) p) image) same.0 next.1.1.1.1)))
        (λ le. le)
        (cases_lt m n)

    -- AN IMAGE READS AS ONE STATE
    pub reads_once : (image : Image) (state state' : lang.State) → Reads lang half_len state image → Reads lang half_len state' image → state ≡ state'
    reads_once image state state' a b =
        let same = one_root b.root a.root image b.by.chosen a.by.chosen in
        let by' : ReadsBy lang half_len a.root b.m b.place state' image = subst (λ (r : Root). ReadsBy lang half_len r b.m b.place state' image) same b.by in
        let le = not_more a.root image a.m b.m a.place b.place state state' a.by by'.holds in
        let ge = not_more a.root image b.m a.m b.place a.place state' state by' a.by.holds in
        let count : b.m ≡ a.m = omega arith in
        (one_holds a.root image a.m a.place b.place state state' a.by.holds (subst (λ (n : ℕ). holds half_len a.root image n b.place state') count by'.holds)).1

    -- what was read is what the image stands for
    pub stands_as_read : (root : Root) (m place : ℕ) (state other : lang.State) (image : Image) → ReadsBy lang half_len root m place state image → Stands lang half_len other image
        → StandsBy lang half_len root m place state image
    stands_as_read root m place state other image reads stands =
        let by = stands.by.reads in
        let same : root ≡ stands.root = one_root root stands.root image reads.chosen by.chosen in
        let by' : ReadsBy lang half_len root stands.m stands.place other image = subst (λ (r : Root). ReadsBy lang half_len r stands.m stands.place other image) (sym same) by in
        let le = not_more root image m stands.m place stands.place state other reads by'.holds in
        let ge = not_more root image stands.m m stands.place place other state by' reads.holds in
        let count : stands.m ≡ m = omega arith in
        record {
          reads = reads;
          fresh = subst (λ (n : ℕ). IsFresh half_len root.session (root.base_sequence + suc n) image) count
              (subst (λ (r : Root). IsFresh half_len r.session (r.base_sequence + suc stands.m) image) (sym same) stands.by.fresh);
        }
