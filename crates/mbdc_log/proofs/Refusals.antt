-- The refusals of an image exclude each other, and an image that reads as a state is refused only
-- for an exhausted counter.
use Rattle.std.proofs.Common.{◌≡◌, ◌⊎◌, inl, inr, ⊎_elim, ℕ, zero, suc, ◌<◌, ◌≤◌, ◌+◌, ◌-◌, List, None, arith, ap, sym, subst, ◌∙◌, refl}
use Rattle.std.proofs.lemmas.Bool.{cases_lt}
use Rattle.dc_sectors.specs.Disk.{Image}
use Rattle.dc_roots.specs.declared.root.Root.{Root}
use Rattle.dc_roots.specs.Root.{slot}
use Rattle.dc_roots.specs.Choice.{IsChosen, IsRootless}
use Rattle.dc_roots.proofs.Choices.{one_root}
use Rattle.dc_pages.specs.Group.{base_kind, change_kind, IsKnown, IsComplete}
use Rattle.dc_pages.proofs.Agree.{one_group}
use Rattle.dc_pages.proofs.Cut.{cut_incomplete, one_cut}
use Rattle.dc_pages.proofs.OneSync.{not_commit}
use Rattle.dc_pages.specs.Reading.{IsCutAt}
use Rattle.mbdc_log.specs.declared.fault.OpenFault.{OpenFault}
use Rattle.mbdc_log.specs.declared.fault.OpenFault.TheVariants.{NotImage, Damaged, Version, Worn, Device, NoMemory}
use Rattle.mbdc_log.specs.Halves.{half_start, budget_of}
use Rattle.mbdc_log.specs.Sites.{base_site, change_site}
use Rattle.mbdc_log.specs.Stands.{IsSequence, IsCurrent, HasBase, HasMore, Holds, ReadsBy, Reads, Stands}
use Rattle.mbdc_log.specs.Refusal.{HasNoRoot, HasOtherLength, HasNoBase, HasBadBase, HasBadGroup, IsDamagedAt, HasOtherVersion, IsSpent, IsWorn, IsUnread, IsRefused, TellsOfImage}
use Rattle.mbdc_log.proofs.Once.{one_holds, not_more}
use Rattle.mbdc_io.specs.declared.kept.kept.Language.{Ghosts as Language}

module _ {K : Type 0} (lang : Language K) where
  module _ (half_len : ℕ) (most : half_len ≤ 65536) (image : Image) where
    -- reading stopped: no root in force fits, the base group is missing, or it spells no state
    abbrev NoCurrent : ℕ → Type 0
    NoCurrent n = HasNoRoot n image ⊎ HasOtherLength half_len n image

    abbrev NoBase : ℕ → Type 0
    NoBase n = NoCurrent n ⊎ HasNoBase half_len n image

    abbrev NoState : ℕ → Type 0
    NoState n = NoBase n ⊎ HasBadBase lang half_len n image

    abbrev HasBaseGroup : Root → Type 0
    HasBaseGroup root = IsComplete (base_site half_len root) image

    -- one group of changes after m of them
    abbrev HasMoreBehind : Root → ℕ → ℕ → lang.State → Type 0
    HasMoreBehind root m end state = HasMore lang half_len root (Holds lang half_len root image m) (root.base_sequence + suc m) end state image

    -- whatever follows it, there is a base
    has_base : (root : Root) (m place : ℕ) (state : lang.State) → Holds lang half_len root image m place state → (end : ℕ) × ((first : lang.State) × HasBase lang half_len root end first image)
    has_base root zero place state is = (place, (state, is))
    has_base root (suc m) place state is = has_base root m is.from is.was is.before

    -- where more groups are, there is the next
    has_next : (root : Root) (k m place : ℕ) (state : lang.State) → Holds lang half_len root image (suc (m + k)) place state → (end : ℕ) × ((next : lang.State) × HasMoreBehind root m end next)
    has_next root zero m place state is =
        let e : m + 0 ≡ m = omega arith in
        (place, (state, subst (λ (n : ℕ). HasMoreBehind root n place state) e is))
    has_next root (suc k) m place state is =
        let e : m + suc k ≡ suc (m + k) = omega arith in
        has_next root k m is.from is.was (subst (λ (n : ℕ). Holds lang half_len root image n is.from is.was) e is.before)

    -- EACH STEP THAT FAILS EXCLUDES THOSE AFTER IT

    stops_at_root : (n : ℕ) (root : Root) → NoCurrent n → IsCurrent half_len root image → ⊥
    stops_at_root n root (inl none) current = none.rootless.none root current.chosen.here
    stops_at_root n root (inr other) current =
        other.other_length (subst (λ (r : Root). r.half_len ≡ half_len) (one_root root other.root image current.chosen other.chosen) current.length_is)

    stops_at_base : (n : ℕ) (root : Root) → NoBase n → IsCurrent half_len root image → HasBaseGroup root → ⊥
    stops_at_base n root (inl early) current complete = stops_at_root n root early current
    stops_at_base n root (inr none) current complete =
        cut_incomplete _ n image (not_commit base_kind (inl refl)) none.cut (subst HasBaseGroup (one_root root none.root image current.chosen none.current.chosen) complete)

    stops_at_state : (n : ℕ) (root : Root) (place : ℕ) (state : lang.State) → NoState n → IsCurrent half_len root image → HasBase lang half_len root place state image → ⊥
    stops_at_state n root place state (inl early) current base =
        stops_at_base n root early current (record { session = base.session; payload = base.payload; pages = base.pages; group = base.group })
    stops_at_state n root place state (inr bad) current base =
        let there = subst (λ (r : Root). HasBase lang half_len r place state image) (one_root root bad.root image current.chosen bad.current.chosen) base in
        let same = one_group _ _ _ _ _ _ _ _ image (not_commit base_kind (inl refl)) refl refl bad.group there.group in
        bad.no_state state (subst (λ (l : List ℕ). lang.SpellsState (budget_of half_len) l state) (sym same.0) there.spells)

    bad_or_more : (n : ℕ) (bad : HasBadGroup lang half_len n image) (end : ℕ) (next : lang.State) → HasMoreBehind bad.root bad.m end next → ⊥
    bad_or_more n bad end next more =
        let before = one_holds lang half_len most bad.root image bad.m n more.from bad.state more.was bad.before more.before in
        let same = one_group _ _ _ _ _ _ _ _ image (not_commit change_kind (inr refl)) refl before.0 bad.group more.group in
        bad.no_changes more.changes (subst (λ (l : List ℕ). lang.SpellsChanges l more.changes) (sym same.0) more.spells)
        (subst (λ (s : lang.State). lang.Accepts (budget_of half_len) s more.changes) (sym before.1) more.accepted)

    stops_at_group : (n : ℕ) (bad : HasBadGroup lang half_len n image) (m place : ℕ) (state : lang.State) → Holds lang half_len bad.root image m place state → m ≤ bad.m
    stops_at_group n bad m place state holds = ⊎_elim
        (λ (lt : bad.m < m).
        let e : m ≡ suc (bad.m + (m - suc bad.m)) = omega arith in
        let next = has_next bad.root (m - suc bad.m) bad.m place state (subst (λ (j : ℕ). Holds lang half_len bad.root image j place state) e holds) in
        absurd (bad_or_more n bad next.0 next.1.0 next.1.1))
        (λ le. le)
        (cases_lt bad.m m)

    stops_before_the_end : (n : ℕ) (root : Root) (m place : ℕ) (state : lang.State) → IsDamagedAt lang half_len n image → ReadsBy lang half_len root m place state image → ⊥
    stops_before_the_end n root m place state (inl early) by =
        let base = has_base root m place state by.holds in
        stops_at_state n root base.0 base.1.0 early (record { chosen = by.chosen; version = by.version; length_is = by.length_is }) base.1.1
    stops_before_the_end n root m place state (inr bad) by =
        let there = subst (λ (r : Root). ReadsBy lang half_len r m place state image) (one_root root bad.root image by.chosen bad.current.chosen) by in
        let le = stops_at_group n bad m place state there.holds in
        let ge = not_more lang half_len most bad.root image m bad.m place n state bad.state there bad.before in
        let count : bad.m ≡ m = omega arith in
        let at = one_holds lang half_len most bad.root image m n place bad.state state (subst (λ (j : ℕ). Holds lang half_len bad.root image j n bad.state) count bad.before) there.holds in
        let sequence : bad.root.base_sequence + suc bad.m ≡ bad.root.base_sequence + suc m = ap (λ (j : ℕ). bad.root.base_sequence + suc j) count in
        let complete : IsComplete (change_site half_len bad.root (bad.root.base_sequence + suc bad.m) n) image
        = record { session = bad.session; payload = bad.payload; pages = bad.pages; group = bad.group } in
        there.no_more (subst IsSequence sequence bad.is_sequence)
        (subst (λ (p : ℕ). IsComplete (change_site half_len bad.root (bad.root.base_sequence + suc m) p) image) at.0
        (subst (λ (q : ℕ). IsComplete (change_site half_len bad.root q n) image) sequence complete))

    -- AND IT NAMES ONE SECTOR

    one_slot : (n n' : ℕ) → NoCurrent n → NoCurrent n' → n ≡ n'
    one_slot n n' (inl a) (inl b) = let first = a.rootless.first in let first' = b.rootless.first in cc
    one_slot n n' (inl a) (inr b) = absurd (a.rootless.none b.root b.chosen.here)
    one_slot n n' (inr a) (inl b) = absurd (b.rootless.none a.root a.chosen.here)
    one_slot n n' (inr a) (inr b) = a.at ∙ ap (λ (r : Root). slot r.generation) (one_root a.root b.root image a.chosen b.chosen) ∙ sym b.at

    one_base : (n n' : ℕ) → NoBase n → NoBase n' → n ≡ n'
    one_base n n' (inl a) (inl b) = one_slot n n' a b
    one_base n n' (inl a) (inr b) = absurd (stops_at_root n b.root a b.current)
    one_base n n' (inr a) (inl b) = absurd (stops_at_root n' a.root b a.current)
    one_base n n' (inr a) (inr b) =
        let there = subst (λ (r : Root). IsCutAt (base_site half_len r) n image) (one_root a.root b.root image a.current.chosen b.current.chosen) a.cut in
        one_cut _ n n' image (not_commit base_kind (inl refl)) there b.cut

    bad_complete : (n : ℕ) (bad : HasBadBase lang half_len n image) → HasBaseGroup bad.root
    bad_complete n bad = record { session = bad.session; payload = bad.payload; pages = bad.pages; group = bad.group }

    one_bad_base : (n n' : ℕ) → NoState n → NoState n' → n ≡ n'
    one_bad_base n n' (inl a) (inl b) = one_base n n' a b
    one_bad_base n n' (inl a) (inr b) = absurd (stops_at_base n b.root a b.current (bad_complete n' b))
    one_bad_base n n' (inr a) (inl b) = absurd (stops_at_base n' a.root b a.current (bad_complete n a))
    one_bad_base n n' (inr a) (inr b) = a.at ∙ ap (λ (r : Root). half_start half_len r.half) (one_root a.root b.root image a.current.chosen b.current.chosen) ∙ sym b.at

    group_behind_no_state : (n n' : ℕ) → NoState n → HasBadGroup lang half_len n' image → ⊥
    group_behind_no_state n n' early bad =
        let base = has_base bad.root bad.m n' bad.state bad.before in
        stops_at_state n bad.root base.0 base.1.0 early bad.current base.1.1

    one_damage : (n n' : ℕ) → IsDamagedAt lang half_len n image → IsDamagedAt lang half_len n' image → n ≡ n'
    one_damage n n' (inl a) (inl b) = one_bad_base n n' a b
    one_damage n n' (inl a) (inr b) = absurd (group_behind_no_state n n' a b)
    one_damage n n' (inr a) (inl b) = absurd (group_behind_no_state n' n b a)
    one_damage n n' (inr a) (inr b) =
        let same = one_root b.root a.root image b.current.chosen a.current.chosen in
        let there = subst (λ (r : Root). Holds lang half_len r image b.m n' b.state) same b.before in
        let back = subst (λ (r : Root). Holds lang half_len r image a.m n a.state) (sym same) a.before in
        let le = stops_at_group n a b.m n' b.state there in
        let ge = stops_at_group n' b a.m n a.state back in
        let count : b.m ≡ a.m = omega arith in
        (one_holds lang half_len most a.root image a.m n n' a.state b.state a.before (subst (λ (j : ℕ). Holds lang half_len a.root image j n' b.state) count there)).0

    -- what reads, reads by one root and one number of groups
    pub one_reading : (root root' : Root) (m m' place place' : ℕ) (state state' : lang.State) → ReadsBy lang half_len root m place state image → ReadsBy lang half_len root' m' place' state' image
        → (root' ≡ root) × (m' ≡ m)
    one_reading root root' m m' place place' state state' a b =
        let same : root' ≡ root = one_root root' root image b.chosen a.chosen in
        let there : ReadsBy lang half_len root m' place' state' image = subst (λ (r : Root). ReadsBy lang half_len r m' place' state' image) same b in
        let le = not_more lang half_len most root image m' m place' place state' state there a.holds in
        let ge = not_more lang half_len most root image m m' place place' state state' a there.holds in
        (same, omega arith)

    -- THE FAULTS

    -- a damaged image has a root of this version, or none
    root_of_damage : (n : ℕ) → IsDamagedAt lang half_len n image → HasNoRoot n image ⊎ ((root : Root) × (IsChosen root image × IsKnown root.version))
    root_of_damage n (inl (inl (inl (inl none)))) = inl none
    root_of_damage n (inl (inl (inl (inr other)))) = inr (other.root, (other.chosen, other.version))
    root_of_damage n (inl (inl (inr none))) = inr (none.root, (none.current.chosen, none.current.version))
    root_of_damage n (inl (inr bad)) = inr (bad.root, (bad.current.chosen, bad.current.version))
    root_of_damage n (inr bad) = inr (bad.root, (bad.current.chosen, bad.current.version))

    damage_and_no_root : (n : ℕ) → IsDamagedAt lang half_len n image → IsRootless None image → ⊥
    damage_and_no_root n damage rootless = ⊎_elim
        (λ (none : HasNoRoot n image). let first = none.rootless.first in let first' = rootless.first in cc)
        (λ (has : (root : Root) × (IsChosen root image × IsKnown root.version)). rootless.none has.0 has.1.0.here)
        (root_of_damage n damage)

    other_version : (root : Root) → IsChosen root image → IsKnown root.version → HasOtherVersion image → ⊥
    other_version root chosen version other = other.other_version (subst (λ (r : Root). IsKnown r.version) (one_root root other.root image chosen other.chosen) version)

    damage_and_other_version : (n : ℕ) → IsDamagedAt lang half_len n image → HasOtherVersion image → ⊥
    damage_and_other_version n damage other = ⊎_elim
        (λ (none : HasNoRoot n image). none.rootless.none other.root other.chosen.here)
        (λ (has : (root : Root) × (IsChosen root image × IsKnown root.version)). other_version has.0 has.1.0 has.1.1 other)
        (root_of_damage n damage)

    -- an image that reads as a state is read
    pub read_is_read : (state : lang.State) (f : OpenFault) → TellsOfImage f → IsUnread lang half_len image f → Reads lang half_len state image → ⊥
    read_is_read state NotImage tells why reads = why.none reads.root reads.by.chosen.here
    read_is_read state (Damaged n) tells why reads = stops_before_the_end n reads.root reads.m reads.place state why reads.by
    read_is_read state Version tells why reads = other_version reads.root reads.by.chosen reads.by.version why
    read_is_read state Worn tells why reads = why
    read_is_read state Device tells why reads = tells
    read_is_read state NoMemory tells why reads = tells

    -- and refused only for an exhausted counter
    pub read_or_refused : (state : lang.State) (f : OpenFault) → TellsOfImage f → IsRefused lang half_len image f → Reads lang half_len state image → f ≡ Worn
    read_or_refused state NotImage tells why reads = absurd (read_is_read state NotImage tells why reads)
    read_or_refused state (Damaged n) tells why reads = absurd (read_is_read state (Damaged n) tells why reads)
    read_or_refused state Version tells why reads = absurd (read_is_read state Version tells why reads)
    read_or_refused state Worn tells why reads = refl
    read_or_refused state Device tells why reads = absurd tells
    read_or_refused state NoMemory tells why reads = absurd tells

    -- so is one that stands for a state
    pub stands_or_refused : (state : lang.State) (f : OpenFault) → TellsOfImage f → IsRefused lang half_len image f → Stands lang half_len state image → f ≡ Worn
    stands_or_refused state f tells why stands = read_or_refused state f tells why (record { root = stands.root; m = stands.m; place = stands.place; by = stands.by.reads })

    -- where reading stops, opening does
    pub unread_refused : (f : OpenFault) → IsUnread lang half_len image f → IsRefused lang half_len image f
    unread_refused NotImage why = why
    unread_refused (Damaged n) why = why
    unread_refused Version why = why
    unread_refused Worn why = absurd why
    unread_refused Device why = why
    unread_refused NoMemory why = why

    only_no_root : (f : OpenFault) → TellsOfImage f → IsRootless None image → IsRefused lang half_len image f → f ≡ NotImage
    only_no_root NotImage tells rootless why = refl
    only_no_root (Damaged n) tells rootless why = absurd (damage_and_no_root n why rootless)
    only_no_root Version tells rootless why = absurd (rootless.none why.root why.chosen.here)
    only_no_root Worn tells rootless why = absurd (rootless.none why.root why.by.chosen.here)
    only_no_root Device tells rootless why = absurd tells
    only_no_root NoMemory tells rootless why = absurd tells

    only_version : (f : OpenFault) → TellsOfImage f → HasOtherVersion image → IsRefused lang half_len image f → f ≡ Version
    only_version NotImage tells other why = absurd (why.none other.root other.chosen.here)
    only_version (Damaged n) tells other why = absurd (damage_and_other_version n why other)
    only_version Version tells other why = refl
    only_version Worn tells other why = absurd (other_version why.root why.by.chosen why.by.version other)
    only_version Device tells other why = absurd tells
    only_version NoMemory tells other why = absurd tells

    only_damage : (n : ℕ) (f : OpenFault) → TellsOfImage f → IsDamagedAt lang half_len n image → IsRefused lang half_len image f → f ≡ Damaged n
    only_damage n NotImage tells damage why = absurd (damage_and_no_root n damage why)
    only_damage n (Damaged n') tells damage why = ap Damaged (one_damage n' n why damage)
    only_damage n Version tells damage why = absurd (damage_and_other_version n damage why)
    only_damage n Worn tells damage why = absurd (stops_before_the_end n why.root why.m why.place why.state damage why.by)
    only_damage n Device tells damage why = absurd tells
    only_damage n NoMemory tells damage why = absurd tells

    -- AN IMAGE HAS ONE REFUSAL
    pub one_refusal : (f g : OpenFault) → TellsOfImage f → TellsOfImage g → IsRefused lang half_len image f → IsRefused lang half_len image g → f ≡ g
    one_refusal NotImage g tells tells' why why' = sym (only_no_root g tells' why why')
    one_refusal (Damaged n) g tells tells' why why' = sym (only_damage n g tells' why why')
    one_refusal Version g tells tells' why why' = sym (only_version g tells' why why')
    one_refusal Worn g tells tells' why why' = sym (read_or_refused why.state g tells' why' (record { root = why.root; m = why.m; place = why.place; by = why.by }))
    one_refusal Device g tells tells' why why' = absurd tells
    one_refusal NoMemory g tells tells' why why' = absurd tells

    -- an image whose root isn't spent after the groups that are read isn't worn
    pub not_worn : (root : Root) (m place : ℕ) (state : lang.State) → ReadsBy lang half_len root m place state image → (IsSpent root (root.base_sequence + m) → ⊥) → IsWorn lang half_len image → ⊥
    not_worn root m place state by fine worn =
        let same = one_reading root worn.root m worn.m place worn.place state worn.state by worn.by in
        fine (subst (λ (n : ℕ). IsSpent root (root.base_sequence + n)) same.1 (subst (λ (r : Root). IsSpent r (r.base_sequence + worn.m)) same.0 worn.spent))
