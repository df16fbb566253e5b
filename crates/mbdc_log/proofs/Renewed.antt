-- Why a state isn't written into a new image: what formatting leaves may be opened, and its counters are far from their
-- ends.
use Rattle.std.proofs.Common.{◌≡◌, ◌⊎◌, inl, inr, ⊎_elim, ℕ, zero, suc, ◌<◌, ◌≤◌, ◌+◌, ◌-◌, ◌^◌, Result, Ok, Err, arith, ap, sym, ◌∙◌, refl}
use Rattle.std.proofs.lemmas.Bool.{cases_lt}
use Rattle.dc_sectors.specs.Disk.{Image}
use Rattle.dc_sectors.specs.declared.device.Disk.{Ghosts}
use Rattle.dc_roots.specs.declared.root.Root.{Root}
use Rattle.dc_roots.specs.Choice.{HasRoot, IsChosen}
use Rattle.dc_roots.proofs.Choices.{one_root}
use Rattle.mbdc_io.specs.Failures.{HasRisen}
use Rattle.mbdc_log.specs.declared.fault.FormatFault.{FormatFault}
use Rattle.mbdc_log.specs.declared.fault.FormatFault.TheVariants.{TooSmall, AlreadyFormatted, Device as Unformatted}
use Rattle.mbdc_log.specs.declared.fault.OpenFault.{OpenFault}
use Rattle.mbdc_log.specs.declared.fault.OpenFault.TheVariants.{NotImage, Damaged, Version, Worn, Device, NoMemory}
use Rattle.mbdc_log.specs.declared.fault.StoreFault.{StoreFault}
use Rattle.mbdc_log.specs.declared.fault.StoreFault.TheVariants.{Device as Failed, Worn as Exhausted, Stopped}
use Rattle.mbdc_log.specs.Halves.{fewest_sectors, half_of, half_start, half_end}
use Rattle.mbdc_log.specs.Refusal.{IsRefused, IsSpent, IsWorn, TellsOfImage}
use Rattle.mbdc_log.specs.Rescue.{IsFormatRefused, IsOpenRefused, IsStoreRefused}
use Rattle.mbdc_log.specs.Roots.{first_root, opened, IsOpenedRoot}
use Rattle.mbdc_log.specs.Stands.{image_version, Holds, ReadsBy}
use Rattle.mbdc_log.specs.Store.{Opened, Keeps}
use Rattle.mbdc_io.specs.declared.kept.kept.Language.{Ghosts as Language}

no_both : {X E : Type 0} (result : Result X E) (x : X) (e : E) → result ≡ Ok x → result ≡ Err e → ⊥
no_both result x e is other = cc

-- a disk that was formatted has enough sectors
pub not_small : {X E : Type 0} (n : ℕ) (result : Result X E) (x : X) (e : E) → result ≡ Ok x → (n < fewest_sectors → result ≡ Err e) → fewest_sectors ≤ n
not_small n result x e is small = ⊎_elim
    (λ (lt : n < fewest_sectors). absurd (no_both result x e is (small lt)))
    (λ le. le)
    (cases_lt n fewest_sectors)

-- a first root has all its counters before it
not_spent : (root : Root) (last : ℕ) → root.generation ≡ 1 → root.session ≡ 1 → root.version ≡ image_version → IsSpent root last → ⊥
not_spent root last generation session version (inl (inl e)) = omega (arith, generation, e)
not_spent root last generation session version (inl (inr e)) = omega (arith, session, e)
not_spent root last generation session version (inr both) = both.0 version

-- the root of the session after the first one
opened_first : (half_len last : ℕ) (root now : Root) → root ≡ first_root half_len → IsOpenedRoot root last now → now ≡ opened (first_root half_len)
opened_first half_len last root now same (inl is) = is.1 ∙ ap opened same
opened_first half_len last root now same (inr other) = absurd (other.0 (ap (λ (r : Root). r.version) same))

module _ {K : Type 0} (lang : Language K) where
  module _ (half_len : ℕ) (root : Root) (image : Image) where
    -- each group takes a sector at least
    from_start : (m place : ℕ) (state : lang.State) → Holds lang half_len root image m place state → half_start half_len root.half + m < place
    from_start zero place state is =
        let end = is.end in
        omega (arith, end)
    from_start (suc m) place state is =
        let before = from_start m is.from is.was is.before in
        let end = is.end in
        omega (arith, before, end)

    -- and lies within the half
    to_end : (m place : ℕ) (state : lang.State) → Holds lang half_len root image m place state → place ≤ half_end half_len root.half
    to_end zero place state is =
        let end = is.end in
        let fits = is.group.fits in
        omega (arith, end, fits)
    to_end (suc m) place state is =
        let end = is.end in
        let fits = is.group.fits in
        omega (arith, end, fits)

    -- so there are fewer than sectors of a half
    few_groups : (m place : ℕ) (state : lang.State) → Holds lang half_len root image m place state → m < half_len
    few_groups m place state is =
        let from = from_start m place state is in
        let to = to_end m place state is in
        omega (arith, from, to)

  -- an image with the first root isn't worn
  not_worn_yet : (half_len : ℕ) (image : Image) → IsChosen (first_root half_len) image → IsWorn lang half_len image → ⊥
  not_worn_yet half_len image chosen worn =
      let same : worn.root ≡ first_root half_len = one_root worn.root (first_root half_len) image worn.by.chosen chosen in
      not_spent worn.root (worn.root.base_sequence + worn.m) (ap (λ (r : Root). r.generation) same) (ap (λ (r : Root). r.session) same) (ap (λ (r : Root). r.version) same) worn.spent

  -- the root of a store that was opened on it
  pub opened_root : (half_len : ℕ) (image : Image) (state : lang.State) (now : Root) → IsChosen (first_root half_len) image
      → (root : Root) × (m : ℕ) × (place : ℕ) × ReadsBy lang half_len root m place state image × IsOpenedRoot root (root.base_sequence + m) now → now ≡ opened (first_root half_len)
  opened_root half_len image state now chosen read =
      opened_first half_len _ read.0 now (one_root read.0 (first_root half_len) image read.3.chosen chosen) read.4

  module _ {D : Type 0} (g : Ghosts D) (disk left : D) where
    -- THE FAULTS, by the step that failed

    pub format_refused : (fault : FormatFault) → (fault ≡ TooSmall → g.sectors disk < fewest_sectors) → (g.keeps left → fault ≡ AlreadyFormatted → (root : Root) × HasRoot root (g.reads disk))
        → (fault ≡ Unformatted → HasRisen (g.failures disk) (g.failures left)) → IsFormatRefused g disk left fault
    format_refused TooSmall small already failed = small refl
    format_refused AlreadyFormatted small already failed = λ h. already h refl
    format_refused Unformatted small already failed = failed refl

    pub open_refused : (fault : OpenFault) (half_len : ℕ) (image : Image) → IsChosen (first_root half_len) image → (g.keeps left → TellsOfImage fault → fault ≡ Worn)
        → (g.keeps left → IsRefused lang half_len image fault) → (fault ≡ Device → HasRisen (g.failures disk) (g.failures left)) → IsOpenRefused g disk left fault
    open_refused NotImage half_len image chosen only refused failed = λ h. let no : NotImage ≡ Worn = only h tt in cc
    open_refused (Damaged n) half_len image chosen only refused failed = λ h. let no : Damaged n ≡ Worn = only h tt in cc
    open_refused Version half_len image chosen only refused failed = λ h. let no : Version ≡ Worn = only h tt in cc
    open_refused Worn half_len image chosen only refused failed = λ h. not_worn_yet half_len image chosen (refused h)
    open_refused Device half_len image chosen only refused failed = failed refl
    open_refused NoMemory half_len image chosen only refused failed = tt

    -- a store on a new image has counters left
    has_counters : (store : Opened D) (state : lang.State) (half_len : ℕ) → Keeps lang g store state → store.root ≡ opened (first_root half_len)
        → (2 ^ 64 - 1 ≤ store.last + 1) ⊎ (store.root.generation ≡ 2 ^ 64 - 1) → ⊥
    has_counters store state half_len kept root (inl end) =
        let base : store.root.base_sequence ≡ 1 = ap (λ (r : Root). r.base_sequence) root in
        let few = few_groups (half_of g store.disk) store.root (g.reads store.disk) kept.m store.place state kept.ready.stands.reads.holds in
        let most : half_of g store.disk ≤ 65536 = omega arith in
        let last_is = kept.last_is in
        omega (arith, base, few, most, last_is, end)
    has_counters store state half_len kept root (inr end) =
        let generation : store.root.generation ≡ 2 = ap (λ (r : Root). r.generation) root in
        omega (arith, generation, end)

    pub store_refused : (fault : StoreFault) (store : Opened D) (state : lang.State) (half_len : ℕ) → (g.keeps left → Keeps lang g store state) → (g.keeps left → store.root ≡ opened (first_root half_len))
        → (fault ≡ Exhausted → (2 ^ 64 - 1 ≤ store.last + 1) ⊎ (store.root.generation ≡ 2 ^ 64 - 1)) → (fault ≡ Stopped → ⊥)
        → (fault ≡ Failed → HasRisen (g.failures disk) (g.failures left)) → IsStoreRefused g disk left fault
    store_refused Failed store state half_len kept root worn stopped failed = failed refl
    store_refused Exhausted store state half_len kept root worn stopped failed = λ h. has_counters store state half_len (kept h) (root h) (worn refl)
    store_refused Stopped store state half_len kept root worn stopped failed = stopped refl
