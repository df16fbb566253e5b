-- What an image stands for when it is formatted: a root of generation 1, a base group, and zeros.
use Rattle.std.proofs.Common.{◌≡◌, inl, inr, ⊎_elim, ℕ, zero, suc, ◌<◌, ◌≤◌, ◌+◌, ◌*◌, List, replicate, arith, ap, sym, subst, ◌∙◌, refl, take}
use Rattle.std.proofs.lemmas.Bool.{cases_eq, cases_lt}
use Rattle.std.specs.Prelude.{slice_index}
use Rattle.dc_sectors.specs.declared.sector.Sector.{Sector}
use Rattle.dc_sectors.specs.declared.sector.Sector.TheVariants.{Bytes}
use Rattle.dc_sectors.specs.Disk.{Image}
use Rattle.dc_sectors.proofs.Texts.{one_text}
use Rattle.dc_roots.specs.declared.root.Root.{Root}
use Rattle.dc_roots.specs.Root.{IsRoot, slot}
use Rattle.dc_roots.proofs.Choices.{one_generation}
use Rattle.dc_pages.specs.Group.{IsGroup, Carries, base_kind, change_kind}
use Rattle.dc_pages.proofs.OneSync.{member, one_stamp}
use Rattle.dc_pages.proofs.Agree.{same_group}
use Rattle.mbdc_log.specs.Roots.{IsRootDone, first_root}
use Rattle.mbdc_log.specs.Sites.{base_site, change_site}
use Rattle.mbdc_log.specs.Writing.{IsWritten}
use Rattle.mbdc_log.proofs.Append.{any_complete_carries}
use Rattle.mbdc_log.specs.Halves.{half_start, budget_of}
use Rattle.mbdc_log.specs.Stands.{blank, StandsBy, IsReady}
use Rattle.mbdc_io.specs.declared.kept.kept.Language.{Ghosts as Language}

blank_kind : (sector : Sector) → sector ≡ blank → (bytes : List ℕ) → sector ≡ Bytes bytes → slice_index bytes 0 ≡ 0
blank_kind sector is bytes readable = ap (λ (l : List ℕ). slice_index l 0) (one_text sector bytes (replicate 512 0) readable is)

pub blank_carries_none : (session sequence : ℕ) (sector : Sector) → sector ≡ blank → Carries session sequence sector → ⊥
blank_carries_none session sequence sector is carries =
    let none = blank_kind sector is carries.bytes carries.readable in
    ⊎_elim (λ either. ⊎_elim (λ (e : slice_index carries.bytes 0 ≡ base_kind). omega (arith, e, none)) (λ (e : slice_index carries.bytes 0 ≡ change_kind). omega (arith, e, none)) either)
    (λ e. omega (arith, e, none)) carries.kind_is

module _ {K : Type 0} (lang : Language K) where
  pub blank_is_no_root : (root : Root) (sector : Sector) → sector ≡ blank → IsRoot root sector → ⊥
  blank_is_no_root root sector is root_is =
      let same = one_text sector root_is.bytes (replicate 512 0) root_is.readable is in
      let first : 0 ≡ 0x4D = ap (λ (l : List ℕ). slice_index l 0) (sym (ap (take 4) same) ∙ root_is.magic_is) in
      omega (arith, first)

  -- what a formatted image has
  pub record IsFormatted (half_len : ℕ) (payload : List ℕ) (pages : ℕ) (state : lang.State) (image : Image) : Type 0 where
    pub root_is : IsRoot (first_root half_len) (image 2)
    pub group : IsGroup (base_site half_len (first_root half_len)) 1 payload pages image
    pub spells : lang.SpellsState (budget_of half_len) payload state
    -- the other root slot, and what lies after the group
    pub other_slot : image 1 ≡ blank
    pub behind : (k : ℕ) → 3 + (pages + 1) ≤ k → k < 3 + 2 * half_len → image k ≡ blank

  module _ (half_len : ℕ) (payload : List ℕ) (pages : ℕ) (state : lang.State) (image : Image) (is : IsFormatted half_len payload pages state image) where
    abbrev root : Root
    root = first_root half_len

    greatest : (other : Root) → IsRoot other (image (slot other.generation)) → other.generation ≤ root.generation
    greatest other other_is = ⊎_elim
        (λ (e : slot other.generation ≡ 2).
        let same = one_generation other root (image 2) (subst (λ (k : ℕ). IsRoot other (image k)) e other_is) is.root_is in
        omega (arith, same))
        (λ (not : slot other.generation ≡ 2 → ⊥).
        let e : slot other.generation ≡ 1 = omega (arith, not) in
        absurd (blank_is_no_root other (image 1) is.other_slot (subst (λ (k : ℕ). IsRoot other (image k)) e other_is)))
        (cases_eq (slot other.generation) 2)

    -- each sector of the halves carries the one stamp, or is blank
    stamped : (k s q : ℕ) → 3 ≤ k → k < 3 + 2 * half_len → Carries s q (image k) → (s ≡ 1) × (q ≡ 1)
    stamped k s q from to carries = ⊎_elim
        (λ (lt : k < 3 + (pages + 1)).
        let one = one_stamp s q 1 1 (image k) carries (member (base_site half_len root) 1 payload pages image (inl refl) (inr refl) is.group k (omega arith) (omega arith)) in
        (one.0, one.1))
        (λ (le : 3 + (pages + 1) ≤ k). absurd (blank_carries_none s q (image k) (is.behind k le to) carries))
        (cases_lt k (3 + (pages + 1)))

    pub formatted_stands : StandsBy lang half_len root zero (half_start half_len 0 + pages + 1) state image
    formatted_stands = record {
      reads = record {
        chosen = record { here = is.root_is; greatest = greatest };
        version = inr refl;
        length_is = refl;
        holds = record { session = 1; payload = payload; pages = pages; group = is.group; spells = is.spells; end = refl };
        no_more = λ _ complete.
            let begins = any_complete_carries lang (change_site half_len root (root.base_sequence + suc zero) (half_start half_len 0 + pages + 1)) image (inr refl) (inr refl) complete in
            let inside = begins.0 in
            blank_carries_none begins.1.0 (root.base_sequence + suc zero) (image (half_start half_len 0 + pages + 1)) (is.behind (half_start half_len 0 + pages + 1) (omega arith) (omega arith)) begins.1.1;
      };
      fresh = λ k s q from to carries. let one = stamped k s q from to carries in (omega (arith, one.0), omega (arith, one.1));
    }

    -- and nothing carries the stamp that comes next
    pub formatted_ready : IsReady lang half_len root zero (half_start half_len 0 + pages + 1) state image
    formatted_ready = record {
      stands = formatted_stands;
      unused = λ k from to carries. let one = stamped k root.session (root.base_sequence + suc zero) from to carries in omega (arith, one.1);
    }

  -- FROM ZEROS: the base group of the first state, and then the first root
  pub formatted : (half_len count : ℕ) (payload : List ℕ) (state : lang.State) (zeros grouped image : Image)
      → ((k : ℕ) → 1 ≤ k → k < 3 + 2 * half_len → zeros k ≡ blank)
      → IsWritten (base_site half_len (first_root half_len)) 1 payload count zeros grouped
      → lang.SpellsState (budget_of half_len) payload state
      → IsRootDone (first_root half_len) grouped image
      → IsReady lang half_len (first_root half_len) zero (half_start half_len 0 + count) state image
  formatted half_len count payload state zeros grouped image blanks written spells done =
      let keeps : (k : ℕ) → 3 ≤ k → image k ≡ grouped k = λ k from. done.elsewhere k (λ (e : k ≡ 2). omega (arith, e)) in
      let count_is = written.count_is in
      let e : half_start half_len 0 + written.pages + 1 ≡ half_start half_len 0 + count = omega arith in
      let fits = written.group.fits in
      subst (λ (p : ℕ). IsReady lang half_len (first_root half_len) zero p state image) e
      (formatted_ready half_len payload written.pages state image (record {
        root_is = done.here;
        group = same_group (base_site half_len (first_root half_len)) 1 payload written.pages grouped image (λ k low up. sym (keeps k (omega arith))) written.group;
        spells = spells;
        other_slot = done.elsewhere 1 (λ (e : 1 ≡ 2). omega (arith, e)) ∙ written.outside 1 (inl (omega arith)) ∙ blanks 1 (omega arith) (omega arith);
        behind = λ k low up. keeps k (omega arith) ∙ written.outside k (inr (omega arith)) ∙ blanks k (omega arith) up;
      }))
