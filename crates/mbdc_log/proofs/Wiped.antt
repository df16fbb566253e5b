-- What a crash may leave while a disk without a valid root is formatted.
use Rattle.std.proofs.Common.{◌≡◌, ◌⊎◌, inl, inr, ⊎_elim, ℕ, zero, ◌<◌, ◌≤◌, ◌+◌, ◌*◌, List, [], ◌∷◌, arith, ap, sym, subst, ◌∙◌}
use Rattle.std.specs.Prelude.{Contains}
use Rattle.std.proofs.lemmas.Bool.{cases_eq}
use Rattle.std.proofs.lemmas.List.Elements.{Contains-append_cases, Contains-push_cases}
use Rattle.dc_sectors.specs.declared.sector.Sector.{Sector}
use Rattle.dc_sectors.specs.declared.sector.Sector.TheVariants.{Bytes, Unreadable}
use Rattle.dc_sectors.specs.Disk.{Image, Choices, added, settled}
use Rattle.dc_sectors.specs.Images.{added_here, added_elsewhere, only_one}
use Rattle.dc_sectors.specs.declared.device.Disk.{Ghosts}
use Rattle.dc_sectors.specs.Runs.{LeavesOnly, IsSettled}
use Rattle.dc_sectors.proofs.Moments.{weakened, followed}
use Rattle.dc_roots.specs.declared.root.Root.{Root}
use Rattle.dc_roots.specs.Root.{IsRoot, slot, next_of}
use Rattle.dc_roots.specs.Choice.{IsRootWrite}
use Rattle.dc_roots.proofs.Choices.{slot_range}
use Rattle.dc_pages.specs.declared.site.Site.{Site}
use Rattle.mbdc_log.specs.Halves.{half_start, budget_of}
use Rattle.mbdc_log.specs.Roots.{IsRootDone, first_root}
use Rattle.mbdc_log.specs.Sites.{base_site}
use Rattle.mbdc_log.specs.Stands.{blank, image_version, WipedAt, IsWiped, IsUnformatted, IsBlankOrEmpty, IsReady, Stands}
use Rattle.mbdc_log.specs.Writing.{IsAttempt, IsWritten}
use Rattle.mbdc_log.proofs.Formatted.{formatted, blank_is_no_root}
use Rattle.mbdc_io.specs.declared.kept.kept.Language.{Ghosts as Language}

-- the same of each choice
abbrev pub WipedChoices : Image → Choices → Type 0
WipedChoices old choices = (k : ℕ) (sector : Sector) → Contains (choices k) sector → WipedAt old k sector

pub wiped_settled : (old : Image) (choices : Choices) → choices ≡ settled old → WipedChoices old choices
wiped_settled old choices is_settled k sector is =
    inl (inl (only_one (old k) sector (subst (λ (c : Choices). Contains (c k) sector) is_settled is)))

-- a write of zeros more
pub wiped_added : (old : Image) (choices : Choices) (n : ℕ) (bytes : List ℕ) → Bytes bytes ≡ blank → WipedChoices old choices → WipedChoices old (added choices n bytes)
wiped_added old choices n bytes zeros wiped k sector is = ⊎_elim
    (λ (here : k ≡ n). ⊎_elim (wiped k sector)
    (λ new. ⊎_elim (λ first. inl (inr (only_one (Bytes bytes) sector first ∙ zeros))) (λ e. inr (sym e)) (Contains-push_cases (Bytes bytes ∷ []) Unreadable sector new))
    (Contains-append_cases (choices k) (Bytes bytes ∷ Unreadable ∷ []) sector (subst (λ (l : List Sector). Contains l sector) (added_here choices n bytes k here) is)))
    (λ not. wiped k sector (subst (λ (l : List Sector). Contains l sector) (added_elsewhere choices n bytes k not) is))
    (cases_eq k n)

-- ZEROS WERE WRITTEN: the disk is settled, and blank after sector 0.
pub record IsBlanked {D : Type 0} (g : Ghosts D) (half_len : ℕ) (disk : D) : Type 0 where
  pub still : IsSettled g disk
  pub blanks : (k : ℕ) → 1 ≤ k → k < 3 + 2 * half_len → g.reads disk k ≡ blank

-- the root before the first one
abbrev pub zero_root : ℕ → Root
zero_root half_len = record { version = image_version; half = 0; generation = 0; session = 1; base_sequence = 1; half_len = half_len }

module _ {K : Type 0} (lang : Language K) where
  lost_is_no_root : (root : Root) (sector : Sector) → sector ≡ Unreadable → IsRoot root sector → ⊥
  lost_is_no_root root sector lost is = let readable = is.readable in cc

  -- zeros make no root
  pub wiped_unformatted : (old image : Image) → IsUnformatted old → IsWiped old image → IsUnformatted image
  wiped_unformatted old image none wiped root has = ⊎_elim
      (λ either. ⊎_elim
      (λ same. none root (subst (IsRoot root) same has))
      (λ zeros. blank_is_no_root lang root (image (slot root.generation)) zeros has) either)
      (λ lost. lost_is_no_root root (image (slot root.generation)) lost has)
      (wiped (slot root.generation))

  -- nor do blank root slots, or one that is unreadable
  pub blank_unformatted : (image : Image) → ((k : ℕ) → 1 ≤ k → k ≤ 2 → (image k ≡ blank) ⊎ (image k ≡ Unreadable)) → IsUnformatted image
  blank_unformatted image blanks root has =
      let at = slot_range root.generation in
      ⊎_elim
      (λ zeros. blank_is_no_root lang root (image (slot root.generation)) zeros has)
      (λ lost. lost_is_no_root root (image (slot root.generation)) lost has)
      (blanks (slot root.generation) at.0 at.1)

  -- a group goes after the slots
  pub attempt_unformatted : (site : Site) (session : ℕ) (payload : List ℕ) (zeros image : Image) → 3 ≤ site.first
      → ((k : ℕ) → 1 ≤ k → k ≤ 2 → zeros k ≡ blank) → IsAttempt site session payload zeros image → IsUnformatted image
  attempt_unformatted site session payload zeros image from blanks attempt =
      blank_unformatted image (λ k low up. inl (⊎_elim (λ part. part.outside k (inl (omega arith))) (λ torn. torn.torn.outside k (inl (omega arith))) attempt ∙ blanks k low up))

  -- THE BASE GROUP WAS WRITTEN, of the state's bytes, to a disk of zeros: it is settled again.
  pub record IsBased {D : Type 0} (g : Ghosts D) (half_len count : ℕ) (payload : List ℕ) (state : lang.State) (zeros disk : D) : Type 0 where
    pub still : IsSettled g disk
    pub blanks : (k : ℕ) → 1 ≤ k → k < 3 + 2 * half_len → g.reads zeros k ≡ blank
    pub written : IsWritten (base_site half_len (first_root half_len)) 1 payload count (g.reads zeros) (g.reads disk)
    pub spells : lang.SpellsState (budget_of half_len) payload state

  module _ {D : Type 0} {g : Ghosts D} {half_len count : ℕ} {payload : List ℕ} {state : lang.State} {zeros disk : D} (based : IsBased g half_len count payload state zeros disk) where
    slots_blank : (k : ℕ) → 1 ≤ k → k ≤ 2 → g.reads disk k ≡ blank
    slots_blank k low up = let fits = based.written.group.fits in based.written.outside k (inl (omega arith)) ∙ based.blanks k low (omega arith)

    -- once the first root is in force
    pub first_root_done : (image : Image) → IsRootDone (next_of (zero_root half_len)) (g.reads disk) image → IsReady lang half_len (next_of (zero_root half_len)) zero (half_start half_len 0 + count) state image
    first_root_done image done = formatted lang half_len count payload state (g.reads zeros) (g.reads disk) image based.blanks based.written based.spells done

    -- THE FIRST ROOT, WRITTEN OR NOT
    pub first_root_step : (image : Image) → IsRootWrite (next_of (zero_root half_len)) (g.reads disk) image → IsUnformatted image ⊎ Stands lang half_len state image
    first_root_step image write = ⊎_elim
        (λ either. inl (blank_unformatted image (λ k low up. ⊎_elim
        (λ (here : k ≡ slot next.generation). ⊎_elim
        (λ same. inl (subst (λ (j : ℕ). image j ≡ blank) (sym here) (same ∙ ap (g.reads disk) (sym here) ∙ slots_blank k low up)))
        (λ lost. inr (subst (λ (j : ℕ). image j ≡ Unreadable) (sym here) lost))
        either)
        (λ not. inl (write.elsewhere k not ∙ slots_blank k low up))
        (cases_eq k (slot next.generation)))))
        (λ root_is. inr (record {
          root = next;
          m = zero;
          place = half_start half_len 0 + count;
          by = (first_root_done image (record { elsewhere = write.elsewhere; here = root_is })).stands;
        }))
        write.here
      where
        next : Root
        next = next_of (zero_root half_len)

  -- THE CALLS OF A FORMAT, one after another, with a sync after each: zeros, the base group, and the first root
  module _ {D : Type 0} (g : Ghosts D) (half_len : ℕ) (start : D) where
    pub zeros_written : (wiped : D) → IsUnformatted (g.reads start) → LeavesOnly g start wiped (IsWiped (g.reads start)) → LeavesOnly g start wiped (IsBlankOrEmpty lang half_len)
    zeros_written wiped none wiping = weakened g start wiped (IsWiped (g.reads start)) (IsBlankOrEmpty lang half_len) wiping (λ image left. inl (wiped_unformatted (g.reads start) image none left))

    pub group_written : (blanked grouped : D) (site : Site) (payload : List ℕ) → IsBlanked g half_len blanked → 3 ≤ site.first
        → LeavesOnly g start blanked (IsBlankOrEmpty lang half_len) → LeavesOnly g blanked grouped (IsAttempt site 1 payload (g.reads blanked))
        → LeavesOnly g start grouped (IsBlankOrEmpty lang half_len)
    group_written blanked grouped site payload blank from so_far grouping =
        followed g start blanked grouped (IsBlankOrEmpty lang half_len) (IsAttempt site 1 payload (g.reads blanked)) (IsBlankOrEmpty lang half_len) so_far grouping
        (λ image left. left) (λ image attempt. inl (attempt_unformatted site 1 payload (g.reads blanked) image from (λ k low up. blank.blanks k low (omega arith)) attempt))

    pub root_written : (count : ℕ) (payload : List ℕ) (zeros based rooted : D) → IsBased g half_len count payload lang.empty zeros based
        → LeavesOnly g start based (IsBlankOrEmpty lang half_len) → LeavesOnly g based rooted (IsRootWrite (next_of (zero_root half_len)) (g.reads based))
        → LeavesOnly g start rooted (IsBlankOrEmpty lang half_len)
    root_written count payload zeros based rooted is so_far rooting =
        followed g start based rooted (IsBlankOrEmpty lang half_len) (IsRootWrite (next_of (zero_root half_len)) (g.reads based)) (IsBlankOrEmpty lang half_len) so_far rooting (λ image left. left) (first_root_step is)
