-- What an image stands for while it is compacted, and then.
use Rattle.std.proofs.Common.{◌≡◌, inl, inr, ⊎_elim, ℕ, zero, suc, ◌≤◌, ◌+◌, ◌-◌, List, arith, sym, subst, refl}
use Rattle.dc_sectors.specs.Disk.{Image, IsImage}
use Rattle.dc_sectors.specs.declared.device.Disk.{Ghosts}
use Rattle.dc_sectors.specs.Runs.{Passes, LeavesOnly}
use Rattle.dc_sectors.proofs.Moments.{weakened, followed}
use Rattle.dc_roots.specs.declared.root.Root.{Root}
use Rattle.dc_roots.specs.Root.{slot}
use Rattle.dc_roots.specs.Choice.{IsRootWrite}
use Rattle.dc_roots.proofs.Choices.{slot_range}
use Rattle.dc_pages.specs.declared.site.Site.{Site}
use Rattle.mbdc_log.specs.Halves.{budget_of}
use Rattle.mbdc_log.specs.Roots.{IsRootDone, compacted}
use Rattle.mbdc_log.specs.Sites.{base_site}
use Rattle.mbdc_log.specs.Stands.{IsUnused, StandsBy, IsReady, Stands, StandsForEither}
use Rattle.mbdc_log.specs.Writing.{IsAttempt, IsWritten}
use Rattle.mbdc_log.proofs.ReadMoments.{synced_behind}
use Rattle.mbdc_log.proofs.NextRoot.{IsPrepared, root_step, root_done, base_part, base_torn, base_prepared, base_unused}
use Rattle.mbdc_io.specs.declared.kept.kept.Language.{Ghosts as Language}

module _ {K : Type 0} (lang : Language K) where
  -- what is compacted: an image that is ready after m groups, and the sequence that comes next
  pub record IsCompactable (half_len : ℕ) (root : Root) (m place sequence : ℕ) (state : lang.State) (old : Image) : Type 0 where
    pub ready : IsReady lang half_len root m place state old
    pub small : root.half ≤ 1
    pub at_sequence : sequence ≡ root.base_sequence + suc m

  module _ {half_len : ℕ} {root : Root} {m place sequence : ℕ} {state : lang.State} {old : Image} (may : IsCompactable half_len root m place sequence state old) where
    -- where the base group goes
    abbrev site : Site
    site = base_site half_len (compacted root sequence)

    other : root.half + (1 - root.half) ≡ 1
    other = let small = may.small in omega arith

    -- while the base group is written
    pub base_attempt : (payload : List ℕ) (image : Image) → IsAttempt site root.session payload old image → Stands lang half_len state image
    base_attempt payload image attempt = ⊎_elim
        (λ part. record {
          root = root;
          m = m;
          place = place;
          by = base_part lang half_len root (compacted root sequence) m place state old image may.ready.stands (inr refl) other may.at_sequence part;
        })
        (λ torn. record {
          root = root;
          m = m;
          place = place;
          by = base_torn lang half_len root (compacted root sequence) m place state payload torn.pages old torn.written image may.ready.stands (inr refl) other may.at_sequence torn.group torn.torn;
        })
        attempt

    module _ (next : lang.State) (count : ℕ) (written : Image) (done : IsWritten site root.session (lang.bytes_of next) count old written) (spells : lang.SpellsState (budget_of half_len) (lang.bytes_of next) next) where
      -- the base group is there, and the root doesn't name it yet
      still : StandsBy lang half_len root m place state written
      still = base_torn lang half_len root (compacted root sequence) m place state (lang.bytes_of next) done.pages old written written may.ready.stands (inr refl) other may.at_sequence done.group
          (record { inside = λ k le lt. inr refl; outside = done.outside })

      prepared : IsPrepared lang half_len (compacted root sequence) zero (site.first + count) next written
      prepared =
          let count_is = done.count_is in
          let small = may.small in
          let e : site.first + done.pages + 1 ≡ site.first + count = omega arith in
          subst (λ (p : ℕ). IsPrepared lang half_len (compacted root sequence) zero p next written) e
          (base_prepared lang half_len root (compacted root sequence) m place state next (lang.bytes_of next) done.pages old written may.ready.stands
          (inr refl) may.ready.stands.reads.length_is (omega arith) refl may.at_sequence done.group spells done.outside)

      -- while the root is written
      pub compacting_step : (image : Image) → IsRootWrite (compacted root sequence) written image → StandsForEither lang half_len state next image
      compacting_step image write = ⊎_elim
          (λ before. inl (record { root = root; m = m; place = place; by = before }))
          (λ after. inr (record { root = compacted root sequence; m = zero; place = site.first + count; by = after }))
          (root_step lang half_len root (compacted root sequence) m place zero (site.first + count) state next written image still prepared refl write)

      -- once it is in force
      pub compacting_done : (image : Image) → IsRootDone (compacted root sequence) written image → IsReady lang half_len (compacted root sequence) zero (site.first + count) next image
      compacting_done image put = record {
        stands = root_done lang half_len root (compacted root sequence) m place zero (site.first + count) state next written image still prepared refl put.elsewhere put.here;
        unused = subst (λ (q : ℕ). IsUnused half_len root.session (q + suc zero) image) (sym may.at_sequence)
            (base_unused lang half_len root.session (root.base_sequence + suc m) written image still.fresh
            (λ k from. let in_slot = slot_range (compacted root sequence).generation in sym (put.elsewhere k (λ (e : k ≡ slot (compacted root sequence).generation). omega (arith, e, in_slot.1)))));
      }

  -- THE CALLS OF A COMPACTION, one after another: the base group, a sync, and the root
  module _ {D : Type 0} (g : Ghosts D)
      (counts : (disk : D) (t : ℕ) (image : Image) → t ≤ g.moment disk → IsImage (g.choices disk) image → g.images_since disk t image)
      {half_len : ℕ} {root : Root} {m place sequence : ℕ} {state : lang.State} (start based : D) (may : IsCompactable half_len root m place sequence state (g.reads start)) (next : lang.State)
      (basing : LeavesOnly g start based (IsAttempt (base_site half_len (compacted root sequence)) root.session (lang.bytes_of next) (g.reads start))) where
    pub base_written : LeavesOnly g start based (StandsForEither lang half_len state next)
    base_written = weakened g start based _ (StandsForEither lang half_len state next) basing (λ image attempt. inl (base_attempt may (lang.bytes_of next) image attempt))

    module _ (synced : D) (time : Passes g based synced (IsImage (g.choices based))) where
      pub base_synced : LeavesOnly g start synced (StandsForEither lang half_len state next)
      base_synced = synced_behind g start based synced (StandsForEither lang half_len state next) (counts based) base_written time

      pub root_put : (rooted : D) (count : ℕ) → IsWritten (base_site half_len (compacted root sequence)) root.session (lang.bytes_of next) count (g.reads start) (g.reads synced)
          → lang.SpellsState (budget_of half_len) (lang.bytes_of next) next → LeavesOnly g synced rooted (IsRootWrite (compacted root sequence) (g.reads synced))
          → LeavesOnly g start rooted (StandsForEither lang half_len state next)
      root_put rooted count done spells rooting =
          followed g start synced rooted (StandsForEither lang half_len state next) (IsRootWrite (compacted root sequence) (g.reads synced)) (StandsForEither lang half_len state next)
          base_synced rooting (λ image is. is) (compacting_step may next count (g.reads synced) done spells)
