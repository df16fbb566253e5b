-- What a store that keeps a state leaves, and keeps.
use Rattle.std.proofs.Common.{◌≡◌, ◌<◌, ◌+◌, ◌^◌, ℕ, zero, suc, List, false, inl, arith, ap, sym, subst, ◌∙◌}
use Rattle.dc_sectors.specs.Disk.{Image, Choices, IsImage, settled}
use Rattle.dc_sectors.specs.Images.{settled_image}
use Rattle.dc_sectors.specs.declared.device.Disk.{Ghosts}
use Rattle.dc_sectors.specs.Runs.{IsSettled}
use Rattle.dc_roots.specs.declared.root.Root.{Root}
use Rattle.mbdc_log.specs.Halves.{half_of, half_len_of, budget_of}
use Rattle.mbdc_log.specs.Roots.{compacted}
use Rattle.mbdc_log.specs.Sites.{change_site}
use Rattle.mbdc_log.specs.Stands.{IsReady, IsReadyFor, IsAppendable, Reads, Stands, EachStands, StandsForEither}
use Rattle.mbdc_log.specs.Store.{Opened, Keeps}
use Rattle.mbdc_log.proofs.Once.{reads_once}
use Rattle.mbdc_io.specs.declared.kept.kept.Language.{Ghosts as Language}

module _ {K : Type 0} (lang : Language K) where
  -- each image of a settled disk that is ready for a state stands for it
  pub ready_stands : (half_len : ℕ) (root : Root) (state : lang.State) (choices : Choices) (reads image : Image) → choices ≡ settled reads → IsReadyFor lang half_len root state reads → IsImage choices image → Stands lang half_len state image
  ready_stands half_len root state choices reads image is_settled ready is =
      let same : image ≡ reads = settled_image reads image (subst (λ (c : Choices). IsImage c image) is_settled is) in
      subst (Stands lang half_len state) (sym same) (record { root = root; m = ready.m; place = ready.place; by = ready.ready.stands })

  module _ {D : Type 0} (g : Ghosts D) where
    -- before anything is written
    pub keeps_stands : (store : Opened D) (was next : lang.State) (image : Image) → Keeps lang g store was → IsImage (g.choices store.disk) image
        → StandsForEither lang (half_of g store.disk) was next image
    keeps_stands store was next image kept is =
        inl (ready_stands (half_of g store.disk) store.root was (g.choices store.disk) (g.reads store.disk) image kept.is_settled
        (record { m = kept.m; place = store.place; ready = kept.ready }) is)

    -- accepted changes may follow
    pub keeps_appendable : (store : Opened D) (was : lang.State) (payload : List ℕ) (changes : List lang.Change) (kept : Keeps lang g store was) → store.last + 1 < 2 ^ 64
        → lang.SpellsChanges payload changes → lang.Accepts (budget_of (half_of g store.disk)) was changes
        → IsAppendable lang (half_of g store.disk) store.root kept.m (change_site (half_of g store.disk) store.root (store.last + 1) store.place) was payload changes (g.reads store.disk)
    keeps_appendable store was payload changes kept small spells accepted =
        let H = half_of g store.disk in
        let last_is = kept.last_is in
        let next : store.last + 1 ≡ store.root.base_sequence + suc kept.m = omega (arith, last_is) in
        record {
          ready = kept.ready;
          site_is = ap (λ (q : ℕ). change_site H store.root q store.place) next;
          is_sequence = omega (arith, next);
          spells = spells;
          accepted = accepted;
        }

    -- and are kept
    pub keeps_after : (store new : Opened D) (was : lang.State) (count next : ℕ) (now : lang.State) → (kept : Keeps lang g store was)
        → new.is_stopped ≡ false → new.root ≡ store.root → new.place ≡ store.place + count → new.last ≡ store.last + 1 → g.sectors new.disk ≡ g.sectors store.disk
        → IsSettled g new.disk
        → IsReady lang (half_of g store.disk) store.root (suc kept.m) (store.place + count) now (g.reads new.disk) → Keeps lang g new now
    keeps_after store new was count next now kept running root place last same is_settled ready =
        let last_is = kept.last_is in
        let base : new.root.base_sequence ≡ store.root.base_sequence = ap (λ (r : Root). r.base_sequence) root in
        record {
          running = running;
          version = ap (λ (r : Root). r.version) root ∙ kept.version;
          is_settled = is_settled;
          m = suc kept.m;
          ready = subst (λ (s : ℕ). IsReady lang (half_len_of s) new.root (suc kept.m) new.place now (g.reads new.disk)) (sym same)
              (subst (λ (p : ℕ). IsReady lang (half_of g store.disk) new.root (suc kept.m) p now (g.reads new.disk)) (sym place)
              (subst (λ (r : Root). IsReady lang (half_of g store.disk) r (suc kept.m) (store.place + count) now (g.reads new.disk)) (sym root) ready));
          last_is = omega (arith, last, last_is, base);
        }

    -- the state that was compacted is kept
    pub keeps_compacted : (store new : Opened D) (state : lang.State) (sequence : ℕ) → new.is_stopped ≡ false → new.root ≡ compacted store.root sequence → new.last ≡ sequence → g.sectors new.disk ≡ g.sectors store.disk
        → IsSettled g new.disk → IsReady lang (half_of g store.disk) new.root zero new.place state (g.reads new.disk) → Keeps lang g new state
    keeps_compacted store new state sequence running root last same is_settled ready =
        let base : new.root.base_sequence ≡ sequence = ap (λ (r : Root). r.base_sequence) root in
        record {
          running = running;
          version = ap (λ (r : Root). r.version) root;
          is_settled = is_settled;
          m = zero;
          ready = subst (λ (s : ℕ). IsReady lang (half_len_of s) new.root zero new.place state (g.reads new.disk)) (sym same) ready;
          last_is = omega (arith, last, base);
        }

    -- FOR THE CRATES ABOVE

    -- each image of a store that keeps a state stands for it
    pub kept_stands : (store : Opened D) (state : lang.State) (image : Image) → Keeps lang g store state → IsImage (g.choices store.disk) image → Stands lang (half_of g store.disk) state image
    kept_stands store state image kept is =
        ready_stands (half_of g store.disk) store.root state (g.choices store.disk) (g.reads store.disk) image kept.is_settled (record { m = kept.m; place = store.place; ready = kept.ready }) is

    -- and so may be opened again
    pub kept_each_stands : (store : Opened D) (state : lang.State) → Keeps lang g store state → EachStands lang (half_of g store.disk) (g.choices store.disk)
    kept_each_stands store state kept image is = (state, kept_stands store state image kept is)

    -- what its disk reads as, once it is closed and opened with Ok, is that state
    pub close_open : (store : Opened D) (was now : lang.State) → Keeps lang g store was → Reads lang (half_of g store.disk) now (g.reads store.disk) → now ≡ was
    close_open store was now kept read =
        reads_once lang (half_of g store.disk) (omega arith) (g.reads store.disk) now was read (record { root = store.root; m = kept.m; place = store.place; by = kept.ready.stands.reads })
