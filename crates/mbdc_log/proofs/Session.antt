-- What opening's root leaves: the state that the image stood for.
use Rattle.std.proofs.Common.{◌≡◌, ⊎_elim, ℕ, suc, ◌+◌, arith, sym, refl}
use Rattle.dc_sectors.specs.Disk.{Image}
use Rattle.dc_roots.specs.declared.root.Root.{Root}
use Rattle.dc_roots.specs.Root.{slot}
use Rattle.dc_roots.specs.Choice.{IsRootWrite}
use Rattle.dc_roots.proofs.Choices.{slot_range}
use Rattle.mbdc_log.specs.Roots.{IsRootDone, opened}
use Rattle.mbdc_log.specs.Stands.{StandsBy, Stands, IsReady}
use Rattle.mbdc_log.proofs.NextRoot.{root_step, root_done, open_prepared, open_unused}
use Rattle.mbdc_io.specs.declared.kept.kept.Language.{Ghosts as Language}

module _ {K : Type 0} (lang : Language K) where
  module _ (half_len : ℕ) (root : Root) (m place : ℕ) (state : lang.State) (old : Image) (stands : StandsBy lang half_len root m place state old) where
    -- while the root is written
    pub session_step : (image : Image) → IsRootWrite (opened root) old image → Stands lang half_len state image
    session_step image write = ⊎_elim
        (λ before. record { root = root; m = m; place = place; by = before })
        (λ after. record { root = opened root; m = m; place = place; by = after })
        (root_step lang half_len root (opened root) m place m place state state old image stands (open_prepared lang half_len root (opened root) m place state old stands refl) refl write)

    -- once it is in force
    pub session_done : (image : Image) → IsRootDone (opened root) old image → IsReady lang half_len (opened root) m place state image
    session_done image done = record {
      stands = root_done lang half_len root (opened root) m place m place state state old image stands (open_prepared lang half_len root (opened root) m place state old stands refl) refl done.elsewhere done.here;
      unused = open_unused lang half_len root.session (root.base_sequence + suc m) (root.base_sequence + suc m) old image stands.fresh
          (λ k from. let in_slot = slot_range (opened root).generation in sym (done.elsewhere k (λ (e : k ≡ slot (opened root).generation). omega (arith, e, in_slot.1))));
    }
