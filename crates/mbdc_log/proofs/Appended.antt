-- What an image stands for while a group of changes is written, and then.
use Rattle.std.proofs.Common.{◌≡◌, inl, inr, ⊎_elim, ℕ, suc, ◌+◌, List, arith, subst}
use Rattle.dc_sectors.specs.Disk.{Image}
use Rattle.dc_roots.specs.declared.root.Root.{Root}
use Rattle.dc_pages.specs.declared.site.Site.{Site}
use Rattle.dc_pages.specs.Group.{IsGroup}
use Rattle.dc_pages.specs.PagesWriting.{IsPartOf}
use Rattle.mbdc_log.specs.Sites.{change_site}
use Rattle.mbdc_log.specs.Stands.{IsReady, IsAppendable, StandsForEither}
use Rattle.mbdc_log.specs.Writing.{IsAttempt, IsWritten}
use Rattle.mbdc_log.proofs.Append.{append_part, append_torn, append_done}
use Rattle.mbdc_io.specs.declared.kept.kept.Language.{Ghosts as Language}

module _ {K : Type 0} (lang : Language K) where
  module _ (half_len : ℕ) (root : Root) (m : ℕ) (site : Site) (was : lang.State) (payload : List ℕ) (changes : List lang.Change) (old : Image)
      (may : IsAppendable lang half_len root m site was payload changes old) where
    -- the site by the root
    there : (P : Site → Type 0) → P site → P (change_site half_len root (root.base_sequence + suc m) site.first)
    there P is = subst P may.site_is is

    -- before the sync: the state before or the state after
    pub appending_stands : (image : Image) → IsAttempt site root.session payload old image → StandsForEither lang half_len was (lang.after was changes) image
    appending_stands image attempt = ⊎_elim
        (λ part. inl (record {
          root = root;
          m = m;
          place = site.first;
          by = append_part lang half_len root m site.first was old may.ready may.is_sequence image (there (λ s. IsPartOf s root.session old image) part);
        }))
        (λ torn. ⊎_elim
        (λ before. inl (record { root = root; m = m; place = site.first; by = before }))
        (λ now. inr (record { root = root; m = suc m; place = site.first + torn.pages + 1; by = now }))
        (append_torn lang half_len root m site.first was old may.ready may.is_sequence payload torn.pages changes torn.written
        (there (λ s. IsGroup s root.session payload torn.pages torn.written) torn.group) may.spells may.accepted image torn.torn))
        attempt

    -- with all written: the state after, and ready again
    pub appended_ready : (count : ℕ) (image : Image) → IsWritten site root.session payload count old image
        → IsReady lang half_len root (suc m) (site.first + count) (lang.after was changes) image
    appended_ready count image written =
        let count_is = written.count_is in
        let e : site.first + written.pages + 1 ≡ site.first + count = omega arith in
        subst (λ (p : ℕ). IsReady lang half_len root (suc m) p (lang.after was changes) image) e
        (append_done lang half_len root m site.first was old may.ready may.is_sequence payload written.pages changes image
        (there (λ s. IsGroup s root.session payload written.pages image) written.group) may.spells may.accepted written.outside)
