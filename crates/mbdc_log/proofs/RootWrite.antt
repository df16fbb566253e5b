-- What a write of a root to a disk that is settled may leave.
use Rattle.std.proofs.Common.{◌≡◌, inl, inr, ⊎_elim, ℕ, List, ap, sym, subst, ◌∙◌, refl}
use Rattle.std.specs.Prelude.{Contains}
use Rattle.dc_sectors.specs.declared.sector.Sector.{Sector}
use Rattle.dc_sectors.specs.declared.sector.Sector.TheVariants.{Bytes}
use Rattle.dc_sectors.specs.Disk.{Image, Choices, IsImage, added, settled, put}
use Rattle.dc_sectors.specs.Images.{added_elsewhere, added_cases, only_one, put_here, put_elsewhere}
use Rattle.dc_roots.specs.declared.root.Root.{Root}
use Rattle.dc_roots.specs.Root.{IsRoot, slot}
use Rattle.dc_roots.specs.Choice.{IsRootWrite}
use Rattle.mbdc_log.specs.Roots.{IsRootDone}

-- each image of the moment of the write
pub root_write : (next : Root) (bytes : List ℕ) (old image : Image) (choices : Choices) → IsRoot next (Bytes bytes) → choices ≡ settled old
    → IsImage (added choices (slot next.generation) bytes) image → IsRootWrite next old image
root_write next bytes old image choices is_root is_settled is = record {
  elsewhere = λ k not. only_one (old k) (image k) (subst (λ (c : List Sector). Contains c (image k)) (added_elsewhere choices (slot next.generation) bytes k not ∙ ap (λ (c : Choices). c k) is_settled) (is k));
  here = ⊎_elim
      (λ either. ⊎_elim
      (λ was. inl (inl (only_one (old (slot next.generation)) (image (slot next.generation)) (subst (λ (c : Choices). Contains (c (slot next.generation)) (image (slot next.generation))) is_settled was))))
      (λ (written : image (slot next.generation) ≡ Bytes bytes). inr (subst (IsRoot next) (sym written) is_root)) either)
      (λ lost. inl (inr lost))
      (added_cases choices (slot next.generation) bytes image is);
}

-- the image that is read when the write succeeded
pub root_put : (next : Root) (bytes : List ℕ) (old : Image) → IsRoot next (Bytes bytes) → IsRootDone next old (put old (slot next.generation) bytes)
root_put next bytes old is_root = record {
  elsewhere = λ k not. put_elsewhere old (slot next.generation) bytes k not;
  here = subst (IsRoot next) (sym (put_here old (slot next.generation) bytes (slot next.generation) refl)) is_root;
}

-- before anything is written
pub unwritten_root : (next : Root) (old image : Image) (choices : Choices) → choices ≡ settled old → IsImage choices image → IsRootWrite next old image
unwritten_root next old image choices is_settled is =
    let same : (k : ℕ) → image k ≡ old k = λ k. only_one (old k) (image k) (subst (λ (c : Choices). Contains (c k) (image k)) is_settled (is k)) in
    record { elsewhere = λ k not. same k; here = inl (inl (same (slot next.generation))) }
