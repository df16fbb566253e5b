-- what is read of an image without the root in force, which is put back
use Rattle.std.proofs.Common.{◌≡◌, ◌<◌, ◌+◌, ◌*◌, ℕ, List, arith, subst}
use Rattle.std.specs.Prelude.{Option, Some, IfSome}
use Rattle.std.proofs.lemmas.Bool.Decides.{nat_tests}
use Rattle.dc_sectors.specs.declared.sector.Sector.TheVariants.{Bytes}
use Rattle.dc_sectors.specs.Disk.{Image, put}
use Rattle.dc_roots.specs.declared.root.Root.{Root}
use Rattle.mbdc_log.specs.declared.fault.OpenFault.{OpenFault}
use Rattle.mbdc_log.specs.declared.fault.OpenFault.TheVariants.{Damaged}
use Rattle.mbdc_log.specs.declared.rescuing.Source.TheVariants.{Without, OtherRoot}
use Rattle.mbdc_log.specs.Refusal.{IsUnread, TellsOfImage}
use Rattle.mbdc_log.specs.Rescue.{IsRescued, IsSlot, Stops, sector_in, without}
use Rattle.mbdc_log.specs.Stands.{IsRead}
use Rattle.mbdc_io.specs.declared.kept.kept.Language.{Ghosts as Language}

same_at : (image : Image) (n : ℕ) (other bytes : List ℕ) → image n ≡ Bytes bytes → (m : ℕ) → put (put image n other) n bytes m ≡ image m
same_at image n other bytes is m = grind (arith, nat_tests)

-- what holds of an option's content
pub of_some : {A : Type 0} (o : Option A) (x : A) (P : A → Type 0) → o ≡ Some x → IfSome o P → P x
of_some o x P is all = subst (λ o. IfSome o P) is all

-- a sector is cleared, and then written again as it was
pub put_back : (image : Image) (n : ℕ) (other bytes : List ℕ) → image n ≡ Bytes bytes → put (put image n other) n bytes ≡ image
put_back image n other bytes is = λ i m. same_at image n other bytes is m i

module _ {K : Type 0} (lang : Language K) (half_len : ℕ) where
  -- the state before a group that isn't read is rescued, and that of the older root
  pub rescued_before : (image now : Image) (fault : OpenFault) (n : ℕ) (root : Root) (place last : ℕ) (state : lang.State)
      → now ≡ image → IsUnread lang half_len image fault → fault ≡ Damaged n
      → IsRead lang half_len root place last state (without n now)
      → IsRescued lang half_len (Without n) root place last state image
  rescued_before image now fault n root place last state same unread named read = record {
    reason = subst (λ (f : OpenFault). IsUnread lang half_len image f) named unread;
    read = subst (λ (i : Image). IsRead lang half_len root place last state (without n i)) same read;
  }

  pub rescued_older : (image now : Image) (fault : OpenFault) (n at : ℕ) (root : Root) (place last : ℕ) (state : lang.State)
      → now ≡ image → TellsOfImage fault → IsUnread lang half_len image fault
      → ((k : ℕ) → fault ≡ Damaged k → k < 3 + 2 * half_len → Stops lang half_len (without k now))
      → n ≡ sector_in at fault → IsSlot at image → IsRead lang half_len root place last state (without at image)
      → IsRescued lang half_len (OtherRoot n at) root place last state image
  rescued_older image now fault n at root place last state same of_image unread stops named slot_is read = record {
    reason = (
      fault,
      record {
        of_image = of_image;
        unread = unread;
        without_it = λ (k : ℕ) e within. subst (λ (i : Image). Stops lang half_len (without k i)) same (stops k e within);
      },
      named,
      slot_is,
    );
    read = read;
  }
