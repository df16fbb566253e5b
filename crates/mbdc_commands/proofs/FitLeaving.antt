-- What `fit` leaves of a disk where memory runs out first.
use Rattle.std.proofs.Common.{ℕ, false, List, Option, Err, refl}
use Rattle.mbdc_commands.specs.FitOver.{FitsOver}
use Rattle.dc_sectors.proofs.Moments.{started}
use Rattle.dc_sectors.specs.Disk.{Image, IsImage}
use Rattle.mbdc_ending.specs.Unopened.{Stands}
use Rattle.mbdc_ending.specs.declared.ending.Ending.TheVariants.{Memory}
use Rattle.mbdc_fit.specs.declared.fault.FitFault.TheVariants.{NoMemory}
use Rattle.mbdc_fit.specs.declared.list.wish.Wish.{Wish}
use Rattle.mbdc_log.specs.Halves.{half_of}
use Rattle.dc_core.specs.PendingImages.{StandsForOne}
use Rattle.dc_sectors.specs.declared.device.Disk.{Ghosts}

-- memory ran out before anything was done
module _ {D O : Type 0} (g : Ghosts D) (wish : Wish) (contents : O → Option (List ℕ)) (out : O) (disk : D) where
  pub none_done : ((d : D) (image : Image) → g.images_since d (g.moment d) image → IsImage (g.choices d) image) → Stands g disk → FitsOver g wish contents out disk disk Memory
  none_done only stands = record {
    outcome = Err NoMemory;
    is_printed = false;
    ends = refl;
    printed = tt;
    fitted = tt;
    broken = tt;
    before = λ is h. started g disk (StandsForOne (half_of g disk) (g.choices disk)) (λ image left.
        let now = only disk image left in
        let one = stands h image now in
        record { state = one.0; stands = one.1; was = image; was_image = now; stood = one.1 });
  }
