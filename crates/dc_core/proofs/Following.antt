-- One life after another (the theorem of specs/Lives).
use Rattle.std.proofs.Common.{ℕ, sym, subst, arith}
use Rattle.dc_sectors.specs.Disk.{Image}
use Rattle.dc_sectors.specs.Images.{settled_image}
use Rattle.mbdc_change.specs.State.{State}
use Rattle.mbdc_log.specs.Halves.{half_len_of}
use Rattle.dc_core.specs.PendingImages.{Reads, Stands}
use Rattle.mbdc_log.proofs.Once.{reads_once}
use Rattle.dc_meters.specs.Language.{register}
use Rattle.dc_core.specs.Lives.{LivesFollow}

pub stands_reads : (half_len : ℕ) (state : State) (image : Image) → Stands half_len state image → Reads half_len state image
stands_reads half_len state image stands = record { root = stands.root; m = stands.m; place = stands.place; by = stands.by.reads }

pub lives_follow : LivesFollow
lives_follow sectors state promised changes image left =
    let H = half_len_of sectors in
    let stands = left.front.stands in
    record {
      premise = λ other is. (_, subst (Stands H _) (sym (settled_image image other is)) stands);
      found = λ found reads. record {
        count = left.front.count;
        all_promised = left.all_promised;
        within = left.front.within;
        found_is = reads_once register H (omega arith) image found _ reads (stands_reads H _ image stands);
      };
    }
