use Rattle.std.proofs.Common.{◌≡◌, ◌*◌, ◌/◌, refl, sym, subst, arith}
use Rattle.dc_sectors.specs.Disk.{Image}
use Rattle.dc_sectors.specs.File.{events_of, moment_in, images_in}
use Rattle.dc_sectors.proofs.Cuts.{left_sectors}
use Rattle.dc_sectors.proofs.laws.what_is_left_may_be_opened.Goals as goal

pub returns-clause-left : goal.returns-clause-left
returns-clause-left g c from to image is =
    let left = left_sectors to.start (events_of to.calls) (moment_in from) image is in
    let held = subst (λ (i : Image). images_in to (moment_in from) i) (sym left.1) is in
    (left.0, left.1, record { image = held; is_settled = refl; same_size = refl }, (tt, tt))

pub returns-clause-opened : goal.returns-clause-opened
returns-clause-opened g c sectors left small =
    let whole : 512 * sectors / 512 ≡ sectors = omega arith in
    record {
      failures = refl;
      lost = refl;
      bytes = 512 * sectors;
      calls = refl;
      sectors = omega (arith, whole, small);
    }
