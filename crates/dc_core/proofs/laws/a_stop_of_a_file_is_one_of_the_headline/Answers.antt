use Rattle.std.proofs.Common.{refl, sym, subst}
use Rattle.dc_sectors.specs.Disk.{Image}
use Rattle.dc_sectors.specs.File.{events_of, moment_in, images_in, opened_on}
use Rattle.dc_sectors.proofs.Cuts.{left_sectors}
use Rattle.dc_core.specs.Headline.{in_a_run, in_an_opening}
use Rattle.dc_core.proofs.laws.a_stop_of_a_file_is_one_of_the_headline.Goals as goal

pub returns-clause-in_a_run : goal.returns-clause-in_a_run
returns-clause-in_a_run g c state done more first now last image opens h did does is =
    let from = now.store.disk in
    let to = last.store.disk in
    let left = left_sectors to.start (events_of to.calls) (moment_in from) image is in
    let held = subst (λ (i : Image). images_in to (moment_in from) i) (sym left.1) is in
    record {
      left = left.0;
      left_is = left.1;
      stopped = in_a_run first now last (opened_on from.sectors left.0) opens h did does (record { image = held; is_settled = refl; same_size = refl });
      keeps = (tt, tt);
    }

pub returns-clause-in_an_opening : goal.returns-clause-in_an_opening
returns-clause-in_an_opening g c state done more from to image was opening is =
    let left = left_sectors to.start (events_of to.calls) (moment_in from) image is in
    let held = subst (λ (i : Image). images_in to (moment_in from) i) (sym left.1) is in
    record {
      left = left.0;
      left_is = left.1;
      stopped = in_an_opening from to (opened_on from.sectors left.0) was opening (record { image = held; is_settled = refl; same_size = refl });
      keeps = (tt, tt);
    }
