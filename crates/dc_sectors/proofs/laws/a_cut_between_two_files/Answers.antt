use Rattle.std.proofs.Common.{refl}
use Rattle.dc_sectors.proofs.Cuts.{of_zeros, written, of_ones, is_left, differ}
use Rattle.dc_sectors.proofs.laws.a_cut_between_two_files.Goals as goal

pub returns : goal.returns
returns g c = (of_zeros, written, of_ones, record { image = is_left; is_settled = refl; same_size = refl }, ((tt, tt), tt), (tt, tt), differ)
