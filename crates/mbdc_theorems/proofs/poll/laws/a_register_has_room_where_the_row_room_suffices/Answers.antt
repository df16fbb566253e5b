use Rattle.mbdc_theorems.proofs.Every.{room_row_suffices}
use Rattle.mbdc_theorems.proofs.poll.laws.a_register_has_room_where_the_row_room_suffices.Goals as goal

pub returns : goal.returns
returns g c = room_row_suffices {B = g.row.B.Denot} g.B.HalfBus
