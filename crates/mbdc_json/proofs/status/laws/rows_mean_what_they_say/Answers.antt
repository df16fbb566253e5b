use Rattle.mbdc_json.proofs.Room.{lasting, lasts, room, silent}
use Rattle.mbdc_json.proofs.status.laws.rows_mean_what_they_say.Goals as goal

pub returns-clause-silent : goal.returns-clause-silent
returns-clause-silent c = silent

pub returns-clause-lasts : goal.returns-clause-lasts
returns-clause-lasts c = lasts

pub returns-clause-room : goal.returns-clause-room
returns-clause-room c = room

pub returns-clause-days : goal.returns-clause-days
returns-clause-days c = lasting
