use Rattle.std.proofs.Common.{refl}
use Rattle.mbdc_poll.proofs.Taking.{on_ok}
use Rattle.mbdc_poll.proofs.telling.tell_one.Goals as goal

pub returns : goal.returns
returns g c = (on_ok c.tell.result _ _ (λ took. (c.tell.new.self, took, refl)) c.tell.ensures.taken, c.tell.ensures.well, c.tell.ensures.failed)
