use Rattle.mbdc_reading.proofs.Turns.{sent_given}
use Rattle.mbdc_reading.proofs.sent.sent_front.Goals as goal

pub returns : goal.returns
returns c = sent_given _ _ c.wide_front.ensures
