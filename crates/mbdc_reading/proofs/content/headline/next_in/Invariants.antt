use Rattle.std.proofs.Common.{◌≡◌, option_map}
use Rattle.mbdc_reading.specs.Sent.{sent_view}
use Rattle.mbdc_reading.specs.Headline.{next_in}
use Rattle.mbdc_reading.proofs.content.headline.next_in.Given as goal

abbrev pub invariant-records : goal.invariant-records
invariant-records l = next_in l.fn.main l.fn.last (option_map sent_view l.next) l.sent-iterator ≡ next_in l.fn.main l.fn.last (option_map sent_view l.fn.best) l.fn.records
