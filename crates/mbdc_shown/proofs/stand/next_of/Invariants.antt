use Rattle.std.proofs.Common.{◌≡◌, None, drop, map, option_map}
use Rattle.mbdc_reading.specs.Sent.{sent_view}
use Rattle.mbdc_reading.specs.Headline.{next_in}
use Rattle.mbdc_shown.specs.Stand.{bodies_sent}
use Rattle.mbdc_shown.proofs.stand.next_of.Given as goal

-- what the other telegrams make of the best so far is what all make
abbrev pub invariant-loop-body : goal.invariant-loop-body
invariant-loop-body l = next_in l.main l.last (option_map sent_view l.best) (bodies_sent (map (λ s. s.now) (drop l.body-index l.bodies))) ≡ next_in l.main l.last None (bodies_sent (map (λ s. s.now) l.bodies))
