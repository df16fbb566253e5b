use Rattle.std.proofs.Common.{◌∙◌, List, None, Some, ap, ℕ}
use Rattle.mbdc_shown.specs.Stand.{bodies_sent, headline_left}
use Rattle.mbdc_shown.proofs.Sents.{all_left}
use Rattle.mbdc_shown.proofs.stand.Headline.new.Goals as goal

pub returns : goal.returns
returns c =
    ap (λ (bodies : List (List ℕ)). headline_left 1048576 c.of.result None (bodies_sent bodies)) c.as_slice.ensures
    ∙ all_left c.args.kind c.of.result (bodies_sent c.args.bodies.now) c.of.ensures
