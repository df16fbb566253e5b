use Rattle.std.proofs.Common.{◌++◌, ◌∙◌, List, ap, map, ℕ}
use Rattle.mbdc_reading.specs.Sent.{Sent}
use Rattle.mbdc_shown.specs.Stand.{bodies_sent, listed}
use Rattle.mbdc_shown.proofs.Sents.{no_sent}
use Rattle.mbdc_shown.proofs.stand.Listed.new.Goals as goal

pub returns : goal.returns
returns c =
    ap (λ (ss : List Sent). listed c.args.list (ss ++ bodies_sent (map (λ s. s.now) c.as_slice.result.now))) (c.of_body.ensures ∙ no_sent)
    ∙ ap (λ (bodies : List (List ℕ)). listed c.args.list (bodies_sent bodies)) c.as_slice.ensures
