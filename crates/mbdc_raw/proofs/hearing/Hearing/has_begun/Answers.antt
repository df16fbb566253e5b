use Rattle.std.proofs.Common.{ℕ, List, length, ◌==◌, not, ap, ◌∙◌}
use Rattle.mbdc_raw.proofs.Echoes.{hearing_answer}
use Rattle.mbdc_raw.proofs.hearing.Hearing.has_begun.Goals as goal

pub returns : goal.returns
returns c =
    ap not (c.is_empty.ensures ∙ ap (λ (xs : List ℕ). length xs == 0)
    (c.as_slice.ensures.bytes ∙ hearing_answer c.args.self.now c.self.inside.request c.self.inside.answer c.self.inside.echoed c.self.view_is c.self.invariant))
