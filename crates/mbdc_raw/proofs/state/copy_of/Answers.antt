use Rattle.std.proofs.Common.{ℕ, List, ◌++◌, take, ap, ◌∙◌}
use Rattle.std.proofs.lemmas.List.{take_all}
use Rattle.mbdc_bus.specs.Limits.{most_answer}
use Rattle.mbdc_raw.proofs.state.copy_of.Goals as goal

pub returns : goal.returns
returns c fits =
    c.append.ensures ∙ ap (λ (xs : List ℕ). take most_answer (xs ++ c.args.answer.now)) c.new-copy.ensures
    ∙ take_all most_answer c.args.answer.now fits
