use Rattle.std.proofs.Common.{ℕ, List, ◌∷◌, ◌++◌, take, ap, ◌∙◌}
use Rattle.std.proofs.lemmas.List.{take_all}
use Rattle.std.specs.List.{insert}
use Rattle.mbdc_bus.specs.Limits.{most_answer}
use Rattle.mbdc_poll.specs.Remembering.{most_before}
use Rattle.mbdc_poll.proofs.remembering.note.Goals as goal

pub returns : goal.returns
returns c =
    c.insert.ensures.items
    ∙ ap (λ (items : List (List ℕ)). insert items 0 c.append.new.self) c.truncate.ensures.items
    ∙ ap (λ (latest : List ℕ). latest ∷ take most_before c.args.telegrams.now.items)
    (c.append.ensures ∙ ap (λ (xs : List ℕ). take most_answer (xs ++ c.args.telegram.now)) c.new-latest.ensures
    ∙ take_all most_answer c.args.telegram.now c.requires)
