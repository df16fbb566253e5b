use Rattle.std.proofs.Common.{◌≡◌, ℕ, List, ◌++◌, take, ap, sym, ◌∙◌}
use Rattle.std.proofs.lemmas.List.{take_all}
use Rattle.mbdc_bus.specs.Limits.{most_answer}
use Rattle.mbdc_poll.specs.Round.{told_of}
use Rattle.mbdc_poll.specs.declared.end.End.{End}
use Rattle.mbdc_poll.specs.declared.event.Event.TheVariants.{Failed as has_failed}
use Rattle.mbdc_poll.proofs.telling.told_of.Goals as goal

pub returns-in-Failed : goal.returns-in-Failed
returns-in-Failed g c =
    let brought = c.args.brought.now in
    let is : c.append.new.self ≡ brought.last =
    c.append.ensures ∙ ap (λ (start : List ℕ). take most_answer (start ++ c.as_slice.result.now)) c.new-last.ensures
    ∙ ap (λ (all : List ℕ). take most_answer all) c.as_slice.ensures.bytes ∙ take_all most_answer brought.last c.as_slice.ensures.fits in
    ap (λ (last : List ℕ). has_failed c.args.line c.in-Failed.meter c.in-Failed.why (record { misses = brought.misses; last = last })) is
    ∙ ap (λ (end : End). told_of c.args.house.now.state c.args.line brought end) (sym c.in-Failed.is)
