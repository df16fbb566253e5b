use Rattle.std.proofs.Common.{◌∙◌, sym}
use Rattle.mbdc_change.proofs.LineSpellings.{first_space_ends, parts_at, same_parts}
use Rattle.mbdc_change.proofs.words.split_word.Goals as goal

pub returns-in_default-clause-only : goal.returns-in_default-clause-only
returns-in_default-clause-only c = λ word rest is whole.
    let ends = first_space_ends c.args.text.now word rest is whole in cc (c.in_default.ensures ∙ ends)

pub returns-clause-found : goal.returns-clause-found
returns-clause-found c =
    let parts = parts_at c.args.text.now c.in-Some.space (sym c.in-Some.ensures) in
    rw (c.split_at-2.ensures.back, c.split_at.ensures.back, c.split_at.ensures.front) (parts.is_word, parts.whole)

pub returns-clause-only : goal.returns-clause-only
returns-clause-only c = λ word rest is whole.
    let parts = same_parts c.args.text.now word rest c.in-Some.space (sym c.in-Some.ensures) is whole in
    rw (c.split_at-2.ensures.back, c.split_at.ensures.back, c.split_at.ensures.front) parts
