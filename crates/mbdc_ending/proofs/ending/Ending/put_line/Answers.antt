use Rattle.std.proofs.Common.{◌++◌, ℕ, List, codes, ap, sym, subst, ◌∙◌}
use Rattle.mbdc_io.specs.Words.{number_word}
use Rattle.mbdc_io.specs.Written.{Wrote}
use Rattle.mbdc_ending.specs.Ending.{line_of}
use Rattle.mbdc_ending.proofs.ending.Ending.put_line.Goals as goal

pub returns-in-Behind : goal.returns-in-Behind
returns-in-Behind g c =
    subst (λ (line : List ℕ). Wrote g.W.Sink c.put_pieces.result c.args.out.now c.put_pieces.new.out line)
    (ap (λ (sector : ℕ). codes "mbdc: behind: sector" ++ (number_word sector ++ codes " is ahead of what the image reads as; see mbdc rescue --help\n")) c.from.ensures ∙ ap line_of (sym c.in-Behind.is))
    c.put_pieces.ensures
