use Rattle.std.proofs.Common.{◌++◌, ℕ, List, codes, ap, sym, subst, ◌∙◌}
use Rattle.dc_address.specs.Text.{text_of}
use Rattle.mbdc_io.specs.Words.{number_word}
use Rattle.mbdc_io.specs.Written.{Wrote}
use Rattle.mbdc_poll.specs.Text.{line_of}
use Rattle.mbdc_poll.proofs.events.text.put_line.Goals as goal

pub returns-in-Read : goal.returns-in-Read
returns-in-Read g c =
    subst (λ (line : List ℕ). Wrote g.W.Sink c.put_pieces.result c.args.out.now c.put_pieces.new.out line)
    (ap (λ (meter : List ℕ). codes "READ " ++ (meter ++ (number_word c.in-Read.serial ++ (number_word c.len.result ++ codes "\n")))) c.text.ensures
    ∙ ap (λ (n : ℕ). codes "READ " ++ (text_of c.in-Read.meter ++ (number_word c.in-Read.serial ++ (number_word n ++ codes "\n")))) c.len.ensures.len
    ∙ ap line_of (sym c.in-Read.is))
    c.put_pieces.ensures

pub returns-in-Lost : goal.returns-in-Lost
returns-in-Lost g c =
    subst (λ (line : List ℕ). Wrote g.W.Sink c.put_pieces-in-Lost.result c.args.out.now c.put_pieces-in-Lost.new.out line)
    (ap (λ (n : ℕ). codes "LINE" ++ (number_word n ++ codes " LOST\n")) c.from.ensures ∙ ap line_of (sym c.in-Lost.is))
    c.put_pieces-in-Lost.ensures

pub returns-in-Late : goal.returns-in-Late
returns-in-Late g c =
    subst (λ (line : List ℕ). Wrote g.W.Sink c.put_pieces-in-Late.result c.args.out.now c.put_pieces-in-Late.new.out line)
    (ap (λ (n : ℕ). codes "LATE" ++ (number_word n ++ (number_word c.in-Late.answers ++ codes "\n"))) c.from-in-Late.ensures ∙ ap line_of (sym c.in-Late.is))
    c.put_pieces-in-Late.ensures

pub returns-in-End : goal.returns-in-End
returns-in-End g c =
    subst (λ (line : List ℕ). Wrote g.W.Sink c.put_pieces-in-End.result c.args.out.now c.put_pieces-in-End.new.out line) (ap line_of (sym c.in-End.is)) c.put_pieces-in-End.ensures
