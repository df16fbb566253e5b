use Rattle.std.proofs.Common.{◌≡◌, ℕ, List, ◌++◌, codes, decimal, Some, option_map, ap, sym, subst, ◌∙◌}
use Rattle.dc_address.specs.Text.{text_of}
use Rattle.mbdc_io.specs.Written.{Wrote}
use Rattle.mbdc_reading.specs.Content.{content_view}
use Rattle.mbdc_reading.specs.Reason.{reason_of}
use Rattle.mbdc_poll.specs.Content.{untaken}
use Rattle.mbdc_poll.specs.Reason.{content_lines, why_line, why_lines}
use Rattle.mbdc_poll.proofs.events.reason.put_untaken.Goals as goal

pub returns : goal.returns
unfolding why_line
returns g c =
    let line = c.args.line in
    let meter = c.args.meter.now in
    let content : untaken c.args.answer.now ≡ Some (content_view c.in-Some.content) = sym c.untaken.ensures ∙ ap (option_map content_view) c.in-Some.is in
    let why : reason_of (content_view c.in-Some.content) ≡ Some c.in-Some-reason.reason = sym c.reason.ensures ∙ c.in-Some-reason.is in
    subst (λ (text : List ℕ). Wrote g.W.Sink c.put_pieces.result c.args.out.now c.put_pieces.new.out text)
    (ap (λ (n : ℕ). codes "mbdc: line " ++ (decimal n ++ (codes ": " ++ (c.text.result ++ (codes ": " ++ (c.text-2.result.now ++ codes "\n")))))) c.from.ensures
    ∙ ap (λ (m : List ℕ). codes "mbdc: line " ++ (decimal line ++ (codes ": " ++ (m ++ (codes ": " ++ (c.text-2.result.now ++ codes "\n")))))) c.text.ensures
    ∙ ap (λ (r : List ℕ). codes "mbdc: line " ++ (decimal line ++ (codes ": " ++ (text_of meter ++ (codes ": " ++ (r ++ codes "\n")))))) c.text-2.ensures
    ∙ sym (ap (content_lines line meter) content ∙ ap (why_lines line meter) why))
    c.put_pieces.ensures
