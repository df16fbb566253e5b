use Rattle.std.proofs.Common.{ℕ, List, refl, subst}
use Rattle.mbdc_io.specs.Lines.{lines_of}
use Rattle.mbdc_io.specs.Written.{Wrote}
use Rattle.mbdc_decode.proofs.InputObjects.{as_lines_text}
use Rattle.mbdc_decode.proofs.objects.lines.put_json_lines.Goals as goal

pub returns-clause-wrote : goal.returns-clause-wrote
returns-clause-wrote g c =
    subst (λ (text : List ℕ). Wrote g.W.Sink c.put_lines_as.result c.args.out.now c.put_lines_as.new.out text)
    (as_lines_text _ (λ n. refl) (λ n. refl) 1 (lines_of c.args.input.now)) (c.put_lines_as.ensures.wrote tt)
