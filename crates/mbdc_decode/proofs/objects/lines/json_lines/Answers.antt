use Rattle.std.proofs.Common.{ℕ, List, refl, subst, arith}
use Rattle.mbdc_io.specs.Written.{Wrote}
use Rattle.mbdc_decode.proofs.InputObjects.{as_lines_text}
use Rattle.mbdc_decode.proofs.objects.lines.json_lines.Goals as goal

pub returns-clause-text : goal.returns-clause-text
returns-clause-text g c =
    let wrote =
    subst (λ (text : List ℕ). Wrote g.W.Sink c.put_as.result c.args.writer.now c.put_as.new.writer text) (as_lines_text _ (λ n. refl) (λ n. refl) 1 _) (c.put_as.ensures.wrote tt) in
    grind arith
