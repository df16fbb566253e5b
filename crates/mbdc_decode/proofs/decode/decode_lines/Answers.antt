use Rattle.std.proofs.Common.{ℕ, List, refl, subst, arith}
use Rattle.std.proofs.lemmas.Grind.{common_steps}
use Rattle.mbdc_io.specs.Written.{Wrote}
use Rattle.mbdc_decode.proofs.Forms.{as_lines_text}
use Rattle.mbdc_decode.proofs.decode.decode_lines.Goals as goal

pub returns-clause-text : goal.returns-clause-text
returns-clause-text g c =
    let wrote =
    subst (λ (text : List ℕ). Wrote g.W.Sink c.put_as.result c.args.writer.now c.put_as.new.writer text) (as_lines_text _ (λ n. refl) (λ n. refl) 1 _) (c.put_as.ensures.wrote tt) in
    grind arith

pub returns-in_err-read-clause-ends : goal.returns-in_err-read-clause-ends
returns-in_err-read-clause-ends g c = grind (arith, common_steps)
