use Rattle.std.proofs.Common.{arith, ◌∙◌, ap, List, ℕ, length}
use Rattle.std.proofs.lemmas.Fmt.{length-decimal-le}
use Rattle.mbdc_change.proofs.command_line.CommandLine.of_number.Goals as goal

pub returns-clause-len : goal.returns-clause-len
returns-clause-len c =
    let text = c.as_bytes.ensures.value ∙ c.format.ensures.text in
    omega (arith, c.push.ensures.len, ap (λ (l : List ℕ). length l) c.empty-line.ensures, ap (λ (l : List ℕ). length l) text, length-decimal-le 18 c.args.number (omega arith) c.requires (omega (arith, c.requires)))
