use Rattle.std.proofs.Common.{◌≡◌, ◌≤◌, ◌+◌, ◌∷◌, Err, arith}
use Rattle.std.proofs.lemmas.Result.{err_from_is_err_and}
use Rattle.std.proofs.lemmas.Grind.{common_steps}
use Rattle.mbdc_commands.proofs.Refused.{bad_link}
use Rattle.mbdc_commands.proofs.words.links.Links.add.Goals as goal

pub returns-in_err-link-clause-refused : goal.returns-in_err-link-clause-refused
returns-in_err-link-clause-refused c =
    let low : c.in_ok-place.place ≤ 7 = grind (arith, common_steps) in
    let spelled : c.args.word.now ≡ (49 + c.in_ok-place.place) ∷ (61 ∷ c.in_ok-line.link.now) = grind (arith, common_steps) in
    let fault = c.in_err-link.field-0.0 in
    let failed = err_from_is_err_and c.from_residual-in_err-link.result c.from_residual-in_err-link.ensures.1 in
    let from : c.from_residual-in_err-link.result ≡ Err fault = cc (failed.1, failed.2) in
    rw from (bad_link fault c.in_ok-place.place c.in_ok-line.link.now c.args.word.now c.args.self.now.links
    (record { line = low; spelled = spelled }) c.in_err-link.ensures.refused)
