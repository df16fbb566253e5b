use Rattle.std.proofs.Common.{◌≡◌, Some, codes, sym, ap, ◌∙◌, arith}
use Rattle.std.proofs.lemmas.Bool.Decides.{Decides-eqb}
use Rattle.std.proofs.lemmas.Slice.Eq.{slice_eq-Decides}
use Rattle.std.proofs.lemmas.Grind.{common_steps}
use Rattle.dc_upload.proofs.Texts.{only_register, only_report, only_window, only_command}
use Rattle.dc_upload.proofs.line.parse_line.Goals as goal

pub returns-then-eq-clause-only : goal.returns-then-eq-clause-only
returns-then-eq-clause-only c =
    let decides = slice_eq-Decides Decides-eqb c.args.text.now c.as_slice.result.now c.eq.result c.eq.ensures in
    λ line is spelled. ap Some (sym (only_register c.args.text.now line (decides.0 c.if-eq.true ∙ c.as_slice.ensures) is spelled))

pub returns-in-Some-clause-only : goal.returns-in-Some-clause-only
returns-in-Some-clause-only c = λ line is spelled. only_report c.args.text.now c.in-Some.date.now line c.parse_report.result c.in-Some.ensures.found c.parse_report.ensures.only is spelled

pub returns-in-Some-behind_window-clause-only : goal.returns-in-Some-behind_window-clause-only
returns-in-Some-behind_window-clause-only c = λ line is spelled.
    only_window c.args.text.now c.in-Some-behind_window.bounds.now line c.parse_window.result c.in-Some-behind_window.ensures.found c.parse_window.ensures.only is spelled

pub returns-in-None-clause-only : goal.returns-in-None-clause-only
returns-in-None-clause-only c =
    let decides = slice_eq-Decides Decides-eqb c.args.text.now c.as_slice.result.now c.eq.result c.eq.ensures in
    let other : ¬ (c.args.text.now ≡ codes "REGISTER") = λ whole. let yes = decides.1 (whole ∙ sym c.as_slice.ensures) in absurd cc in
    λ line is spelled.
    only_command c.args.text.now line c.parse_command.result other (λ date whole. let no = c.in_default.ensures.only date whole in absurd cc)
    (λ bounds whole. let no = c.in-None.ensures.only bounds whole in absurd cc) c.parse_command.ensures.only is spelled

pub returns-then-eq-clause-fits : goal.returns-then-eq-clause-fits
returns-then-eq-clause-fits c = grind (arith, common_steps)

pub returns-in-Some-clause-found : goal.returns-in-Some-clause-found
returns-in-Some-clause-found c = grind (arith, common_steps)

pub returns-in-Some-clause-fits : goal.returns-in-Some-clause-fits
returns-in-Some-clause-fits c = grind (arith, common_steps)

pub returns-in-Some-behind_window-clause-found : goal.returns-in-Some-behind_window-clause-found
returns-in-Some-behind_window-clause-found c = grind (arith, common_steps)

pub returns-in-Some-behind_window-clause-fits : goal.returns-in-Some-behind_window-clause-fits
returns-in-Some-behind_window-clause-fits c = grind (arith, common_steps)

pub returns-in-None-clause-found : goal.returns-in-None-clause-found
returns-in-None-clause-found c = grind (arith, common_steps)

pub returns-in-None-clause-fits : goal.returns-in-None-clause-fits
returns-in-None-clause-fits c = grind (arith, common_steps)
