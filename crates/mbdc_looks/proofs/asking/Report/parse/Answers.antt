use Rattle.std.proofs.Common.{sym, ◌∙◌}
use Rattle.std.proofs.lemmas.Bool.Decides.{Decides-eqb}
use Rattle.std.proofs.lemmas.Slice.Eq.{slice_eq-Decides}
use Rattle.mbdc_looks.proofs.Reports.{register_is_no_day}
use Rattle.mbdc_looks.proofs.asking.Report.parse.Goals as goal

pub returns-then-eq-clause-due : goal.returns-then-eq-clause-due
returns-then-eq-clause-due c date exists spelled =
    let decides = slice_eq-Decides Decides-eqb c.args.word.now c.as_slice.result.now c.eq.result c.eq.ensures in
    absurd (register_is_no_day date (sym (decides.0 c.if-eq.true ∙ c.as_slice.ensures) ∙ spelled))
