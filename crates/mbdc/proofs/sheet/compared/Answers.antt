use Rattle.std.proofs.Common.{◌≡◌, ◌∙◌, true, false, List, ℕ, drop, refl, sym, subst}
use Rattle.std.proofs.lemmas.Option.{IfSome_then}
use Rattle.mbdc_audit.specs.File.{IsRight}
use Rattle.mbdc_io.specs.Lines.{lines_of}
use Rattle.mbdc_sheet.specs.Sheet.{is_sheet}
use Rattle.mbdc.proofs.Shown.{both, is_faulty, is_shown, of_source}
use Rattle.mbdc.specs.Tasks.{ShowsRight}
use Rattle.mbdc.proofs.sheet.compared.Goals as goal
use Rattle.mbdc.proofs.sheet.compared.Goals.{then-is_right, else-is_right}

pub returns : goal.returns
returns g c = elim c.if-is_right.branch [
  | then-is_right w ↦ λ well.
      let page = c.args.page.now in
      let whole = c.in_ok-file.file.items in
      let right = of_source (λ (input : List ℕ). IsRight false (lines_of input)) (λ b. drop b.taken b.bytes) c.in_ok-lines.lines _
      c.as_slice.result.now whole c.in_ok-lines.ensures c.as_slice.ensures.value refl (c.in_ok-is_right.ensures.right w.if-is_right.true) in
      let shown = subst (λ (text : List ℕ). is_sheet page (lines_of text) ≡ true) c.as_slice-2.ensures.value
      (sym c.in-Ok.ensures.right ∙ is_shown _ _ well w.result-is) in
      IfSome_then _ c.in_ok-file.ensures (λ input is. subst (ShowsRight page) is (both page whole right shown))
  | else-is_right w ↦ λ well. absurd (is_faulty _ well (w.result-is ∙ w.if-is_right.false))
]
