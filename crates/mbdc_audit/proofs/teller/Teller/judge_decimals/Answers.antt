use Rattle.std.proofs.Common.{◌≡◌, [], Option, inl, sym, ◌∙◌, refl, subst}
use Rattle.std.specs.Prelude.{codes}
use Rattle.mbdc_audit.specs.declared.exact.Exact.{Exact}
use Rattle.mbdc_audit.specs.Judged.{IsFine}
use Rattle.mbdc_audit.specs.View.{number_of}
use Rattle.mbdc_audit.proofs.Said.{same_true, text_by}
use Rattle.mbdc_audit.proofs.teller.Teller.judge_decimals.Goals as goal

pub returns-then-is_word-clause-fine : goal.returns-then-is_word-clause-fine
returns-then-is_word-clause-fine g c =
    let text : (number_of c.args.number.now).text ≡ codes "-" =
    text_by c.args.number.now c.args.number.now.said (record { ref_ptr = (0, 0); now = [] }) refl ∙ same_true _ _ (sym c.is_word.ensures ∙ c.if-is_word.true) in
    let fine : IsFine (number_of c.args.number.now) c.args.decimals c.args.exact =
    subst (λ (x : Option Exact). IsFine (number_of c.args.number.now) c.args.decimals x) (sym c.in-Some.is) (inl text) in
    (λ clean. (clean, fine), λ both. both.0)
