use Rattle.std.proofs.Common.{◌≡◌, ℕ, Some, sym, ap, ◌∙◌}
use Rattle.std.specs.Prelude.{Option}
use Rattle.mbdc_reading.specs.declared.content.content.Content as written
use Rattle.mbdc_reading.specs.Content.{Content, Variable, content_of, content_view, variable, variable_view}
use Rattle.mbdc_library.specs.declared.header.PlainHeader.{PlainHeader}
use Rattle.mbdc_library.specs.Header.{first_of}
use Rattle.mbdc_library.specs.Walk.{content_left, items_of, left}
use Rattle.mbdc_library.proofs.Bodies.{all_left, narrow}
use Rattle.mbdc_library.proofs.header.mbdc_header.Goals as goal

is_same : (x y : Content) → Some x ≡ Some y → x ≡ y
is_same x y e = cc

pub returns-in-Some-Variable-clause-first : goal.returns-in-Some-Variable-clause-first
returns-in-Some-Variable-clause-first c = λ content is.
    let v : Variable = variable_view c.in-Some-Variable.variable in
    let seen : content_of c.args.ci c.args.body.now ≡ Some (variable v) =
    sym (c.in-Some-Variable.ensures ∙ ap (λ (k : ℕ). content_of k c.args.body.now) c.min.ensures ∙ narrow c.args.ci c.args.body.now)
    ∙ ap (λ (x : written.Content). Some (content_view x)) c.in-Some-Variable.field-0-is in
    ap (λ (h : PlainHeader). left c.args.ci c.args.body.now h.first) c.variable_header.ensures
    ∙ ap (λ (o : Option Content). content_left o c.args.body.now (first_of v.structure)) seen ∙ all_left c.args.ci c.args.body.now (variable v) seen
    ∙ ap (λ (x : Content). items_of x c.args.body.now) (is_same (variable v) content (sym seen ∙ is))
