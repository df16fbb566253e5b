use Rattle.std.proofs.Common.{ℕ, List, ◌++◌, ap, ◌∙◌, subst}
use Rattle.std.specs.Prelude.{flat_map}
use Rattle.dc_search.specs.declared.step.Step.{Step}
use Rattle.mbdc_io.specs.Written.{Wrote}
use Rattle.dc_search.specs.Found.{budget_line, selections_line, shared_line}
use Rattle.dc_search.proofs.Founds.{wrote_both}
use Rattle.dc_search.proofs.found.put_rest.Goals as goal

pub returns : goal.returns
returns g c =
    let s = c.args.search.now in
    let shared = flat_map shared_line c.shared.result.now in
    let behind = budget_line c.next.result ++ selections_line c.args.selections in
    let same = ap (λ (numbers : List ℕ). flat_map shared_line numbers ++ behind) c.shared.ensures
    ∙ ap (λ (step : Step). flat_map shared_line s.shared ++ (budget_line step ++ selections_line c.args.selections)) c.next.ensures in
    subst (λ (text : List ℕ). Wrote g.W.Sink c.put_end.result c.args.out.now c.put_end.new.out text) same
    (wrote_both g.W.Sink c.args.out.now c.put_shared.new.out c.put_end.new.out shared behind c.put_end.result c.in_ok-put_shared.ensures.0 c.in_ok-put_shared.ensures.1 c.put_end.ensures)
