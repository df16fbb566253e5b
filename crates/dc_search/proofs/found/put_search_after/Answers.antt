use Rattle.std.proofs.Common.{List, ℕ, ◌+◌, ◌++◌, ◌∙◌, ap, subst}
use Rattle.std.specs.Prelude.{flat_map}
use Rattle.dc_address.specs.declared.identity.Identity.{Identity}
use Rattle.dc_search.specs.State.{step_of}
use Rattle.mbdc_io.specs.Written.{Wrote}
use Rattle.dc_search.specs.Found.{budget_line, found_line, selections_line, shared_line}
use Rattle.dc_search.proofs.Founds.{wrote_both}
use Rattle.dc_search.proofs.found.put_search_after.Goals as goal

pub returns : goal.returns
returns g c =
    let s = c.args.search.now in
    let behind = flat_map shared_line s.shared ++ (budget_line (step_of s) ++ selections_line (c.args.before + c.selections.result)) in
    let same = ap (λ (meters : List Identity). flat_map found_line meters ++ behind) c.found.ensures
    ∙ ap (λ (count : ℕ). flat_map found_line s.found ++ (flat_map shared_line s.shared ++ (budget_line (step_of s) ++ selections_line (c.args.before + count)))) c.selections.ensures in
    subst (λ (text : List ℕ). Wrote g.W.Sink c.put_rest.result c.args.out.now c.put_rest.new.out text) same
    (wrote_both g.W.Sink c.args.out.now c.put_found.new.out c.put_rest.new.out (flat_map found_line c.found.result.now) behind c.put_rest.result c.in_ok-put_found.ensures.0 c.in_ok-put_found.ensures.1 c.put_rest.ensures)
