use Rattle.std.proofs.Common.{◌≡◌, Bool, inr, ap, refl, sym, ◌∙◌}
use Rattle.std.specs.Bool.{then_some}
use Rattle.mbdc_installer.specs.Command.{is_search}
use Rattle.mbdc_installer.specs.Hearing.{new_wildcard}
use Rattle.mbdc_installer.proofs.GivenUp.{given_up, no_search, stopped, went_on}
use Rattle.mbdc_installer.proofs.bench.command.run_over.Goals as goal
use Rattle.mbdc_installer.proofs.bench.command.run_over.Goals.{in-Search, in_default-matches}

pub returns-then-not-is_given_up : goal.returns-then-not-is_given_up
returns-then-not-is_given_up g c =
    let is : c.match-matches.matches ≡ is_search c.args.work = elim c.match-matches.branch [
      | in-Search w ↦ w.matches-is ∙ sym (ap is_search w.in-Search.is)
      | in_default-matches w ↦ w.matches-is ∙ sym (no_search c.args.work w.in_default-matches.not-Search)
    ] in
    inr (went_on g.B.Bus c.args.work c.args.bus _ c.work_over-ending.new.bus c.work_over-ending.result c.work_over-ending.ensures.done
    (record { greets = c.greet.ensures; left = c.then_some.ensures ∙ ap (λ (b : Bool). then_some b 16) is; wildcard = c.new-2.ensures ∙ ap new_wildcard is }) (sym c.is_given_up.ensures ∙ c.if-not-is_given_up.true))

pub returns-in-Gateway : goal.returns-in-Gateway
returns-in-Gateway g c =
    let is : c.match-matches.matches ≡ is_search c.args.work = elim c.match-matches.branch [
      | in-Search w ↦ w.matches-is ∙ sym (ap is_search w.in-Search.is)
      | in_default-matches w ↦ w.matches-is ∙ sym (no_search c.args.work w.in_default-matches.not-Search)
    ] in
    inr (given_up g.B.Bus c.args.work c.args.bus _ c.work_over-ending.new.bus c.work_over-ending.result c.work_over-ending.ensures.done
    (record { greets = c.greet.ensures; left = c.then_some.ensures ∙ ap (λ (b : Bool). then_some b 16) is; wildcard = c.new-2.ensures ∙ ap new_wildcard is }) (sym c.is_given_up.ensures ∙ c.if-not-is_given_up.false) c.in-Gateway.is)

pub returns : goal.returns
returns g c =
    let is : c.match-matches.matches ≡ is_search c.args.work = elim c.match-matches.branch [
      | in-Search w ↦ w.matches-is ∙ sym (ap is_search w.in-Search.is)
      | in_default-matches w ↦ w.matches-is ∙ sym (no_search c.args.work w.in_default-matches.not-Search)
    ] in
    inr (stopped g.B.Bus c.args.work c.args.bus _ c.work_over-ending.new.bus c.work_over-ending.result c.work_over-ending.ensures.done
    (record { greets = c.greet.ensures; left = c.then_some.ensures ∙ ap (λ (b : Bool). then_some b 16) is; wildcard = c.new-2.ensures ∙ ap new_wildcard is }) c.in_default-ending.not-Gateway)
