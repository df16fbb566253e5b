use Rattle.std.proofs.Common.{◌≡◌, List, map, sym, ap, ◌∙◌, subst}
use Rattle.std.specs.Prelude.{All}
use Rattle.mbdc_audit.specs.Amount.{entry_of}
use Rattle.mbdc_audit.specs.Kept.{kept, know, lasting}
use Rattle.mbdc_audit.specs.View.{known_in, run_of, seen_value}
use Rattle.mbdc_audit.specs.declared.house.Value as value_type
use Rattle.mbdc_audit.proofs.Lasting.{Found, kept_again, kept_found, kept_known, kept_seen, map_known}
use Rattle.mbdc_audit.proofs.curve.Curve.of.Goals as goal

pub invariant_of-result-clause-found : goal.invariant_of-result-clause-found
invariant_of-result-clause-found g c =
    let k : c.in_ok-values.values.items ≡ kept c.args.is_told c.args.values.now = c.in_ok-values.ensures in
    subst (λ (l : List value_type.Value). All Found l) (sym k) (kept_found c.args.is_told c.args.values.now)

pub invariant_of-result-clause-counted : goal.invariant_of-result-clause-counted
invariant_of-result-clause-counted g c =
    let k : c.in_ok-values.values.items ≡ kept c.args.is_told c.args.values.now = c.in_ok-values.ensures in
    subst (λ (l : List value_type.Value). lasting l ≡ l) (sym k) (kept_again c.args.is_told c.args.values.now)

pub invariant_of-result-clause-same : goal.invariant_of-result-clause-same
invariant_of-result-clause-same g c =
    c.in_ok-entries.ensures ∙ ap (map (λ v. entry_of (map run_of c.args.runs.now) (know v))) c.deref.ensures.value

pub returns-clause-values : goal.returns-clause-values
returns-clause-values g c =
    let k : c.in_ok-values.values.items ≡ kept c.args.is_told c.args.values.now = c.in_ok-values.ensures in
    ap known_in k ∙ kept_known c.args.is_told c.args.values.now

pub returns-clause-raw : goal.returns-clause-raw
returns-clause-raw g c = λ no.
    let k : c.in_ok-values.values.items ≡ kept c.args.is_told c.args.values.now = c.in_ok-values.ensures in
    ap (map seen_value) (k ∙ ap (λ b. kept b c.args.values.now) no) ∙ kept_seen c.args.values.now

pub returns-clause-entries : goal.returns-clause-entries
returns-clause-entries g c =
    let k : c.in_ok-values.values.items ≡ kept c.args.is_told c.args.values.now = c.in_ok-values.ensures in
    let found : All Found c.in_ok-values.values.items =
    subst (λ (l : List value_type.Value). All Found l) (sym k) (kept_found c.args.is_told c.args.values.now) in
    let same : c.in_ok-entries.entries.items ≡ map (λ v. entry_of (map run_of c.args.runs.now) (know v)) c.in_ok-values.values.items =
    c.in_ok-entries.ensures ∙ ap (map (λ v. entry_of (map run_of c.args.runs.now) (know v))) c.deref.ensures.value in
    same ∙ map_known (entry_of (map run_of c.args.runs.now)) c.in_ok-values.values.items found
