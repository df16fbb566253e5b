use Rattle.std.proofs.Common.{◌≤◌, ap, ◌∙◌, List, map, subst, IsTrue}
use Rattle.std.specs.Prelude.{All}
use Rattle.mbdc_audit.specs.Consumption.Order.{IsInOrder}
use Rattle.mbdc_audit.specs.Amount.{entries}
use Rattle.mbdc_audit.specs.Settled.{AreSettled}
use Rattle.mbdc_audit.specs.View.{known_in, number_of, part_of, run_of, seen_value, struck_of}
use Rattle.mbdc_audit.specs.Walk.{AreGraded, is_clean}
use Rattle.mbdc_audit.specs.File.{bare_value}
use Rattle.mbdc_audit.specs.declared.house.Part as part_type
use Rattle.mbdc_audit.specs.declared.house.Value as value_type
use Rattle.mbdc_audit.proofs.Checks.{same}
use Rattle.mbdc_audit.proofs.Evident.{reads}
use Rattle.mbdc_audit.proofs.OneReading.{only}
use Rattle.mbdc_audit.proofs.Windows.{at_slices, bare_same, bare_values, told_known}
use Rattle.mbdc_audit.proofs.teller.Teller.read_window.Goals as goal

pub returns-clause-found : goal.returns-clause-found
returns-clause-found g c =
    let rs = map run_of c.args.runs.now in
    let vs = c.in_ok-values.values.items in
    let w = c.args.window.now in
    same (at_slices rs (IsTrue (is_clean c.tell_values.new.self.counts)) (IsTrue (is_clean c.args.self.now.counts)) c.as_slice-3.result.now vs
    c.as_slice-4.result.now w.struck.items c.as_slice-3.ensures.value c.as_slice-4.ensures.value c.in_ok-tell_values.ensures)
    (reads rs c.args.counts c.as_slice.result.now c.in_ok-judged.judged.items vs c.in_ok-judged.ensures
    (subst (λ (l : List value_type.Value). AreSettled l vs) c.as_slice-2.ensures.value c.in_ok-values.ensures)
    w.span (map struck_of w.struck.items) (map part_of c.in_ok-parts.parts.items) (map number_of w.numbers.items))

pub returns-clause-kept : goal.returns-clause-kept
returns-clause-kept g c =
    let rs = map run_of c.args.runs.now in
    let vs = c.in_ok-values.values.items in
    let w = c.args.window.now in
    bare_same w.span _ _ (map struck_of w.struck.items) _ _ (map number_of w.numbers.items)
    (bare_values rs c.args.counts c.as_slice.result.now c.in_ok-judged.judged.items vs c.in_ok-judged.ensures
    (subst (λ (l : List value_type.Value). AreSettled l vs) c.as_slice-2.ensures.value c.in_ok-values.ensures)
    ∙ ap (λ (l : List value_type.Value). map bare_value (map seen_value l)) c.as_slice.ensures.value)
    (c.in_ok-parts.ensures.same ∙ ap (λ (l : List part_type.Part). map part_of l) c.as_slice-6.ensures.value)

pub returns-clause-values : goal.returns-clause-values
returns-clause-values g c = λ clean.
    let rs = map run_of c.args.runs.now in
    let vs = c.in_ok-values.values.items in
    let w = c.args.window.now in
    told_known rs c.args.counts c.as_slice.result.now c.in_ok-judged.judged.items vs c.in_ok-judged.ensures
    (subst (λ (l : List value_type.Value). AreSettled l vs) c.as_slice-2.ensures.value c.in_ok-values.ensures) (map struck_of w.struck.items)
    ((at_slices rs (IsTrue (is_clean c.tell_values.new.self.counts)) (IsTrue (is_clean c.args.self.now.counts)) c.as_slice-3.result.now vs
    c.as_slice-4.result.now w.struck.items c.as_slice-3.ensures.value c.as_slice-4.ensures.value c.in_ok-tell_values.ensures).0 clean).1

pub returns-clause-parts : goal.returns-clause-parts
returns-clause-parts g c =
    let rs = map run_of c.args.runs.now in
    let ps = c.in_ok-parts.parts.items in
    subst (λ (l : List value_type.Value). IsInOrder (entries rs (known_in l)) → All (λ x. x.from ≤ x.to) ps → AreGraded rs (known_in l) ps)
    c.as_slice-5.ensures.value c.in_ok-parts.ensures.graded

pub returns-clause-only : goal.returns-clause-only
returns-clause-only g c =
    only (map run_of c.args.runs.now) c.args.counts c.as_slice.result.now c.in_ok-judged.judged.items
    (record c.args.window.now { values = c.in_ok-values.values; parts = c.in_ok-parts.parts }) c.in_ok-judged.ensures
    (subst (λ (l : List value_type.Value). AreSettled l c.in_ok-values.values.items) c.as_slice-2.ensures.value c.in_ok-values.ensures)
