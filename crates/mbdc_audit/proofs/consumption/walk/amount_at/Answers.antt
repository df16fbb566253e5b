use Rattle.std.proofs.Common.{ℕ, ◌+◌, ◌<◌, Some, sym, ap, ◌∙◌, arith}
use Rattle.mbdc_audit.specs.declared.consumption.entry.Entry.{Entry}
use Rattle.mbdc_audit.proofs.Consumed.Walks.{curve-at_start, curve-between, curve-at_last, curve-past_last}
use Rattle.mbdc_audit.proofs.consumption.walk.amount_at.Goals as goal

abbrev nothing : Entry
nothing = record { moment = 0; meter = 0; value = 0; most = 0; size = 0 }

pub returns-then-reached-eq0 : goal.returns-then-reached-eq0
returns-then-reached-eq0 c =
    let r = c.requires.reached in
    sym (curve-at_start c.args.moment c.args.entries.now c.args.reached.count c.requires.order r.within r.before r.after c.if-reached-eq0.true)

pub share_to-share-requires-clause-from : goal.share_to-share-requires-clause-from
share_to-share-requires-clause-from c =
    let some : 0 < c.args.reached.count = omega (arith, c.if-reached-eq0.false) in
    c.requires.reached.before _ _ (omega arith)

pub share_to-share-requires-clause-before : goal.share_to-share-requires-clause-before
share_to-share-requires-clause-before c = c.requires.reached.after _ c.if-reached-entries.true

pub returns-then-reached-entries : goal.returns-then-reached-entries
returns-then-reached-entries c =
    let r = c.requires.reached in
    let some : 0 < c.args.reached.count = omega (arith, c.if-reached-eq0.false) in
    let shares = c.from.ensures ∙ c.share_to-share.ensures in
    let is = curve-between c.args.moment c.args.entries.now c.args.reached.count c.requires.order r.within r.before r.after nothing nothing some c.if-reached-entries.true in
    let sums = r.sum_is in
    (λ i. Some (sums i + shares i)) ∙ sym is

pub returns-then-last-moment : goal.returns-then-last-moment
returns-then-last-moment c =
    let r = c.requires.reached in
    let some : 0 < c.args.reached.count = omega (arith, c.if-reached-eq0.false) in
    ap (λ (n : ℕ). Some n) r.sum_is
    ∙ sym (curve-at_last c.args.moment c.args.entries.now c.args.reached.count c.requires.order r.within r.before r.after _ some c.if-reached-entries.false c.if-last-moment.true)

pub returns-else-last-moment : goal.returns-else-last-moment
returns-else-last-moment c =
    let r = c.requires.reached in
    let some : 0 < c.args.reached.count = omega (arith, c.if-reached-eq0.false) in
    sym (curve-past_last c.args.moment c.args.entries.now c.args.reached.count c.requires.order r.within r.before r.after _ some c.if-reached-entries.false c.if-last-moment.false)
