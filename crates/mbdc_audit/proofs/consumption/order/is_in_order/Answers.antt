use Rattle.std.proofs.Common.{refl}
use Rattle.std.proofs.lemmas.Bool.{false≢true}
use Rattle.mbdc_audit.specs.declared.consumption.entry.Entry.{Entry}
use Rattle.mbdc_audit.proofs.Consumed.Ordered.{ordered_start, ordered_more, ordered_not, ordered_all}
use Rattle.mbdc_audit.proofs.consumption.order.is_in_order.Goals as goal

pub loop-entry-init : goal.loop-entry-init
loop-entry-init c = ordered_start (λ (e : Entry). e.moment) c.args.entries.now

pub loop-entry-preserved : goal.loop-entry-preserved
loop-entry-preserved c =
    ordered_more (λ (e : Entry). e.moment) c.args.entries.now c.loop-entry.entry-index c.loop-entry.last c.loop-entry.invariant c.loop-entry-test.true _ c.if-entry-last.false

pub returns-then-entry-last : goal.returns-then-entry-last
returns-then-entry-last c = (
  λ is. absurd (false≢true is),
  λ up. absurd (ordered_not (λ (e : Entry). e.moment) c.args.entries.now c.loop-entry.entry-index c.loop-entry.last c.loop-entry.invariant c.loop-entry-test.true _ c.if-entry-last.true up),
)

pub returns : goal.returns
returns c = (λ is. ordered_all (λ (e : Entry). e.moment) c.args.entries.now c.loop-entry.entry-index c.loop-entry.last c.loop-entry.invariant c.loop-entry-test.false, λ up. refl)
