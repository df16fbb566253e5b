use Rattle.std.proofs.Common.{◌≤◌, ◌*◌, ◌-◌, ℕ, List, ap, arith, refl}
use Rattle.std.specs.Time.{instant_nanos}
use Rattle.mbdc_raw.specs.PollWire.{begins, ends, gap_micros, goes_on}
use Rattle.mbdc_raw.proofs.poll_wire.PollWire.hold.Goals as goal

pub returns-then-is_new-clause-step : goal.returns-then-is_new-clause-step
returns-then-is_new-clause-step g c = begins c.if-is_new.true refl

pub returns-then-between-ge-GAP_MICROS-clause-step : goal.returns-then-between-ge-GAP_MICROS-clause-step
returns-then-between-ge-GAP_MICROS-clause-step g c =
    let old = c.args.self.now in
    let long : gap_micros * 1_000 ≤ instant_nanos old.at - instant_nanos old.held = omega (arith, c.between.ensures, c.if-between-ge-GAP_MICROS.true) in
    ends c.if-is_new.false long (ap (λ (ahead : List ℕ). record old { ahead = ahead }) c.new-self.ensures)

pub returns-else-between-ge-GAP_MICROS-clause-step : goal.returns-else-between-ge-GAP_MICROS-clause-step
returns-else-between-ge-GAP_MICROS-clause-step g c = goes_on c.if-is_new.false (λ passed. omega (arith, c.between.ensures, c.if-between-ge-GAP_MICROS.false, passed)) refl
