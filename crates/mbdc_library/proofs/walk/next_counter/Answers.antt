use Rattle.std.proofs.Common.{◌≡◌, true, arith}
use Rattle.std.specs.Prelude.{slice_index}
use Rattle.std.proofs.lemmas.Bool.Decides.{nat_tests}
use Rattle.mbdc_reading.specs.Counter.{second_code}
use Rattle.mbdc_reading.specs.Fixed.{fixed_view, shows_counters}
use Rattle.mbdc_library.proofs.Counters.{first_next, second_next}
use Rattle.mbdc_library.proofs.walk.next_counter.Goals as goal

pub returns-then-at-lt-SECOND-clause-next : goal.returns-then-at-lt-SECOND-clause-next
returns-then-at-lt-SECOND-clause-next c = λ done.
    let shown : shows_counters (fixed_view c.args.counters.now) ≡ true = grind arith in
    first_next (fixed_view c.args.counters.now) c.args.body.now c.args.at c.plain_record.result c.requires shown c.if-at-lt-SECOND.true (grind arith)

pub returns-clause-next : goal.returns-clause-next
returns-clause-next c = λ done.
    let shown : shows_counters (fixed_view c.args.counters.now) ≡ true = grind arith in
    let code : c.if-two-eq-SAME.code ≡ second_code (slice_index c.args.body.now 6) (slice_index c.args.body.now 7) = grind (arith, nat_tests) in
    second_next (fixed_view c.args.counters.now) c.args.body.now c.args.at c.plain_record-2.result c.requires shown c.if-at-lt-SECOND.false c.if-at-ge-AFTER_SECOND.false (grind arith)
