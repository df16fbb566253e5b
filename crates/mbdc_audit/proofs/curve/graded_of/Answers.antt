use Rattle.std.proofs.Common.{arith, ◌≡◌, ◌∙◌, Bool, None, ap, false, map, sym, true}
use Rattle.std.specs.Prelude.{if◌then◌else◌, nat_lt}
use Rattle.std.proofs.lemmas.Bool.Decides.{nat_tests}
use Rattle.mbdc_audit.specs.Amount.{amount}
use Rattle.mbdc_audit.specs.Grade.{has_number, rank}
use Rattle.mbdc_audit.specs.View.{known_in, run_of}
use Rattle.mbdc_audit.proofs.Again.{marked_of}
use Rattle.mbdc_audit.proofs.Marks.{Known, has_amount}
use Rattle.mbdc_audit.proofs.curve.graded_of.Goals as goal

pub returns-then-told-lt-UNCLEAR : goal.returns-then-told-lt-UNCLEAR
returns-then-told-lt-UNCLEAR g c = λ o p.
    let v = c.in_ok-curve.curve in
    let k : Known (map run_of v.runs.now) v.values.items v.entries.items =
    record { found = v.found; counted = v.counted; same = v.same } in
    let low = c.if-told-lt-UNCLEAR.true in
    let is = c.told.ensures.rank in
    let has : nat_lt (rank c.grade-grade.result) 4 ≡ true = grind (arith, nat_tests) in
    marked_of (map run_of c.args.runs.now) (map run_of v.runs.now) c.args.is_told c.args.values.now (known_in v.values.items)
    v.entries.items c.args.from c.args.to _ (ap (map run_of) c.in_ok-curve.ensures.runs)
    c.in_ok-curve.ensures.values c.in_ok-curve.ensures.entries (λ i l. c.grade-grade.ensures (c.amount-amount.ensures i l))
    (λ i l. let e = c.amount-amount.ensures i l in sym (ap (λ (b : Bool). if b then c.amount-amount.result else None) has)
    ∙ has_amount (map run_of v.runs.now) v.values.items v.entries.items c.args.from c.args.to
    c.amount-amount.result k e c.grade-grade.result (c.grade-grade.ensures e)) o p

pub returns : goal.returns
returns g c = λ o p.
    let v = c.in_ok-curve.curve in
    let high = c.if-told-lt-UNCLEAR.false in
    let is = c.told.ensures.rank in
    let has : nat_lt (rank c.grade-grade.result) 4 ≡ false = grind (arith, nat_tests) in
    marked_of (map run_of c.args.runs.now) (map run_of v.runs.now) c.args.is_told c.args.values.now (known_in v.values.items)
    v.entries.items c.args.from c.args.to _ (ap (map run_of) c.in_ok-curve.ensures.runs)
    c.in_ok-curve.ensures.values c.in_ok-curve.ensures.entries (λ i l. c.grade-grade.ensures (c.amount-amount.ensures i l))
    (λ i l. sym (ap (λ (b : Bool). if b then amount (map run_of v.runs.now) (known_in v.values.items) c.args.from c.args.to else None)
    (sym (ap has_number (c.grade-grade.ensures (c.amount-amount.ensures i l))) ∙ has))) o p
