use Rattle.std.proofs.Common.{◌≡◌, inr, ◌+◌, ◌<◌, Result, Ok, Err, arith, refl, ◌∙◌}
use Rattle.std.specs.Result.{OnErr}
use Rattle.std.proofs.lemmas.Grind.{common_steps}
use Rattle.mbdc_bus.specs.Blocks.{most_blocks}
use Rattle.mbdc_bus.proofs.Reading.{front_cut, front_none, front_past, reading_fits, reading_more}
use Rattle.mbdc_bus.proofs.Missing.{lost, overran}
use Rattle.mbdc_bus.proofs.blocks.answer.take_answer.Goals as goal

on_err : {T E P : Type 0} (r : Result T E) → P → OnErr r P
on_err (Ok x) p = tt
on_err (Err e) p = p

pub returns-in_err-count-clause-lost : goal.returns-in_err-count-clause-lost
returns-in_err-count-clause-lost g c =
    let old = g.R.Source.left c.args.reader.now in
    let a = g.R.Source.left c.loop-number.reader in
    let new = g.R.Source.left c.take_length.new.reader in
    let so = c.loop-number.invariant.so in
    let early : c.loop-number.number < most_blocks = c.loop-number-test.true in
    let front = front_none old a new c.loop-number.number c.loop-number.answer so (omega (arith, early)) c.in_err-count.ensures.left in
    on_err c.from_residual.result
    (lost (g.R.Source.take_failures c.args.reader.now) (g.R.Source.take_failures c.loop-number.reader) (g.R.Source.take_failures c.take_length.new.reader) old new
    c.loop-number.invariant.well c.in_err-count.ensures.stopped front)

pub take_content-requires : goal.take_content-requires
take_content-requires g c =
    reading_fits (g.R.Source.left c.args.reader.now) (g.R.Source.left c.loop-number.reader) c.loop-number.number c.loop-number.answer c.loop-number.invariant.so

pub returns-in_err-take_content-clause-lost : goal.returns-in_err-take_content-clause-lost
returns-in_err-take_content-clause-lost g c =
    let old = g.R.Source.left c.args.reader.now in
    let a = g.R.Source.left c.loop-number.reader in
    let b = g.R.Source.left c.take_length.new.reader in
    let new = g.R.Source.left c.take_content.new.reader in
    let front = front_cut old a b new c.loop-number.number c.in_ok-count.count c.loop-number.answer c.loop-number.invariant.so c.loop-number-test.true c.in_ok-count.ensures.bytes c.in_err-take_content.ensures.cut in
    on_err c.from_residual-in_err-take_content.result
    (lost (g.R.Source.take_failures c.args.reader.now) (g.R.Source.take_failures c.take_length.new.reader) (g.R.Source.take_failures c.take_content.new.reader) old new
    (c.in_ok-count.ensures.well ∙ c.loop-number.invariant.well) c.in_err-take_content.ensures.stopped front)

pub returns-in_err-take_content-clause-read : goal.returns-in_err-take_content-clause-read
returns-in_err-take_content-clause-read g c =
    on_err c.from_residual-in_err-take_content.result
    (front_cut (g.R.Source.left c.args.reader.now) (g.R.Source.left c.loop-number.reader) (g.R.Source.left c.take_length.new.reader) (g.R.Source.left c.take_content.new.reader)
    c.loop-number.number c.in_ok-count.count c.loop-number.answer c.loop-number.invariant.so c.loop-number-test.true c.in_ok-count.ensures.bytes c.in_err-take_content.ensures.cut)

pub loop-number-preserved : goal.loop-number-preserved
loop-number-preserved g c = record {
  well = c.in_ok-take_content.ensures.well ∙ c.in_ok-count.ensures.well ∙ c.loop-number.invariant.well;
  so = reading_more (g.R.Source.left c.args.reader.now) (g.R.Source.left c.loop-number.reader) (g.R.Source.left c.take_length.new.reader) (g.R.Source.left c.take_content.new.reader)
      c.loop-number.number c.in_ok-count.count (c.loop-number.number + 1) c.loop-number.answer c.take_content.new.answer c.loop-number.invariant.so c.in_ok-count.ensures.bytes
      (omega (arith, c.if-count-eq0.false)) c.take_content.ensures.byte c.in_ok-take_content.ensures.content refl;
}

pub returns-in_err-count-2-clause-lost : goal.returns-in_err-count-2-clause-lost
returns-in_err-count-2-clause-lost g c =
    let old = g.R.Source.left c.args.reader.now in
    let a = g.R.Source.left c.loop-number.reader in
    let new = g.R.Source.left c.take_length-2.new.reader in
    let front = front_none old a new c.loop-number.number c.loop-number.answer c.loop-number.invariant.so c.loop-number.auto.number-end c.in_err-count-2.ensures.left in
    on_err c.from_residual-in_err-count-2.result
    (lost (g.R.Source.take_failures c.args.reader.now) (g.R.Source.take_failures c.loop-number.reader) (g.R.Source.take_failures c.take_length-2.new.reader) old new
    c.loop-number.invariant.well c.in_err-count-2.ensures.stopped front)

pub returns-else-count-eq0-2-clause-lost : goal.returns-else-count-eq0-2-clause-lost
returns-else-count-eq0-2-clause-lost g c =
    let old = g.R.Source.left c.args.reader.now in
    let a = g.R.Source.left c.loop-number.reader in
    let new = g.R.Source.left c.take_length-2.new.reader in
    let all : c.loop-number.number ≡ most_blocks = omega (arith, c.loop-number.auto.number-end, c.loop-number-test.false) in
    let some : 0 < c.in_ok-count-2.count = omega (arith, c.if-count-eq0-2.false) in
    inr (overran old a new c.loop-number.number c.in_ok-count-2.count c.loop-number.answer c.loop-number.invariant.so all c.in_ok-count-2.ensures.bytes some)

pub returns-else-count-eq0-2-clause-read : goal.returns-else-count-eq0-2-clause-read
returns-else-count-eq0-2-clause-read g c =
    front_past (g.R.Source.left c.args.reader.now) (g.R.Source.left c.loop-number.reader) (g.R.Source.left c.take_length-2.new.reader) c.loop-number.number c.in_ok-count-2.count
    c.loop-number.answer c.loop-number.invariant.so (omega (arith, c.loop-number.auto.number-end, c.loop-number-test.false)) c.in_ok-count-2.ensures.bytes (omega (arith, c.if-count-eq0-2.false))

pub returns-then-count-eq0-clause-answer : goal.returns-then-count-eq0-clause-answer
returns-then-count-eq0-clause-answer g c = grind (arith, common_steps)

pub returns-then-count-eq0-2-clause-answer : goal.returns-then-count-eq0-2-clause-answer
returns-then-count-eq0-2-clause-answer g c = grind (arith, common_steps)
