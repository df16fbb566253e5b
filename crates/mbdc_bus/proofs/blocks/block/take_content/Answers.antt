use Rattle.std.proofs.Common.{◌≡◌, ◌-◌, ◌≤◌, ℕ, List, length, take, arith, sym, ◌∙◌, refl, subst, rules}
use Rattle.std.proofs.lemmas.List.{take-append-le}
use Rattle.std.proofs.lemmas.Grind.{common_steps}
use Rattle.mbdc_io.specs.Stream.{Takes}
use Rattle.mbdc_bus.proofs.Taking.{so_far_none, so_far_more}
use Rattle.mbdc_bus.proofs.blocks.block.take_content.Goals as goal

pub takes-init : goal.takes-init
takes-init g c = record {
  room = omega (arith, c.from-left.ensures, c.ranges.count.fits);
  well = refl;
  so = so_far_none (g.R.Source.left c.args.reader.now) c.args.count c.from-left.result c.args.answer.now c.from-left.ensures c.requires;
}

pub takes-preserved : goal.takes-preserved
takes-preserved g c =
    let room = c.takes.invariant.room in
    let came : ℕ = c.in_ok-came.came in
    let given : List ℕ = c.split_at.result.0.now in
    let front = c.split_at_mut-wanted.ensures.front_len in
    let count : came ≤ length c.split_at_mut-wanted.result.0.now = c.in_ok-came.ensures.count in
    let same : length c.take.new.room ≡ length c.split_at_mut-wanted.result.0.now = c.take.auto.room in
    let is : take came c.take.new.room ≡ given =
    sym (c.split_at.ensures.front ∙ take-append-le came c.take.new.room c.split_at_mut-wanted.result.1.now (omega (arith, count, same))) in
    record {
      room = omega (arith, room);
      well = c.in_ok-came.ensures.well ∙ c.takes.invariant.well;
      so = so_far_more (g.R.Source.left c.args.reader.now) (g.R.Source.left c.takes.reader) (g.R.Source.left c.take.new.self) c.args.count c.takes.left (c.takes.left - came)
          c.args.answer.now c.takes.answer c.append.new.self given c.takes.invariant.so
          (subst (λ (xs : List ℕ). Takes (g.R.Source.left c.takes.reader) (g.R.Source.left c.take.new.self) xs) is c.in_ok-came.ensures.bytes)
          (omega (arith, c.split_at.ensures.front_len, count, front)) c.append.ensures;
    }

pub returns-in_err-came-clause-well : goal.returns-in_err-came-clause-well
returns-in_err-came-clause-well g c = grind (arith, common_steps)

pub returns-in_err-came-clause-cut : goal.returns-in_err-came-clause-cut
returns-in_err-came-clause-cut g c = grind (arith, common_steps)

pub returns-in_err-came-clause-stopped : goal.returns-in_err-came-clause-stopped
returns-in_err-came-clause-stopped g c = grind (arith, common_steps)

pub returns-then-came-eq0-clause-cut : goal.returns-then-came-eq0-clause-cut
returns-then-came-eq0-clause-cut g c = search rules

pub split_at-requires : goal.split_at-requires
split_at-requires g c = grind (arith, common_steps)

pub overflow_sub-left : goal.overflow_sub-left
overflow_sub-left g c = grind (arith, common_steps)
