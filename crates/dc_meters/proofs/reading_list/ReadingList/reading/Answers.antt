use Rattle.std.proofs.Common.{arith, sym, ◌∙◌}
use Rattle.std.proofs.lemmas.Bool.Decides.{nat_tests}
use Rattle.std.proofs.lemmas.List.{nil_from_length}
use Rattle.std.specs.VecDeque.Iter.{deque_iter_rest}
use Rattle.dc_meters.proofs.FromSerial.{there, not_there, nothing_from}
use Rattle.dc_meters.proofs.reading_list.ReadingList.reading.Goals as goal

pub returns-in_err-reading : goal.returns-in_err-reading
returns-in_err-reading g c =
    let none = nothing_from c.args.serial c.args.self.now.items (sym c.from.ensures.readings ∙ nil_from_length (deque_iter_rest c.from.result) c.in_err-reading.ensures.steps.0) in
    rw c.from_residual.ensures (sym none)

pub returns-then-serial : goal.returns-then-serial
returns-then-serial g c =
    let first = c.in_ok-reading.reading.now in
    sym (there c.args.serial c.args.self.now.items first (deque_iter_rest c.next.new.self) (sym c.from.ensures.readings ∙ c.in_ok-reading.ensures.steps) (grind (arith, nat_tests)))

pub returns-else-serial : goal.returns-else-serial
returns-else-serial g c =
    let first = c.in_ok-reading.reading.now in
    sym (not_there c.args.serial c.args.self.now.items first (deque_iter_rest c.next.new.self) c.from.ensures.ascend (sym c.from.ensures.readings ∙ c.in_ok-reading.ensures.steps) (grind (arith, nat_tests)))
