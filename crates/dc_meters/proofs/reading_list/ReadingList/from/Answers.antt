use Rattle.std.proofs.Common.{rules, arith, ◌≡◌, ap, sym, ◌∙◌, drop, take_all, length-drop}
use Rattle.std.specs.Prelude.{nat_lt}
use Rattle.std.specs.List.Sorted.{IsNonDecreasingBy}
use Rattle.std.specs.VecDeque.Iter.{deque_iter_rest}
use Rattle.std.proofs.lemmas.List.Sorted.{IsPartitionedBy-ltb, IsPartitionPoint-from_clause}
use Rattle.mbdc_change.specs.State.{ReadingRow}
use Rattle.dc_meters.specs.Orders.{ReadingRows, readings_from}
use Rattle.dc_meters.proofs.FromSerial.{from_point, serials_rise}
use Rattle.dc_meters.proofs.reading_list.ReadingList.from.Goals as goal

pub returns-clause-readings : goal.returns-clause-readings
returns-clause-readings g c =
    let readings = c.self.inside.items.items in
    let serial = c.args.serial in
    let rise : IsNonDecreasingBy (λ (r : ReadingRow). r.serial) readings = serials_rise readings c.self.invariant.ascend in
    let point =
    IsPartitionPoint-from_clause (λ (r : ReadingRow). nat_lt r.serial serial) readings c.partition_point-first.result c.partition_point-first.ensures.partitioned
    (IsPartitionedBy-ltb (λ (r : ReadingRow). r.serial) readings serial rise) (λ a r f called. search rules) in
    let rest : deque_iter_rest c.range.result ≡ drop c.partition_point-first.result readings = c.range.ensures.rest ∙ take_all _ _ (omega (arith, length-drop c.partition_point-first.result readings)) in
    rest ∙ sym (from_point readings serial c.partition_point-first.result point) ∙ ap (λ (r : ReadingRows). readings_from serial r.items) c.self.view_is
