use Rattle.std.proofs.Common.{rules, ◌≡◌, List, [], ◌∷◌, ◌++◌, ap, sym, subst, ◌∙◌, append_assoc, arith}
use Rattle.std.specs.List.{flat_map}
use Rattle.std.specs.VecDeque.Iter.{deque_iter_rest}
use Rattle.std.proofs.lemmas.Grind.{common_steps}
use Rattle.mbdc_change.specs.State.{ReadingRow}
use Rattle.mbdc_change.specs.Encoding.{reading_bytes}
use Rattle.mbdc_io.specs.Written.{IsStopped}
use Rattle.mbdc_io.proofs.Writes.{written_none, written_both, stopped_first, stopped_second, on_any_err}
use Rattle.dc_meters.proofs.house.encode.put_each_reading.Goals as goal

pub loop-reading-init : goal.loop-reading-init
loop-reading-init g c =
    let same : deque_iter_rest c.into_iter-reading-iterator.result ≡ c.args.readings.now.items = search rules in
    ([], written_none c.args.sink.now, ap (λ (rs : List ReadingRow). flat_map reading_bytes rs) same)

pub loop-reading-preserved : goal.loop-reading-preserved
loop-reading-preserved g c =
    let r : ReadingRow = c.in-Some.reading.now in
    let before = c.loop-reading.invariant in
    let left : deque_iter_rest c.loop-reading.reading-iterator ≡ r ∷ deque_iter_rest c.next.new.self = search rules in
    let all : (before.0 ++ reading_bytes r) ++ flat_map reading_bytes (deque_iter_rest c.next.new.self) ≡ flat_map reading_bytes c.args.readings.now.items =
    append_assoc before.0 (reading_bytes r) (flat_map reading_bytes (deque_iter_rest c.next.new.self)) ∙ ap (λ (rs : List ReadingRow). before.0 ++ flat_map reading_bytes rs) (sym left) ∙ before.2 in
    (before.0 ++ reading_bytes r, written_both before.1 c.in_ok-put_reading.ensures.ok, all)

pub returns-in_err-put_reading-clause-err : goal.returns-in_err-put_reading-clause-err
returns-in_err-put_reading-clause-err g c =
    let r : ReadingRow = c.in-Some.reading.now in
    let before = c.loop-reading.invariant in
    let left : deque_iter_rest c.loop-reading.reading-iterator ≡ r ∷ deque_iter_rest c.next.new.self = search rules in
    let all : (before.0 ++ reading_bytes r) ++ flat_map reading_bytes (deque_iter_rest c.next.new.self) ≡ flat_map reading_bytes c.args.readings.now.items =
    append_assoc before.0 (reading_bytes r) (flat_map reading_bytes (deque_iter_rest c.next.new.self)) ∙ ap (λ (rs : List ReadingRow). before.0 ++ flat_map reading_bytes rs) (sym left) ∙ before.2 in
    on_any_err _ (subst (IsStopped g.S.Sink c.args.sink.now c.put_reading.new.sink) all (stopped_first (flat_map reading_bytes (deque_iter_rest c.next.new.self)) (stopped_second before.1 c.in_err-put_reading.ensures.err)))

pub returns-clause-ok : goal.returns-clause-ok
returns-clause-ok g c = grind (arith, common_steps)
