use Rattle.std.proofs.Common.{◌≡◌, ℕ, ◌-◌, ◌+◌, List, ◌++◌, Option, take, ap, sym, ◌∙◌, arith, suc}
use Rattle.std.specs.Prelude.{flat_map}
use Rattle.std.specs.Io.KnownBytes.{append_known}
use Rattle.std.specs.VecDeque.Iter.{deque_iter_rest}
use Rattle.std.proofs.lemmas.Grind.{common_steps}
use Rattle.mbdc_io.specs.Stream.{PutsFront}
use Rattle.mbdc_io.proofs.Pieces.{append_known-more, written}
use Rattle.mbdc_change.specs.State.{ReadingRow}
use Rattle.dc_upload.specs.Window.{reading_lines}
use Rattle.dc_upload.proofs.Prefixes.{front_of_all}
use Rattle.dc_upload.proofs.window.write_readings.Goals as goal

pub returns-in_err-write_reading : goal.returns-in_err-write_reading
returns-in_err-write_reading g c =
    let reading : ReadingRow = c.in-Some.reading.now in
    let rest : List ReadingRow = deque_iter_rest c.next.new.self in
    let left : ℕ = c.args.count - (c.loop.counter + 1) in
    let more : c.args.count - c.loop.counter ≡ suc left = omega arith in
    let shown : flat_map reading_lines (take (c.args.count - c.loop.counter) (deque_iter_rest c.loop.readings)) ≡ reading_lines reading ++ flat_map reading_lines (take left rest) =
    ap (λ (n : ℕ). flat_map reading_lines (take n (deque_iter_rest c.loop.readings))) more ∙ ap (λ (rs : List ReadingRow). flat_map reading_lines (take (suc left) rs)) c.in-Some.ensures.steps in
    let front : PutsFront (g.W.Sink.written c.args.out.now) (g.W.Sink.written c.write_reading.new.out) (flat_map reading_lines (take c.args.count (deque_iter_rest c.args.readings))) =
    front_of_all _ _ _ (reading_lines reading) (flat_map reading_lines (take left rest)) _ _ shown c.loop.invariant.text c.in_err-write_reading.ensures.2 in
    grind arith

pub loop-preserved : goal.loop-preserved
loop-preserved g c =
    let before : Option (List ℕ) = g.W.Sink.written c.loop.out in
    let reading : ReadingRow = c.in-Some.reading.now in
    let rest : List ReadingRow = deque_iter_rest c.next.new.self in
    let left : ℕ = c.args.count - (c.loop.counter + 1) in
    let more : c.args.count - c.loop.counter ≡ suc left = omega arith in
    let shown : flat_map reading_lines (take (c.args.count - c.loop.counter) (deque_iter_rest c.loop.readings)) ≡ reading_lines reading ++ flat_map reading_lines (take left rest) =
    ap (λ (n : ℕ). flat_map reading_lines (take n (deque_iter_rest c.loop.readings))) more ∙ ap (λ (rs : List ReadingRow). flat_map reading_lines (take (suc left) rs)) c.in-Some.ensures.steps in
    record {
      text = ap (λ (m : Option (List ℕ)). append_known m (flat_map reading_lines (take left rest))) c.in_ok-write_reading.ensures.0
          ∙ append_known-more before (reading_lines reading) (flat_map reading_lines (take left rest)) ∙ ap (append_known before) (sym shown) ∙ c.loop.invariant.text;
      well = c.in_ok-write_reading.ensures.1 ∙ c.loop.invariant.well;
    }

pub returns-after-loop : goal.returns-after-loop
returns-after-loop g c = grind (arith, written)

pub returns-in_default : goal.returns-in_default
returns-in_default g c = grind (arith, common_steps)
