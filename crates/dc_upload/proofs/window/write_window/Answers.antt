use Rattle.std.proofs.Common.{◌≡◌, List, take, subst, arith}
use Rattle.std.proofs.lemmas.Grind.{common_steps}
use Rattle.std.specs.Prelude.{flat_map}
use Rattle.std.specs.VecDeque.Iter.{deque_iter_rest}
use Rattle.mbdc_io.specs.Stream.{PutsFront}
use Rattle.mbdc_io.proofs.Pieces.{puts_front-first}
use Rattle.mbdc_change.specs.State.{ReadingRow}
use Rattle.dc_upload.specs.Reply.{window_text}
use Rattle.dc_upload.specs.Window.{reading_lines, window}
use Rattle.dc_upload.proofs.window.write_window.Goals as goal

pub returns-in_err-write_readings : goal.returns-in_err-write_readings
unfolding window_text
returns-in_err-write_readings g c =
    let shown : take c.min-shown.result (deque_iter_rest c.from-readings.result) ≡ window c.args.from c.args.count c.args.house.now.state = grind (arith, common_steps) in
    let front : PutsFront (g.W.Sink.written c.args.out.now) (g.W.Sink.written c.write_readings.new.out) (window_text c.args.from c.args.count c.args.house.now.state) =
    puts_front-first _ (subst (λ (rows : List ReadingRow). PutsFront (g.W.Sink.written c.args.out.now) (g.W.Sink.written c.write_readings.new.out) (flat_map reading_lines rows)) shown c.in_err-write_readings.ensures.2) in
    grind arith

pub returns : goal.returns
unfolding window_text
returns g c = grind (arith, common_steps)
