use Rattle.std.specs.Io.Buffered.{line_writer_contents}
use Rattle.mbdc_commands.proofs.PollLeaving.{holds_as, prints_so}
use Rattle.mbdc_commands.proofs.Printed.{kept_so, written_out}
use Rattle.mbdc_poll.specs.Printed.{events_as}
use Rattle.mbdc_commands.proofs.poll.poll_printed.Goals as goal

pub returns : goal.returns
returns g c =
    let done = c.is_printed-is_printed in
    prints_so _ g.D.Disk _ _ _ _ _ c.args.disk c.poll-disk.result.0 g.O.Write.contents g.K.Known.writes c.args.out _ done.result c.args.printing.form c.new-timer.result.waits c.poll-disk.result.1
    c.new-timer.ensures.waits c.requires.known (kept_so (line_writer_contents g.O.Write.contents) _ _ _ c.in-Ok.ensures.bytes c.new-out.ensures.writer)
    (holds_as _ g.D.Disk _ _ _ _ _ c.args.disk c.poll-disk.result.0 _ _ c.poll-disk.result.1 c.poll-disk.ensures
    (λ events taken. written_out g.O.Write.contents g.K.Known.writes _ _ _ _ done.result (events_as c.args.printing.form events) c.new-out.ensures.well (λ all. c.events_are_printed.ensures _ _ events (taken (done.ensures.took all))) done.ensures.well done.ensures.left))
