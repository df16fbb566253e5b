use Rattle.std.proofs.Common.{◌==◌}
use Rattle.std.specs.Io.Buffered.{line_writer_contents}
use Rattle.mbdc_commands.proofs.Printed.{kept_so, nothing_put, printed_so, read_so, written_out}
use Rattle.mbdc_commands.proofs.RunLeaving.{none_done, runs_so}
use Rattle.mbdc_commands.specs.Bytes.{text_of}
use Rattle.mbdc_commands.specs.RunOver.{OverGateway}
use Rattle.dc_poller.specs.Link.{link_of}
use Rattle.mbdc_commands.proofs.run.run_lines.Goals as goal

pub returns-in_default : goal.returns-in_default
returns-in_default g c =
    none_done g.D.Disk (link_of g.B.Bus.lost c.args.gateway.now) (OverGateway g.B.Bus.lost g.B.Bus.asks c.args.gateway.now c.args.gateway.now) (λ P Q shows p. shows _ p) g.O.Write.contents c.args.out c.args.disk c.args.disk (g.F.Read.remaining c.args.lines)

pub returns : goal.returns
returns g c =
    runs_so g.D.Disk (link_of g.B.Bus.lost c.args.gateway.now) (OverGateway g.B.Bus.lost g.B.Bus.asks c.args.gateway.now c.run_script_over-disk.new.gateway) (λ P Q shows p. shows _ p) g.O.Write.contents c.args.out c.args.disk c.run_script_over-disk.result.0
    c.run_script_over-disk.result.1 c.run_result.result c.is_written-is_written.result _ (g.F.Read.remaining c.args.lines) _ _
    (read_so g.F.Read.remaining g.K.Known.reads c.args.lines _ c.requires.reads c.new-reader.ensures.reader)
    c.run_result.ensures
    (λ other text put. printed_so g.O.Write.contents g.K.Known.writes c.args.out _ _ text c.requires.writes
    (kept_so (line_writer_contents g.O.Write.contents) _ _ _ c.in-Ok.ensures.bytes c.new-writer.ensures.writer)
    (written_out g.O.Write.contents g.K.Known.writes _ _ _ _ c.is_written-is_written.result text c.new-writer.ensures.well (λ all. put) (λ all. c.is_written-is_written.ensures.well all other) (λ all. c.is_written-is_written.ensures.left all other)))
    (λ same. nothing_put c.new-writer.result c.run_script_over-disk.new.writer (λ w. text_of g.K.Known.writes (w.sink.failures == 0) (line_writer_contents g.O.Write.contents w.sink.writer)) same)
    (c.run_script_over-disk.ensures.ran c.requires.stands) (c.run_script_over-disk.ensures.cut c.requires.stands) (c.run_script_over-disk.ensures.starved c.requires.stands) c.run_script_over-disk.ensures.unread c.run_script_over-disk.ensures.unopened c.run_script_over-disk.ensures.untouched c.run_script_over-disk.ensures.ended.fits c.run_script_over-disk.ensures.ended.too_long
